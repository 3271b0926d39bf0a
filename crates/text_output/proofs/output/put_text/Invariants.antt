-- `text_output::output::put_text` meets its contract. Assumes nothing.
use mathlib.Core.Path.{◌≡◌}
use lib.ListN.{drop}
use Rattle.text_output.specs.Writing.{sheet, puts}
use Rattle.text_output.proofs.output.put_text.Given as goal

abbrev pub invariant-loop-b : goal.invariant-loop-b
invariant-loop-b l = puts l.text (sheet l.initial.out l.at) ≡ puts (drop l.b-index l.text) (sheet l.out l.next)
