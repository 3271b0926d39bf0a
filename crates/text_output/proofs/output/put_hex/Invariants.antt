-- `text_output::output::put_hex` meets its contract. Assumes nothing.
use mathlib.Core.Path.{◌≡◌}
use lib.ListN.{drop}
use Rattle.text_output.specs.Writing.{sheet, puts, hex_text}
use Rattle.text_output.proofs.output.put_hex.Given as goal

abbrev pub invariant-loop-b : goal.invariant-loop-b
invariant-loop-b l = puts (hex_text l.bytes) (sheet l.initial.out l.at) ≡ puts (hex_text (drop l.b-index l.bytes)) (sheet l.out l.next)
