-- `text_input::input::number` meets its contract. Assumes nothing.
use mathlib.Core.Path.{◌≡◌}
use lib.ListN.{drop}
use Rattle.text_input.specs.Reading.{number_of, number_from}
use Rattle.text_input.proofs.input.number.Given as goal

abbrev pub invariant-loop-b : goal.invariant-loop-b
invariant-loop-b l = number_of l.most l.word ≡ number_from l.most l.value (drop l.b-index l.word)
