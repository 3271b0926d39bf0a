-- `text_input::input::lay_digits` meets its contract. Assumes nothing.
use mathlib.Core.Path.{◌≡◌}
use mathlib.Core.List.{map, ◌++◌}
use lib.ListN.{take, drop}
use mathlib.Core.Bool.{true}
use Rattle.text_input.specs.Reading.{all_digits, digit_value}
use Rattle.text_input.proofs.input.lay_digits.Given as goal

abbrev pub invariant-loop-b : goal.invariant-loop-b
invariant-loop-b l = (map digit_value l.initial.word ≡ take l.b-index l.word ++ map digit_value (drop l.b-index l.word))
    × (drop l.b-index l.word ≡ drop l.b-index l.initial.word)
    × (all_digits (drop l.b-index l.word) ≡ true)
