-- `text_input::input::lay_pairs` meets its contract. Assumes nothing.
use Prim.Native.Nat.{◌*◌}
use mathlib.Core.Path.{◌≡◌}
use mathlib.Core.Bool.{true}
use mathlib.Core.List.{◌++◌}
use lib.ListN.{take, drop}
use Rattle.text_input.specs.Reading.{all_pairs, pair_bytes}
use Rattle.text_input.proofs.input.lay_pairs.Given as goal

abbrev pub invariant-loop-i : goal.invariant-loop-i
invariant-loop-i l = (pair_bytes l.initial.word ≡ take l.i l.word ++ pair_bytes (drop (2 * l.i) l.word))
    × (all_pairs (drop (2 * l.i) l.word) ≡ true)
    × (drop l.i l.word ≡ drop l.i l.initial.word)
