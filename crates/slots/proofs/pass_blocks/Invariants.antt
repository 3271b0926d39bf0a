-- `slots::pass_blocks` meets its contract: below `at` each entry is sound, and no position holds the key word. Assumes nothing.
use Prim.Native.Nat.{◌≤◌, ◌-◌}
use mathlib.Core.Path.{◌≡◌}
use mathlib.Core.Bool.{true}
use Rattle.words.specs.Below.{every_below}
use Rattle.std.specs.Prelude.{None}
use Rattle.slots.specs.Slots.{first_key, entry_sound}
use Rattle.slots.proofs.pass_blocks.Given as goal

abbrev pub invariant-loop-at : goal.invariant-loop-at
invariant-loop-at l = (l.at ≤ l.n) × (every_below (λ k. entry_sound l.keys l.fields k) l.at ≡ true) × (first_key l.keys l.at l.key ≡ None)

abbrev pub decreases-loop-at : goal.decreases-loop-at
decreases-loop-at l = l.n - l.at
