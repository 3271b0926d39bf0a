-- `slots::sound_blocks` meets its contract: each entry below i is sound. Assumes nothing.
use Prim.Native.Nat.{◌≤◌, ◌-◌}
use mathlib.Core.Path.{◌≡◌}
use mathlib.Core.Bool.{true}
use Rattle.words.specs.Below.{every_below}
use Rattle.slots.specs.Slots.{entry_sound}
use Rattle.slots.proofs.sound_blocks.Given as goal

abbrev pub invariant-loop-i : goal.invariant-loop-i
invariant-loop-i l = (l.i ≤ l.n) × (every_below (λ k. entry_sound l.keys l.fields k) l.i ≡ true)

abbrev pub decreases-loop-i : goal.decreases-loop-i
decreases-loop-i l = l.n - l.i
