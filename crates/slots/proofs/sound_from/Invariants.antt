-- `slots::sound_from` meets its contract: each entry below i is sound. Assumes nothing.
use mathlib.Core.Path.{◌≡◌}
use mathlib.Core.Bool.{true}
use Rattle.words.specs.Below.{every_below}
use Rattle.slots.specs.Slots.{entry_sound}
use Rattle.slots.proofs.sound_from.Given as goal

abbrev pub invariant-loop-i : goal.invariant-loop-i
invariant-loop-i l = every_below (λ k. entry_sound l.keys l.fields k) l.i ≡ true
