-- `slots::find` meets its contract: no position below i holds the key word. Assumes nothing.
use Prim.Native.Nat.{◌+◌}
use mathlib.Core.Path.{sym, ◌∙◌}
use native.Mathlib.Omega.{arith}
use Rattle.words.proofs.Below.{first_none, first_stays}
use Rattle.slots.specs.Slots.{first_key}
use Rattle.slots.proofs.find.Goals as goal

pub loop-i-init : goal.loop-i-init
unfolding first_key
loop-i-init c =
    (omega arith, first_none _)

pub returns-in-Some : goal.returns-in-Some
unfolding first_key
returns-in-Some c =
    sym (first_stays _ _ (c.loop-i.i + 8) _ (omega arith) (sym c.find_in_eight.ensures ∙ c.in-Some.is))
