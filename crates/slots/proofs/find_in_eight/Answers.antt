-- `slots::find_in_eight` meets its contract: the first four positions tell, or the others. Assumes nothing.
use Prim.Native.Nat.{◌+◌}
use mathlib.Core.Path.{sym, ◌∙◌}
use native.Mathlib.Omega.{arith}
use Rattle.words.proofs.Below.{first_stays}
use Rattle.slots.specs.Slots.{first_key}
use Rattle.slots.proofs.find_in_eight.Goals as goal

pub returns-in-Some : goal.returns-in-Some
unfolding first_key
returns-in-Some c =
    sym (first_stays _ _ (c.args.at + 4) _ (omega arith) (sym c.find_in_four.ensures ∙ c.in-Some.is))
