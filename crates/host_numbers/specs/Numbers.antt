-- What the numbers mean that a host passes where the calls take an enum or a truth value. Every number means something. What a number
-- says of a membership is `membership_of` of requests.
use Rattle.std.specs.Prelude.{ℕ, Bool, true, false, cond, eqb}
use Rattle.commands.specs.declared.Applied.{Applied}
use Rattle.commands.specs.declared.Applied.TheVariants as applied
use Rattle.reads.specs.Reads.{Transition}
use Rattle.std.specs.Prelude.{None, Some}

-- 1 is yes; at any other number the host could not apply the scene
unfoldable pub applied_of : ℕ → Applied
applied_of n = cond (eqb n 1) applied.Yes applied.Failed

-- 0 is the stored time, whatever the override; at any other number the override counts
unfoldable pub transition_of : ℕ → ℕ → Transition
transition_of n time = cond (eqb n 0) None (Some time)

-- 0 is no, any other number is yes
unfoldable pub truth_of : ℕ → Bool
truth_of n = cond (eqb n 0) false true
