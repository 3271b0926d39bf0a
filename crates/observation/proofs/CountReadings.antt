-- What the count of a store is not (document 02, Q-6): part of a member's answer, or a sign of a refusal. Assumes nothing.
use Prim.Native.Nat.{ℕ}
use native.Mathlib.Omega.{arith}
use mathlib.Core.Path.{◌≡◌, refl}
use mathlib.Core.List.{[]}
use Rattle.words.specs.Constants.{success}
use Rattle.requests.specs.declared.Membership.TheVariants.{Yes}
use Rattle.state.specs.Table.{Table, empty_table}
use Rattle.commands.specs.Counted.{Counted, counted, store_counted}
use Rattle.observation.specs.Calls.{scene_key, next}
use Rattle.observation.specs.Equivalence.{Equivalent}
use Rattle.observation.proofs.Readings.{running, adds, lists_not_in_order}

-- fabric 1 stores scene 7 of group 0 on endpoint 1
abbrev store7 : Table → Counted
store7 t = store_counted (scene_key 1 1 0 7) Yes [] t

-- its scenes 7 and 8, in either order
abbrev two : ℕ → ℕ → Table
two a b = next (adds 1 1 b) (next (adds 1 1 a) (empty_table 2))

counts_differ : (store7 (two 7 8)).compared ≡ (store7 (two 8 7)).compared → ⊥
unfolding running store_counted counted
counts_differ e = omega (arith, e)

-- "the count is part of a member's answer": two tables are equivalent, and a store of that member counts 1 in the one and 2 in the other
pub count_not_answered : Equivalent 1 (two 7 8) (two 8 7) × ((store7 (two 7 8)).compared ≡ (store7 (two 8 7)).compared → ⊥)
count_not_answered = (lists_not_in_order.0, counts_differ)

-- "0 is the count of a refusal alone": a store into an empty table succeeds, and there was nothing to compare
pub zero_not_refused : ((store7 (empty_table 2)).result.status ≡ success) × ((store7 (empty_table 2)).compared ≡ 0)
unfolding running store_counted counted
zero_not_refused = (refl, refl)
