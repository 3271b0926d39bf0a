-- From what the called operations leave to what the definition of a fabric's removal says. Assumes nothing.
use Prim.Native.Nat.{ℕ, ◌+◌, ◌≤◌}
use mathlib.Core.Path.{◌≡◌, sym, ap, ◌∙◌}
use mathlib.Core.Bool.{Bool}
use mathlib.Core.List.{List}
use lib.Dec.{ltb}
use lib.ListN.{length}
use Rattle.words.specs.Constants.{success}
use Rattle.words.proofs.Below.{kept_le}
use Rattle.records.specs.Records.{others_of, moved}
use Rattle.state.specs.Table.{Table, with_record_count, bump_if}
use Rattle.state.specs.Answer.{result_of}
use Rattle.lifecycle.specs.Lifecycle.{removed_fabric}

-- n records are left, r are their words, and b is whether anything went

pub removed-fabric : (fabric : ℕ) (t u : Table) (n : ℕ) (r : List ℕ) (b : Bool)
    → n ≡ length (others_of t.records t.state.recorded fabric)
    → r ≡ moved (others_of t.records t.state.recorded fabric) t.records
    → ltb (u.state.entries + n) (t.state.entries + t.state.recorded) ≡ b
    → result_of success b (record { state = bump_if b (with_record_count n u.state); slots = u.slots; records = r }) ≡ removed_fabric fabric t u
unfolding removed_fabric
removed-fabric fabric t u n r b e1 e2 e3 =
    let w = sym e3 ∙ ap (λ (m : ℕ). ltb (u.state.entries + m) (t.state.entries + t.state.recorded)) e1 in
    λ i. result_of success (w i) (record { state = bump_if (w i) (with_record_count (e1 i) u.state); slots = u.slots; records = e2 i })

pub others_le : (records : List ℕ) (n fabric : ℕ) → length (others_of records n fabric) ≤ n
unfolding others_of
others_le records n fabric = kept_le _ n
