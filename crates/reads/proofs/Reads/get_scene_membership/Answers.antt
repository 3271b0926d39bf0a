-- `Reads::get_scene_membership` meets its contract. Assumes nothing.
use Prim.Native.Nat.{ℕ, ◌≤◌, ◌<◌}
use mathlib.Core.Path.{refl, ◌≡◌, sym, ◌∙◌}
use mathlib.Core.Bool.{Bool, true, false}
use mathlib.Core.List.{List}
use native.Mathlib.Omega.{arith}
use lib.Dec.{leb}
use lib.ListN.{length}
use borrow.Author.Tests.{lt-ltb, le-ltb, leb-true, leb-false}
use Rattle.words.specs.Constants.{success, buffer_too_short}
use Rattle.words.specs.declared.GroupKey.{GroupKey}
use Rattle.words.specs.declared.KeyRange.TheVariants.{Group}
use Rattle.words.proofs.Refusals.{refusal-number}
use Rattle.requests.specs.Requests.{group_gate}
use Rattle.slots.specs.Slots.{count_keys, laid}
use Rattle.slots.proofs.Laws.{scenes-length}
use Rattle.state.specs.Table.{Table, table_of}
use Rattle.state.specs.Capacity.{remaining}
use Rattle.reads.specs.Reads.{listed_of, unlisted, scene_ids, list_ids, get_scene_membership}
use Rattle.state.proofs.Guard.{Admitted, admits, refuses}
use Rattle.reads.proofs.Reads.get_scene_membership.Goals as goal

-- the list is as long as the group counts
size_of : (key : GroupKey) (t : Table) → count_keys t.slots.keys t.state.entries (Group key) ≡ length (scene_ids key t)
size_of key t = sym (scenes-length t.slots.keys (Group key) t.state.entries)

-- and the test for it is one of the list's length
module _ (key : GroupKey) (t : Table) {most : ℕ} {b : Bool} (e : b ≡ leb (count_keys t.slots.keys t.state.entries (Group key)) most) where
  fitting : b ≡ true → length (scene_ids key t) ≤ most
  fitting h = let l = leb-true (count_keys t.slots.keys t.state.entries (Group key)) most (sym e ∙ h) in omega (arith, size_of key t)

  too_long_lem : b ≡ false → most < length (scene_ids key t)
  too_long_lem h = let l = leb-false (count_keys t.slots.keys t.state.entries (Group key)) most (sym e ∙ h) in omega (arith, size_of key t)

list-long : (l : List ℕ) (left : ℕ) (buffer : List ℕ) (t : Table) → length buffer < length l → unlisted buffer t buffer_too_short ≡ list_ids l left buffer t
unfolding list_ids
list-long l left buffer t h = rw (lt-ltb (length buffer) (length l) h)

-- n ids were listed, and left is what remains
list-fits : (key : GroupKey) (left n : ℕ) (ids buffer : List ℕ) (t : Table)
    → n ≡ count_keys t.slots.keys t.state.entries (Group key)
    → ids ≡ laid (scene_ids key t) buffer
    → left ≡ remaining t.state t.slots.keys key.fabric
    → length (scene_ids key t) ≤ length buffer
    → listed_of (record { status = success; remaining = left; len = n; state = t.state }) ids
    ≡ list_ids (scene_ids key t) (remaining t.state t.slots.keys key.fabric) buffer t
unfolding list_ids
list-fits key left n ids buffer t e1 e2 e3 h =
    (λ i. listed_of (record { status = success; remaining = e3 i; len = (e1 ∙ size_of key t) i; state = t.state }) (e2 i))
    ∙ rw (le-ltb (length buffer) (length (scene_ids key t)) h)

pub returns-in-Err : goal.returns-in-Err
unfolding get_scene_membership
returns-in-Err c =
    let buffer : List ℕ = c.args.ids.now in
    let came : Table = let a = c.args in
    table_of a.self.state a.keys.now a.times.now a.fields.now a.records.now in
    (λ d. listed_of (c.refused_by.ensures d) buffer)
    ∙ refuses came c.requires _ _ c.in-Err.ensures (unlisted buffer came) _ (refusal-number _)

pub count_fits-requires : goal.count_fits-requires
count_fits-requires c =
    let came : Table = let a = c.args in
    table_of a.self.state a.keys.now a.times.now a.fields.now a.records.now in
    let admitted : (let a = c.args in
    Admitted came (group_gate a.key a.member)) = admits _ c.requires _ _ c.in_default.ensures refl in
    let h = admitted.room in
    omega arith

pub list_scenes-len-requires : goal.list_scenes-len-requires
list_scenes-len-requires c =
    let came : Table = let a = c.args in
    table_of a.self.state a.keys.now a.times.now a.fields.now a.records.now in
    let admitted : (let a = c.args in
    Admitted came (group_gate a.key a.member)) = admits _ c.requires _ _ c.in_default.ensures refl in
    let h = admitted.room in
    record { n_in_bounds = omega arith; range_in_bounds = leb-true _ _ (sym c.count_fits.ensures ∙ c.if-count_fits.true) }

pub remaining_capacity_for_fab-requires : goal.remaining_capacity_for_fab-requires
remaining_capacity_for_fab-requires c =
    let came : Table = let a = c.args in
    table_of a.self.state a.keys.now a.times.now a.fields.now a.records.now in
    let admitted : (let a = c.args in
    Admitted came (group_gate a.key a.member)) = admits _ c.requires _ _ c.in_default.ensures refl in
    let h = admitted.room in
    omega arith

pub returns-then-count_fits : goal.returns-then-count_fits
unfolding get_scene_membership
returns-then-count_fits c =
    let buffer : List ℕ = c.args.ids.now in
    let came : Table = let a = c.args in
    table_of a.self.state a.keys.now a.times.now a.fields.now a.records.now in
    let admitted : (let a = c.args in
    Admitted came (group_gate a.key a.member)) = admits _ c.requires _ _ c.in_default.ensures refl in
    list-fits c.args.key _ _ _ buffer came c.list_scenes-len.ensures.0 c.list_scenes-len.ensures.1
    c.remaining_capacity_for_fab.ensures
    (fitting c.args.key came c.count_fits.ensures c.if-count_fits.true)
    ∙ admitted.answers (unlisted buffer came) _

pub returns : goal.returns
unfolding get_scene_membership
returns c =
    let came : Table = let a = c.args in
    table_of a.self.state a.keys.now a.times.now a.fields.now a.records.now in
    let admitted : (let a = c.args in
    Admitted came (group_gate a.key a.member)) = admits _ c.requires _ _ c.in_default.ensures refl in
    let a = c.args in
    (λ d. listed_of (c.refused_by-2.ensures d) a.ids.now)
    ∙ list-long (scene_ids a.key came) (remaining a.self.state a.keys.now a.key.fabric) a.ids.now came
    (too_long_lem a.key came c.count_fits.ensures c.if-count_fits.false)
    ∙ admitted.answers (unlisted a.ids.now came) _
