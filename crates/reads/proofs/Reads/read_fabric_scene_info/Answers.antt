-- `Reads::read_fabric_scene_info` meets its contract. Assumes nothing.
use Prim.Native.Nat.{◌<◌}
use mathlib.Core.Path.{refl, ◌≡◌, sym, ap, ◌∙◌}
use native.Mathlib.Omega.{arith}
use Rattle.words.specs.Words.{group_of, scene_of}
use Rattle.std.specs.Prelude.{Option, Some, None, ℕ}
use Rattle.records.specs.Records.{first_owned}
use Rattle.records.proofs.Laws.{found_under}
use Rattle.words.proofs.Refusals.{refusal-number}
use Rattle.requests.specs.Requests.{info_gate}
use Rattle.state.specs.Table.{Table, table_of}
use Rattle.reads.specs.Reads.{read_fabric_scene_info}
use Rattle.state.proofs.Guard.{Admitted, admits, refuses}
use Rattle.reads.proofs.Laws.{no_row_lem, entries-row, record_row}
use Rattle.reads.proofs.Reads.read_fabric_scene_info.Goals as goal

pub returns-in-Err : goal.returns-in-Err
unfolding read_fabric_scene_info
returns-in-Err c =
    let came : Table = let a = c.args in
    table_of a.self.state a.keys.now a.times.now a.fields.now a.records.now in
    c.refused_by.ensures ∙ refuses came c.requires _ _ c.in-Err.ensures _ _ (refusal-number _)

pub count-count-requires : goal.count-count-requires
count-count-requires c =
    let came : Table = let a = c.args in
    table_of a.self.state a.keys.now a.times.now a.fields.now a.records.now in
    let admitted : (let a = c.args in
    Admitted came (info_gate a.fabric a.single)) = admits _ c.requires _ _ c.in_default.ensures refl in
    let h = admitted.room in
    omega arith

pub remaining_capacity_for_fab-remaining-requires : goal.remaining_capacity_for_fab-remaining-requires
remaining_capacity_for_fab-remaining-requires c =
    let came : Table = let a = c.args in
    table_of a.self.state a.keys.now a.times.now a.fields.now a.records.now in
    let admitted : (let a = c.args in
    Admitted came (info_gate a.fabric a.single)) = admits _ c.requires _ _ c.in_default.ensures refl in
    let h = admitted.room in
    omega arith

pub find-requires : goal.find-requires
find-requires c =
    let came : Table = let a = c.args in
    table_of a.self.state a.keys.now a.times.now a.fields.now a.records.now in
    let admitted : (let a = c.args in
    Admitted came (info_gate a.fabric a.single)) = admits _ c.requires _ _ c.in_default.ensures refl in
    let h = admitted.room in
    omega arith

pub returns-then-count-eq0 : goal.returns-then-count-eq0
unfolding read_fabric_scene_info
returns-then-count-eq0 c =
    let came : Table = let a = c.args in
    table_of a.self.state a.keys.now a.times.now a.fields.now a.records.now in
    let owned : Option ℕ = let a = c.args in
    first_owned a.records.now a.self.state.recorded a.fabric a.endpoint in
    let admitted : (let a = c.args in
    Admitted came (info_gate a.fabric a.single)) = admits _ c.requires _ _ c.in_default.ensures refl in
    let none : None ≡ owned = sym c.in_default-find.is ∙ c.find.ensures in
    no_row_lem c.args.fabric _ _ came _ _ c.remaining_capacity_for_fab-remaining.ensures c.count-count.ensures _ c.absent.ensures none c.if-count-eq0.true
    ∙ admitted.answers _ _

pub returns-in_default-find : goal.returns-in_default-find
unfolding read_fabric_scene_info
returns-in_default-find c =
    let came : Table = let a = c.args in
    table_of a.self.state a.keys.now a.times.now a.fields.now a.records.now in
    let owned : Option ℕ = let a = c.args in
    first_owned a.records.now a.self.state.recorded a.fabric a.endpoint in
    let admitted : (let a = c.args in
    Admitted came (info_gate a.fabric a.single)) = admits _ c.requires _ _ c.in_default.ensures refl in
    let none : None ≡ owned = sym c.in_default-find.is ∙ c.find.ensures in
    entries-row c.args.fabric _ _ came _ _ c.remaining_capacity_for_fab-remaining.ensures c.count-count.ensures _ c.row.ensures none c.if-count-eq0.false
    ∙ admitted.answers _ _

pub offset_bounds-records-at : goal.offset_bounds-records-at
offset_bounds-records-at c =
    let came : Table = let a = c.args in
    table_of a.self.state a.keys.now a.times.now a.fields.now a.records.now in
    let owned : Option ℕ = let a = c.args in
    first_owned a.records.now a.self.state.recorded a.fabric a.endpoint in
    let admitted : (let a = c.args in
    Admitted came (info_gate a.fabric a.single)) = admits _ c.requires _ _ c.in_default.ensures refl in
    let known : Some c.in-Some.at ≡ owned = sym c.in-Some.is ∙ c.find.ensures in
    let under : c.in-Some.at < c.args.self.state.recorded = found_under _ _ _ _ _ (sym known) in
    let h = admitted.bounds in
    omega (arith, h.most, h.recorded, under)

pub bounds-records-at : goal.bounds-records-at
bounds-records-at c =
    let came : Table = let a = c.args in
    table_of a.self.state a.keys.now a.times.now a.fields.now a.records.now in
    let owned : Option ℕ = let a = c.args in
    first_owned a.records.now a.self.state.recorded a.fabric a.endpoint in
    let admitted : (let a = c.args in
    Admitted came (info_gate a.fabric a.single)) = admits _ c.requires _ _ c.in_default.ensures refl in
    let known : Some c.in-Some.at ≡ owned = sym c.in-Some.is ∙ c.find.ensures in
    let under : c.in-Some.at < c.args.self.state.recorded = found_under _ _ _ _ _ (sym known) in
    let h = admitted.room in
    let u = under in
    omega arith

pub returns : goal.returns
unfolding read_fabric_scene_info
returns c =
    let came : Table = let a = c.args in
    table_of a.self.state a.keys.now a.times.now a.fields.now a.records.now in
    let owned : Option ℕ = let a = c.args in
    first_owned a.records.now a.self.state.recorded a.fabric a.endpoint in
    let admitted : (let a = c.args in
    Admitted came (info_gate a.fabric a.single)) = admits _ c.requires _ _ c.in_default.ensures refl in
    let known : Some c.in-Some.at ≡ owned = sym c.in-Some.is ∙ c.find.ensures in
    record_row c.args.fabric _ _ came _ _ c.remaining_capacity_for_fab-remaining.ensures c.count-count.ensures _ _ _ _ _ c.row-2.ensures known
    (c.group_of-group.ensures ∙ ap group_of c.key_of_record-key.ensures) (c.scene_of-scene.ensures ∙ ap scene_of c.key_of_record-key.ensures) c.is_valid-valid.ensures
    ∙ admitted.answers _ _
