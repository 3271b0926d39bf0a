-- `Lifecycle::remove_for_fabric` meets its contract. Assumes nothing.
use mathlib.Core.Path.{◌≡◌, refl, ap, ◌∙◌}
use mathlib.Core.Bool.{true, false}
use native.Mathlib.Omega.{arith}
use borrow.Author.Tests.{lt-ltb, le-ltb}
use Rattle.words.specs.Constants.{success}
use Rattle.words.specs.Words.{fabric_keys}
use Rattle.words.proofs.Refusals.{refusal-number}
use Rattle.requests.specs.Requests.{fabric_gate}
use Rattle.state.specs.declared.ScenesState.{ScenesState}
use Rattle.state.specs.Table.{Table, table_of, with_entries}
use Rattle.state.specs.Change.{retain_outside}
use Rattle.state.specs.Answer.{result_of}
use Rattle.state.proofs.Guard.{Admitted, admits, refuses-outcome, result_in}
use Rattle.state.proofs.Changes.{retained_entries, retained_table}
use Rattle.lifecycle.specs.Lifecycle.{removed_fabric, remove_for_fabric}
use Rattle.lifecycle.proofs.Laws.{others_le, removed-fabric}
use Rattle.lifecycle.proofs.Lifecycle.remove_for_fabric.Goals as goal

pub returns-in-Err : goal.returns-in-Err
unfolding remove_for_fabric
returns-in-Err c =
    let came : Table = let a = c.args in
    table_of a.self.state a.keys.now a.times.now a.fields.now a.records.now in
    refuses-outcome came c.requires _ _ c.in-Err.ensures _ _ c.refused_by.ensures (refusal-number _)

pub retain-state-requires : goal.retain-state-requires
retain-state-requires c =
    let came : Table = let a = c.args in
    table_of a.self.state a.keys.now a.times.now a.fields.now a.records.now in
    let admitted : Admitted came (fabric_gate c.args.fabric) = admits _ c.requires _ _ c.in_default.ensures refl in
    let h = admitted.room in
    record { entries_in_bounds = omega arith; entries_in_bounds_2 = omega arith; stride_in_bounds = omega arith }

pub retain-left-requires : goal.retain-left-requires
retain-left-requires c =
    let came : Table = let a = c.args in
    table_of a.self.state a.keys.now a.times.now a.fields.now a.records.now in
    let admitted : Admitted came (fabric_gate c.args.fabric) = admits _ c.requires _ _ c.in_default.ensures refl in
    let h = admitted.room in
    omega (arith, h.recorded, h.records)

pub overflow_add-state : goal.overflow_add-state
overflow_add-state c =
    let came : Table = let a = c.args in
    table_of a.self.state a.keys.now a.times.now a.fields.now a.records.now in
    let admitted : Admitted came (fabric_gate c.args.fabric) = admits _ c.requires _ _ c.in_default.ensures refl in
    let h = admitted.bounds in
    let t = came in
    omega (
      arith,
      h.most,
      h.entries,
      h.recorded,
      retained_entries t _ _ _ _ _ c.retain-state.ensures,
      c.retain-left.ensures.0,
      others_le t.records t.state.recorded c.args.fabric,
    )

pub overflow_add-entries : goal.overflow_add-entries
overflow_add-entries c =
    let came : Table = let a = c.args in
    table_of a.self.state a.keys.now a.times.now a.fields.now a.records.now in
    let admitted : Admitted came (fabric_gate c.args.fabric) = admits _ c.requires _ _ c.in_default.ensures refl in
    let h = admitted.bounds in
    omega (arith, h.most, h.entries, h.recorded)

pub returns-then-state-left : goal.returns-then-state-left
unfolding remove_for_fabric
returns-then-state-left c =
    let came : Table = let a = c.args in
    table_of a.self.state a.keys.now a.times.now a.fields.now a.records.now in
    let left : Table = table_of c.retain-state.result c.retain-state.new.keys c.retain-state.new.times c.retain-state.new.fields came.records in
    let admitted : Admitted came (fabric_gate c.args.fabric) = admits _ c.requires _ _ c.in_default.ensures refl in
    let left_by : (left ≡ with_entries (retain_outside (fabric_keys c.args.fabric)) came) = retained_table came _ _ _ _ _ c.retain-state.ensures in
    let t = came in
    ap (result_in left.slots c.retain-left.new.records) c.saved.ensures
    ∙ ap (λ (s : ScenesState). result_of success true (record { state = s; slots = left.slots; records = c.retain-left.new.records })) c.bump_info_dataver.ensures
    ∙ removed-fabric c.args.fabric t left _ _ true c.retain-left.ensures.0 c.retain-left.ensures.1 (lt-ltb _ _ c.if-state-left.true)
    ∙ ap (removed_fabric c.args.fabric t) left_by
    ∙ admitted.answers _ _

pub returns : goal.returns
unfolding remove_for_fabric
returns c =
    let came : Table = let a = c.args in
    table_of a.self.state a.keys.now a.times.now a.fields.now a.records.now in
    let left : Table = table_of c.retain-state.result c.retain-state.new.keys c.retain-state.new.times c.retain-state.new.fields came.records in
    let admitted : Admitted came (fabric_gate c.args.fabric) = admits _ c.requires _ _ c.in_default.ensures refl in
    let left_by : (left ≡ with_entries (retain_outside (fabric_keys c.args.fabric)) came) = retained_table came _ _ _ _ _ c.retain-state.ensures in
    let t = came in
    ap (result_in left.slots c.retain-left.new.records) c.unsaved.ensures
    ∙ removed-fabric c.args.fabric t left _ _ false c.retain-left.ensures.0 c.retain-left.ensures.1 (le-ltb _ _ c.if-state-left.false)
    ∙ ap (removed_fabric c.args.fabric t) left_by
    ∙ admitted.answers _ _
