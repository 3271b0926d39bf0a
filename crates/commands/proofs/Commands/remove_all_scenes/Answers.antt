-- `Commands::remove_all_scenes` meets its contract. Assumes nothing.
use mathlib.Core.Path.{refl, ◌≡◌, ap, ◌∙◌}
use mathlib.Core.Bool.{true}
use native.Mathlib.Omega.{arith}
use Rattle.words.specs.Constants.{success}
use Rattle.words.specs.Words.{group_keys}
use Rattle.records.specs.declared.Scope.TheVariants.{Group}
use Rattle.words.proofs.Refusals.{refusal-number}
use Rattle.requests.specs.Requests.{group_gate}
use Rattle.state.specs.Table.{Table, table_of, with_entries}
use Rattle.state.specs.Current.{invalidate_current}
use Rattle.state.specs.Change.{retain_outside}
use Rattle.state.specs.Answer.{result_of}
use Rattle.state.proofs.Guard.{Admitted, admits, refuses-outcome, result_in}
use Rattle.state.proofs.Changes.{changed_current, retained_recorded, retained_table}
use Rattle.commands.specs.Commands.{remove_all_scenes}
use Rattle.commands.proofs.Laws.{nothing_went, something_went}
use Rattle.commands.proofs.Commands.remove_all_scenes.Goals as goal

pub returns-in-Err : goal.returns-in-Err
unfolding remove_all_scenes
returns-in-Err c =
    let came : Table = let a = c.args in
    table_of a.self.state a.keys.now a.times.now a.fields.now a.records.now in
    refuses-outcome came c.requires _ _ c.in-Err.ensures _ _ c.refused_by.ensures (refusal-number _)

pub retain-left-requires : goal.retain-left-requires
retain-left-requires c =
    let came : Table = let a = c.args in
    table_of a.self.state a.keys.now a.times.now a.fields.now a.records.now in
    let admitted : (let a = c.args in
    Admitted came (group_gate a.key a.member)) = admits _ c.requires _ _ c.in_default.ensures refl in
    let h = admitted.room in
    record { entries_in_bounds = omega arith; entries_in_bounds_2 = omega arith; stride_in_bounds = omega arith }

pub returns-then-left-before : goal.returns-then-left-before
unfolding remove_all_scenes
returns-then-left-before c =
    let came : Table = let a = c.args in
    table_of a.self.state a.keys.now a.times.now a.fields.now a.records.now in
    let left : Table = table_of c.retain-left.result c.retain-left.new.keys c.retain-left.new.times c.retain-left.new.fields came.records in
    let admitted : (let a = c.args in
    Admitted came (group_gate a.key a.member)) = admits _ c.requires _ _ c.in_default.ensures refl in
    let left_by : (left ≡ with_entries (retain_outside (group_keys c.args.key.fabric c.args.key.endpoint c.args.key.group)) came) = retained_table came _ _ _ _ _ c.retain-left.ensures in
    ap (result_in left.slots left.records) c.unsaved.ensures
    ∙ nothing_went _ came _ _ left_by c.if-left-before.true
    ∙ admitted.answers _ _

pub invalidate_current-requires : goal.invalidate_current-requires
invalidate_current-requires c =
    let came : Table = let a = c.args in
    table_of a.self.state a.keys.now a.times.now a.fields.now a.records.now in
    let admitted : (let a = c.args in
    Admitted came (group_gate a.key a.member)) = admits _ c.requires _ _ c.in_default.ensures refl in
    let h = admitted.room in
    omega (arith, retained_recorded came _ _ _ _ _ c.retain-left.ensures, h.recorded, h.records)

pub returns : goal.returns
unfolding remove_all_scenes
returns c =
    let came : Table = let a = c.args in
    table_of a.self.state a.keys.now a.times.now a.fields.now a.records.now in
    let left : Table = table_of c.retain-left.result c.retain-left.new.keys c.retain-left.new.times c.retain-left.new.fields came.records in
    let admitted : (let a = c.args in
    Admitted came (group_gate a.key a.member)) = admits _ c.requires _ _ c.in_default.ensures refl in
    let left_by : (left ≡ with_entries (retain_outside (group_keys c.args.key.fabric c.args.key.endpoint c.args.key.group)) came) = retained_table came _ _ _ _ _ c.retain-left.ensures in
    ap (result_in _ _) c.saved.ensures
    ∙ ap (result_of success true) (changed_current left (invalidate_current (Group c.args.key)) _ _ c.invalidate_current.ensures)
    ∙ something_went _ came _ _ left_by c.if-left-before.false
    ∙ admitted.answers _ _
