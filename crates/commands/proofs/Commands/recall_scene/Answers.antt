-- `Commands::recall_scene` meets its contract. Assumes nothing.
use mathlib.Core.Path.{refl, ◌≡◌, sym, ap, ◌∙◌}
use mathlib.Core.Bool.{true}
use native.Mathlib.Omega.{arith}
use Rattle.words.specs.Constants.{success}
use Rattle.std.specs.Prelude.{Option, Some, ℕ}
use Rattle.words.proofs.Refusals.{refusal-number}
use Rattle.requests.specs.Requests.{lookup_gate}
use Rattle.state.specs.Table.{Table, table_of}
use Rattle.state.specs.Current.{remember_current}
use Rattle.state.specs.Change.{find_scene}
use Rattle.state.specs.Answer.{result_of}
use Rattle.state.proofs.Guard.{Admitted, admits, refuses-outcome, result_in}
use Rattle.state.proofs.Changes.{found-scene, changed_current}
use Rattle.commands.specs.Commands.{recall_found, recall_scene}
use Rattle.commands.proofs.Commands.recall_scene.Goals as goal

pub returns-in-Err : goal.returns-in-Err
unfolding recall_scene
returns-in-Err c =
    let came : Table = let a = c.args in
    table_of a.self.state a.keys.now a.times.now a.fields.now a.records.now in
    refuses-outcome came c.requires _ _ c.in-Err.ensures _ _ c.refused_by.ensures (refusal-number _)

pub find-requires : goal.find-requires
find-requires c =
    let came : Table = let a = c.args in
    table_of a.self.state a.keys.now a.times.now a.fields.now a.records.now in
    let admitted : (let a = c.args in
    Admitted came (lookup_gate a.key a.member)) = admits _ c.requires _ _ c.in_default.ensures refl in
    let h = admitted.room in
    omega arith

pub returns-in_default-find : goal.returns-in_default-find
unfolding recall_scene recall_found
returns-in_default-find c =
    let came : Table = let a = c.args in
    table_of a.self.state a.keys.now a.times.now a.fields.now a.records.now in
    let admitted : (let a = c.args in
    Admitted came (lookup_gate a.key a.member)) = admits _ c.requires _ _ c.in_default.ensures refl in
    let found : (c.find.result ≡ find_scene c.args.key came) = found-scene _ came _ _ c.word.ensures c.find.ensures in
    let a = c.args in
    let t = came in
    ap (result_in t.slots t.records) c.refused_by-in_default-find.ensures
    ∙ ap (λ (x : Option ℕ). recall_found x a.key a.applied t) (sym c.in_default-find.is ∙ found)
    ∙ admitted.answers _ _

pub remember_current-requires : goal.remember_current-requires
remember_current-requires c =
    let came : Table = let a = c.args in
    table_of a.self.state a.keys.now a.times.now a.fields.now a.records.now in
    let admitted : (let a = c.args in
    Admitted came (lookup_gate a.key a.member)) = admits _ c.requires _ _ c.in_default.ensures refl in
    let h = admitted.room in
    record { recorded_le_size = omega arith; size_in_bounds = omega arith }

pub returns-in-Yes : goal.returns-in-Yes
unfolding recall_scene recall_found
returns-in-Yes c =
    let came : Table = let a = c.args in
    table_of a.self.state a.keys.now a.times.now a.fields.now a.records.now in
    let admitted : (let a = c.args in
    Admitted came (lookup_gate a.key a.member)) = admits _ c.requires _ _ c.in_default.ensures refl in
    let found : (c.find.result ≡ find_scene c.args.key came) = found-scene _ came _ _ c.word.ensures c.find.ensures in
    let known : (Some c.in-Some.field-0 ≡ find_scene c.args.key came) = sym c.in-Some.is ∙ found in
    let t = came in
    ap (result_in _ _) c.saved.ensures
    ∙ ap (result_of success true) (changed_current t (remember_current c.args.key) _ _ c.remember_current.ensures)
    ∙ (λ i. recall_found (known i) c.args.key (sym c.in-Yes.is i) t)
    ∙ admitted.answers _ _

pub returns-in-Failed : goal.returns-in-Failed
unfolding recall_scene recall_found
returns-in-Failed c =
    let came : Table = let a = c.args in
    table_of a.self.state a.keys.now a.times.now a.fields.now a.records.now in
    let admitted : (let a = c.args in
    Admitted came (lookup_gate a.key a.member)) = admits _ c.requires _ _ c.in_default.ensures refl in
    let found : (c.find.result ≡ find_scene c.args.key came) = found-scene _ came _ _ c.word.ensures c.find.ensures in
    let known : (Some c.in-Some.field-0 ≡ find_scene c.args.key came) = sym c.in-Some.is ∙ found in
    let t = came in
    ap (result_in t.slots t.records) c.refused_by-in-Failed.ensures
    ∙ (λ i. recall_found (known i) c.args.key (sym c.in-Failed.is i) t)
    ∙ admitted.answers _ _
