-- `Commands::remove_scene` meets its contract. Assumes nothing.
use Prim.Native.Nat.{◌<◌}
use mathlib.Core.Path.{refl, ◌≡◌, sym, ap, ◌∙◌}
use mathlib.Core.Bool.{true}
use native.Mathlib.Omega.{arith}
use Rattle.words.specs.Constants.{success}
use Rattle.std.specs.Prelude.{Option, ℕ}
use Rattle.records.specs.declared.Scope.TheVariants.{Scene}
use Rattle.words.proofs.Refusals.{refusal-number}
use Rattle.requests.specs.Requests.{lookup_gate}
use Rattle.state.specs.Table.{Table, table_of}
use Rattle.state.specs.Current.{invalidate_current}
use Rattle.state.specs.Change.{find_scene, swap_remove}
use Rattle.state.specs.Answer.{result_of}
use Rattle.state.proofs.Laws.{found_under}
use Rattle.state.proofs.Guard.{Admitted, admits, refuses-outcome, result_in}
use Rattle.state.proofs.Changes.{found-scene, changed_both, swapped_recorded}
use Rattle.commands.specs.Commands.{remove_found, remove_scene}
use Rattle.commands.proofs.Commands.remove_scene.Goals as goal

pub returns-in-Err : goal.returns-in-Err
unfolding remove_scene
returns-in-Err c =
    let came : Table = let a = c.args in
    table_of a.self.state a.keys.now a.times.now a.fields.now a.records.now in
    refuses-outcome came c.requires _ _ c.in-Err.ensures _ _ c.refused_by.ensures (refusal-number _)

pub find-requires : goal.find-requires
find-requires c =
    let came : Table = let a = c.args in
    table_of a.self.state a.keys.now a.times.now a.fields.now a.records.now in
    let admitted : (let a = c.args in
    Admitted came (lookup_gate a.key a.member)) = admits _ c.requires _ _ c.in_default.ensures refl in
    let h = admitted.room in
    omega arith

pub returns-in_default-find : goal.returns-in_default-find
unfolding remove_scene remove_found
returns-in_default-find c =
    let came : Table = let a = c.args in
    table_of a.self.state a.keys.now a.times.now a.fields.now a.records.now in
    let admitted : (let a = c.args in
    Admitted came (lookup_gate a.key a.member)) = admits _ c.requires _ _ c.in_default.ensures refl in
    let found : (c.find.result ≡ find_scene c.args.key came) = found-scene _ came _ _ c.word.ensures c.find.ensures in
    let t = came in
    ap (result_in t.slots t.records) c.refused_by-in_default-find.ensures
    ∙ ap (λ (x : Option ℕ). remove_found x c.args.key t) (sym c.in_default-find.is ∙ found)
    ∙ admitted.answers _ _

pub swap_remove-shorter-requires : goal.swap_remove-shorter-requires
swap_remove-shorter-requires c =
    let came : Table = let a = c.args in
    table_of a.self.state a.keys.now a.times.now a.fields.now a.records.now in
    let admitted : (let a = c.args in
    Admitted came (lookup_gate a.key a.member)) = admits _ c.requires _ _ c.in_default.ensures refl in
    let found : (c.find.result ≡ find_scene c.args.key came) = found-scene _ came _ _ c.word.ensures c.find.ensures in
    let under : c.in-Some.at < c.args.self.state.entries = found_under _ _ _ _ (sym found ∙ c.in-Some.is) in
    let h = admitted.room in
    let u = under in
    record { at_lt_entries = omega arith; entries_in_bounds = omega arith; entries_in_bounds_2 = omega arith; stride_in_bounds = omega arith }

pub invalidate_current-requires : goal.invalidate_current-requires
invalidate_current-requires c =
    let came : Table = let a = c.args in
    table_of a.self.state a.keys.now a.times.now a.fields.now a.records.now in
    let admitted : (let a = c.args in
    Admitted came (lookup_gate a.key a.member)) = admits _ c.requires _ _ c.in_default.ensures refl in
    let h = admitted.room in
    omega (arith, swapped_recorded came _ _ _ _ _ c.swap_remove-shorter.ensures, h.recorded, h.records)

pub returns : goal.returns
unfolding remove_scene remove_found
returns c =
    let came : Table = let a = c.args in
    table_of a.self.state a.keys.now a.times.now a.fields.now a.records.now in
    let admitted : (let a = c.args in
    Admitted came (lookup_gate a.key a.member)) = admits _ c.requires _ _ c.in_default.ensures refl in
    let found : (c.find.result ≡ find_scene c.args.key came) = found-scene _ came _ _ c.word.ensures c.find.ensures in
    let t = came in
    ap (result_in _ _) c.saved.ensures
    ∙ ap (result_of success true) (changed_both t (swap_remove c.in-Some.at) _ _ _ _ c.swap_remove-shorter.ensures (invalidate_current (Scene c.args.key)) _ _ c.invalidate_current.ensures)
    ∙ ap (λ (x : Option ℕ). remove_found x c.args.key t) (sym c.in-Some.is ∙ found)
    ∙ admitted.answers _ _
