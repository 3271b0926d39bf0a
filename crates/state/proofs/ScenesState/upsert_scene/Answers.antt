-- `ScenesState::upsert_scene` meets its contract. Assumes nothing.
use Rattle.std.proofs.Common.{◌≡◌, ◌<◌, sym, ap, ◌∙◌, arith}
use Rattle.std.specs.Prelude.{Some}
use Rattle.records.specs.declared.Scope.TheVariants.{Scene}
use Rattle.state.specs.declared.ScenesState.{ScenesState}
use Rattle.state.specs.Table.{Table, table_of, current_of}
use Rattle.state.specs.Capacity.{place_for}
use Rattle.state.specs.Current.{invalidate_current}
use Rattle.state.specs.Change.{find_scene, saved}
use Rattle.state.proofs.Capacity.{unplaced}
use Rattle.state.proofs.Laws.{placed_within, upsert_placed, may_decide}
use Rattle.state.proofs.Guard.{result_in}
use Rattle.state.proofs.ScenesState.upsert_scene.Goals as goal

pub returns-in_default : goal.returns-in_default
returns-in_default c =
    let came : Table = let a = c.args in
    table_of a.self a.keys.now a.times.now a.fields.now a.records.now in
    let a = c.args in
    let none = unplaced a.self a.keys.now a.key.fabric _ (sym c.requires.place_value ∙ c.in_default.is) in
    ap (result_in came.slots came.records) c.refused_by.ensures
    ∙ ap saved (may_decide a.key a.time a.ext.now came none.0 none.1)

pub put-requires : goal.put-requires
put-requires c =
    let came : Table = let a = c.args in
    table_of a.self a.keys.now a.times.now a.fields.now a.records.now in
    let stands : (let a = c.args in
    place_for a.self a.keys.now a.key.fabric (find_scene a.key came) ≡ Some c.in-Some.at) = sym c.requires.place_value ∙ c.in-Some.is in
    let within : c.in-Some.at < c.args.self.size = placed_within c.args.key came _ c.requires.room.entries stands in
    record { ext_len_bound = omega (arith, within); at_in_bounds = omega (arith, within); at_in_bounds_2 = omega (arith, within); stride_in_bounds = omega (arith, within) }

pub with_entry-state-requires : goal.with_entry-state-requires
with_entry-state-requires c =
    let came : Table = let a = c.args in
    table_of a.self a.keys.now a.times.now a.fields.now a.records.now in
    let stands : (let a = c.args in
    place_for a.self a.keys.now a.key.fabric (find_scene a.key came) ≡ Some c.in-Some.at) = sym c.requires.place_value ∙ c.in-Some.is in
    let within : c.in-Some.at < c.args.self.size = placed_within c.args.key came _ c.requires.room.entries stands in
    within

pub returns : goal.returns
returns c =
    let came : Table = let a = c.args in
    table_of a.self a.keys.now a.times.now a.fields.now a.records.now in
    let stands : (let a = c.args in
    place_for a.self a.keys.now a.key.fabric (find_scene a.key came) ≡ Some c.in-Some.at) = sym c.requires.place_value ∙ c.in-Some.is in
    let a = c.args in
    ap (result_in _ _) c.saved.ensures
    ∙ ap saved (upsert_placed a.key a.time a.ext.now came _ _ _ _ _ _ c.word.ensures _ stands c.put.ensures
    (c.invalidate_current.ensures ∙ ap (λ (s : ScenesState). invalidate_current (Scene a.key) (current_of s a.records.now)) c.with_entry-state.ensures))
