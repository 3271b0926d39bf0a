-- `Commands::store_captured` meets its contract. Assumes nothing.
use mathlib.Core.Path.{◌≡◌, refl, ap, ◌∙◌}
use mathlib.Core.Bool.{true, false}
use mathlib.Core.List.{[], ◌∷◌, ◌++◌}
use native.Mathlib.Omega.{arith}
use Rattle.words.specs.Constants.{success, end_of_container}
use Rattle.std.specs.Prelude.{Option, ℕ}
use Rattle.state.specs.Table.{Table, table_of, with_current}
use Rattle.state.specs.Current.{remember_current}
use Rattle.state.specs.Change.{find_scene, Upserted, upserted_of, upsert}
use Rattle.state.specs.Answer.{Result, result_of}
use Rattle.state.proofs.Laws.{upserted_head}
use Rattle.state.proofs.Changes.{changed_current}
use Rattle.commands.specs.Commands.{prior_time, stored, store_captured}
use Rattle.commands.specs.Counted.{keys_compared, counted_of, counted}
use Rattle.commands.proofs.Laws.{upserted_prior, not_stored, was_stored}
use Rattle.commands.proofs.Counting.{counted_in, counts_none, counts-compared, compared-within}
use Rattle.commands.proofs.Commands.store_captured.Goals as goal

pub returns-then-status-ne-SUCCESS : goal.returns-then-status-ne-SUCCESS
unfolding store_captured
returns-then-status-ne-SUCCESS c =
    let came : Table = let a = c.args in
    table_of a.self.state a.keys.now a.times.now a.fields.now a.records.now in
    let answered : Result = result_of c.upsert_scene-done.result.status c.upsert_scene-done.result.save
    (table_of c.upsert_scene-done.result.state c.upsert_scene-done.new.keys c.upsert_scene-done.new.times c.upsert_scene-done.new.fields c.upsert_scene-done.new.records) in
    let after : Upserted = upserted_of answered.status answered.table in
    let told : (let a = c.args in
    let t = came in after ≡ upsert a.key (prior_time (find_scene a.key t) a.times.now) (a.captured.now ++ (end_of_container ∷ [])) t) = upserted_prior c.args.key _ _ came answered _ _ c.upsert_scene-done.ensures
    c.prior_time-time.ensures c.requires.found_value c.end_capture-len.ensures.1 in
    let t = came in
    ap (counted_in after.table.slots after.table.records) c.refused.ensures
    ∙ counts_none c.args.key t (result_of after.status false after.table) c.if-status-ne-SUCCESS.true
    ∙ ap (counted c.args.key t) (not_stored c.args.key after c.if-status-ne-SUCCESS.true ∙ ap (stored c.args.key) told)

pub keys_compared-requires : goal.keys_compared-requires
keys_compared-requires c =
    let came : Table = let a = c.args in
    table_of a.self.state a.keys.now a.times.now a.fields.now a.records.now in
    compared-within c.args.key came _ c.requires.found_value

pub remember_current-requires : goal.remember_current-requires
remember_current-requires c =
    let came : Table = let a = c.args in
    table_of a.self.state a.keys.now a.times.now a.fields.now a.records.now in
    let answered : Result = result_of c.upsert_scene-done.result.status c.upsert_scene-done.result.save
    (table_of c.upsert_scene-done.result.state c.upsert_scene-done.new.keys c.upsert_scene-done.new.times c.upsert_scene-done.new.fields c.upsert_scene-done.new.records) in
    let after : Upserted = upserted_of answered.status answered.table in
    let told : (let a = c.args in
    let t = came in after ≡ upsert a.key (prior_time (find_scene a.key t) a.times.now) (a.captured.now ++ (end_of_container ∷ [])) t) = upserted_prior c.args.key _ _ came answered _ _ c.upsert_scene-done.ensures
    c.prior_time-time.ensures c.requires.found_value c.end_capture-len.ensures.1 in
    let head = upserted_head _ _ _ _ _ told in
    record { recorded_le_size = omega (arith, head.recorded, head.size, c.requires.room.recorded, c.requires.room.records); size_in_bounds = omega (arith, head.recorded, head.size, c.requires.room.recorded, c.requires.room.records) }

pub returns : goal.returns
unfolding store_captured
returns c =
    let came : Table = let a = c.args in
    table_of a.self.state a.keys.now a.times.now a.fields.now a.records.now in
    let answered : Result = result_of c.upsert_scene-done.result.status c.upsert_scene-done.result.save
    (table_of c.upsert_scene-done.result.state c.upsert_scene-done.new.keys c.upsert_scene-done.new.times c.upsert_scene-done.new.fields c.upsert_scene-done.new.records) in
    let after : Upserted = upserted_of answered.status answered.table in
    let told : (let a = c.args in
    let t = came in after ≡ upsert a.key (prior_time (find_scene a.key t) a.times.now) (a.captured.now ++ (end_of_container ∷ [])) t) = upserted_prior c.args.key _ _ came answered _ _ c.upsert_scene-done.ensures
    c.prior_time-time.ensures c.requires.found_value c.end_capture-len.ensures.1 in
    let t = came in
    let remembered = changed_current after.table (remember_current c.args.key) _ _ c.remember_current.ensures in
    let compared = c.keys_compared.ensures ∙ ap (λ (f : Option ℕ). keys_compared f t.state.entries) c.requires.found_value in
    (λ i. counted_of (result_of success true (remembered i)) (compared i))
    ∙ counts-compared c.args.key t (result_of success true (with_current (remember_current c.args.key) after.table)) refl
    ∙ ap (counted c.args.key t) (was_stored c.args.key after c.if-status-ne-SUCCESS.false ∙ ap (stored c.args.key) told)
