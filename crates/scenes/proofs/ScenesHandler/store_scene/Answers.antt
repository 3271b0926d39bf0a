-- `ScenesHandler::store_scene` meets its contract: on a sound table it is `Commands::store_found`, with the scene where the test found it, and
-- on any other it answers 6. Assumes nothing.
use mathlib.Core.Path.{sym, ap, ◌∙◌}
use Rattle.std.specs.Prelude.{Option, ℕ}
use Rattle.slots.specs.Slots.{first_key}
use Rattle.slots.proofs.Laws.{search_sound, search_unsound}
use Rattle.state.specs.Table.{Table, table_of}
use Rattle.state.specs.Sound.{sound}
use Rattle.commands.specs.Commands.{store_scene}
use Rattle.commands.specs.Counted.{store_counted}
use Rattle.commands.proofs.Counting.{counts-unsound}
use Rattle.scenes.proofs.ScenesHandler.store_scene.Goals as goal

pub returns-in_default : goal.returns-in_default
unfolding store_scene store_counted
returns-in_default c =
    let came : Table = let a = c.args in
    table_of a.self.state a.keys.now a.times.now a.fields.now a.records.now in
    let match : Option ℕ = let a = c.args in
    first_key a.keys.now a.self.state.entries c.word.result in
    let unsound = search_unsound (sound came) match (sym c.in_default.is ∙ c.search.ensures) in
    counts-unsound c.args.key came _ _ _ unsound c.refused_by.ensures

pub store_found-requires : goal.store_found-requires
store_found-requires c =
    let came : Table = let a = c.args in
    table_of a.self.state a.keys.now a.times.now a.fields.now a.records.now in
    let match : Option ℕ = let a = c.args in
    first_key a.keys.now a.self.state.entries c.word.result in
    let told = search_sound (sound came) match _ (sym c.in-Ok.is ∙ c.search.ensures) in
    record { records_value = told.0; found_value = told.1 ∙ ap (first_key _ _) c.word.ensures }
