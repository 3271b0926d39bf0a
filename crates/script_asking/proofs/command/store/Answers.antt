-- `script_asking::command::store` meets its contract. Assumes nothing.
use mathlib.Core.Path.{ap, ◌∙◌}
use Rattle.state.specs.Table.{Table, table_of}
use Rattle.groups.specs.Groups.{Groups, groups_of}
use Rattle.asking.specs.Asking.{store_asking}
use Rattle.script_commands.specs.Commands.{store_done}
use Rattle.script_asking.specs.Asked.{store_asked}
use Rattle.script_asking.proofs.command.store.Goals as goal

pub returns : goal.returns
unfolding store_asked
returns c =
    let came : Table = let a = c.args in
    table_of a.asking.state a.keys.now a.times.now a.fields.now a.records.now in
    let held : Groups = let a = c.args in
    groups_of a.asking.groups a.words.now in
    ap store_done c.store_scene-done.ensures
    ∙ (λ i. store_done (store_asking (c.scene_key-key.ensures i) (c.part-captured.ensures i) held came))
