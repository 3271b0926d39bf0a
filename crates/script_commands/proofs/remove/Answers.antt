-- `script_commands::remove` meets its contract. Assumes nothing.
use mathlib.Core.Path.{◌∙◌}
use Rattle.state.specs.Table.{Table, table_of}
use Rattle.commands.specs.Commands.{remove_scene}
use Rattle.script_answers.specs.Done.{plain}
use Rattle.script_commands.specs.Commands.{remove}
use Rattle.script_answers.proofs.DoneLaws.{plain_done}
use Rattle.script_commands.proofs.remove.Goals as goal

pub returns : goal.returns
unfolding remove
returns c =
    let came : Table = let a = c.args in
    table_of a.state a.keys.now a.times.now a.fields.now a.records.now in
    plain_done _ _ _ _ _ _ (remove_scene c.scene_key-key.result c.member-member.result came)
    c.plain.ensures c.remove_scene.ensures
    ∙ (λ i. plain (remove_scene (c.scene_key-key.ensures i) (c.member-member.ensures i) came))
