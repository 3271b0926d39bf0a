-- `script_commands::add` meets its contract. Assumes nothing.
use mathlib.Core.Path.{◌∙◌}
use Rattle.state.specs.Table.{Table, table_of}
use Rattle.commands.specs.Commands.{add_scene}
use Rattle.script_lines.specs.Values.{bytes_at}
use Rattle.script_answers.specs.Done.{plain}
use Rattle.script_commands.specs.Commands.{add}
use Rattle.script_answers.proofs.DoneLaws.{plain_done}
use Rattle.script_commands.proofs.add.Goals as goal

pub returns : goal.returns
unfolding add
returns c =
    let came : Table = let a = c.args in
    table_of a.state a.keys.now a.times.now a.fields.now a.records.now in
    ◌∙◌ {c = add c.args.read.values (bytes_at c.args.read c.args.line.now 6) (bytes_at c.args.read c.args.line.now 7) came} (plain_done _ _ _ _ _ _
    (add_scene c.scene_key-key.result c.long-time.result c.member-member.result c.part-pairs.result.now c.part-ext.result.now came)
    c.plain.ensures c.add_scene.ensures)
    (λ i. plain (add_scene (c.scene_key-key.ensures i) (c.long-time.ensures i) (c.member-member.ensures i) (c.part-pairs.ensures i)
    (c.part-ext.ensures i) came))
