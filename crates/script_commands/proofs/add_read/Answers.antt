-- `script_commands::add_read` meets its contract. Assumes nothing.
use mathlib.Core.Path.{◌∙◌}
use Rattle.state.specs.Table.{Table, table_of}
use Rattle.add_read.specs.Adding.{add_scene_read}
use Rattle.script_lines.specs.Values.{bytes_at}
use Rattle.script_answers.specs.Done.{plain}
use Rattle.script_commands.specs.Commands.{add_read}
use Rattle.script_answers.proofs.DoneLaws.{plain_done}
use Rattle.script_commands.proofs.add_read.Goals as goal

pub returns : goal.returns
unfolding add_read
returns c =
    let came : Table = let a = c.args in
    table_of a.state a.keys.now a.times.now a.fields.now a.records.now in
    ◌∙◌ {c = add_read c.args.read.values (bytes_at c.args.read c.args.line.now 6) (bytes_at c.args.read c.args.line.now 7) came} (plain_done _ _ _ _ _ _
    (add_scene_read c.scene_key-key.result c.long-time.result c.member-member.result c.part-pairs.result.now c.part-bytes.result.now came)
    c.plain.ensures c.add_scene_read.ensures)
    (λ i. plain (add_scene_read (c.scene_key-key.ensures i) (c.long-time.ensures i) (c.member-member.ensures i) (c.part-pairs.ensures i)
    (c.part-bytes.ensures i) came))
