-- `script_asking::command::add_read` meets its contract. Assumes nothing.
use mathlib.Core.Path.{◌∙◌}
use Rattle.state.specs.Table.{Table, table_of}
use Rattle.groups.specs.Groups.{Groups, groups_of}
use Rattle.asking.specs.Asking.{add_read_asking}
use Rattle.script_lines.specs.Values.{bytes_at}
use Rattle.script_answers.specs.Done.{plain}
use Rattle.script_answers.proofs.DoneLaws.{plain_done}
use Rattle.script_asking.specs.Asked.{add_read_asked}
use Rattle.script_asking.proofs.command.add_read.Goals as goal

pub returns : goal.returns
unfolding add_read_asked
returns c =
    let came : Table = let a = c.args in
    table_of a.asking.state a.keys.now a.times.now a.fields.now a.records.now in
    let held : Groups = let a = c.args in
    groups_of a.asking.groups a.words.now in
    ◌∙◌ {c = add_read_asked c.args.read.values (bytes_at c.args.read c.args.line.now 6) (bytes_at c.args.read c.args.line.now 7) held came} (plain_done _ _ _ _ _ _
    (add_read_asking c.scene_key-key.result c.long-time.result c.part-pairs.result.now c.part-bytes.result.now held came)
    c.plain.ensures c.add_scene_read.ensures)
    (λ i. plain (add_read_asking (c.scene_key-key.ensures i) (c.long-time.ensures i) (c.part-pairs.ensures i) (c.part-bytes.ensures i) held came))
