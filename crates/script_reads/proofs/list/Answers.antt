-- `script_reads::list` meets its contract. Assumes nothing.
use mathlib.Core.Path.{◌∙◌}
use Rattle.state.specs.Table.{Table, table_of}
use Rattle.reads.specs.Reads.{get_scene_membership}
use Rattle.script_reads.specs.Reads.{list}
use Rattle.script_reads.proofs.ReadLaws.{list-state, listed-done}
use Rattle.script_reads.proofs.list.Goals as goal

pub returns : goal.returns
unfolding list
returns c =
    let came : Table = let a = c.args in
    table_of a.state a.keys.now a.times.now a.fields.now a.records.now in
    listed-done _ _ _ _ c.args.state _ c.get_scene_membership-listed.result _ _ c.list_tail.ensures
    (◌∙◌ {b = get_scene_membership c.group_key-key.result c.member-member.result c.args.buffer.now came} c.get_scene_membership-listed.ensures
    (λ i. get_scene_membership (c.group_key-key.ensures i) (c.member-member.ensures i) c.args.buffer.now came)) (list-state _ _ _ came)
