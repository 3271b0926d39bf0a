-- `script_asking::query::list` meets its contract. Assumes nothing.
use mathlib.Core.Path.{◌∙◌}
use Rattle.state.specs.Table.{Table, table_of}
use Rattle.groups.specs.Groups.{Groups, groups_of}
use Rattle.asking.specs.Asking.{membership_asking}
use Rattle.script_reads.proofs.ReadLaws.{listed-done}
use Rattle.script_asking.specs.Asked.{list_asked}
use Rattle.script_asking.proofs.AskedLaws.{list-state}
use Rattle.script_asking.proofs.query.list.Goals as goal

pub returns : goal.returns
unfolding list_asked
returns c =
    let came : Table = let a = c.args in
    table_of a.asking.state a.keys.now a.times.now a.fields.now a.records.now in
    let held : Groups = let a = c.args in
    groups_of a.asking.groups a.words.now in
    let a = c.args in
    listed-done _ _ _ _ a.asking.state _ c.get_scene_membership-listed.result _ _ c.list_tail.ensures
    (◌∙◌ {b = membership_asking c.group_key-key.result a.buffer.now held came} c.get_scene_membership-listed.ensures
    (λ i. membership_asking (c.group_key-key.ensures i) a.buffer.now held came)) (list-state _ _ held came)
