-- `script_asking::query::recall` meets its contract. Assumes nothing.
use mathlib.Core.Path.{◌∙◌}
use Rattle.state.specs.Table.{Table, table_of}
use Rattle.state.specs.Answer.{result_of}
use Rattle.groups.specs.Groups.{Groups, groups_of}
use Rattle.asking.specs.Asking.{lookup_asking, recall_asking}
use Rattle.script_reads.proofs.ReadLaws.{recalled-done}
use Rattle.script_asking.specs.Asked.{recall_asked}
use Rattle.script_asking.proofs.query.recall.Goals as goal

pub returns : goal.returns
unfolding recall_asked
returns c =
    let came : Table = let a = c.args in
    table_of a.asking.state a.keys.now a.times.now a.fields.now a.records.now in
    let held : Groups = let a = c.args in
    groups_of a.asking.groups a.words.now in
    let a = c.args in
    let after = table_of c.recall_scene-done.result.state a.keys.now a.times.now a.fields.now c.recall_scene-done.new.records in
    recalled-done _ _ _ _ _ _ _ _ _ c.scene_tail.ensures
    (◌∙◌ {b = lookup_asking c.scene_key-key.result c.transition-time.result held came} c.recall_lookup-found.ensures
    (λ i. lookup_asking (c.scene_key-key.ensures i) (c.transition-time.ensures i) held came))
    (◌∙◌ {a = result_of c.recall_scene-done.result.status c.recall_scene-done.result.save after}
    {b = recall_asking c.scene_key-key.result c.applied-end.result held came} c.recall_scene-done.ensures
    (λ i. recall_asking (c.scene_key-key.ensures i) (c.applied-end.ensures i) held came))
