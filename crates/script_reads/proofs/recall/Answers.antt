-- `script_reads::recall` meets its contract. Assumes nothing.
use mathlib.Core.Path.{◌∙◌}
use Rattle.state.specs.Table.{Table, table_of}
use Rattle.state.specs.Answer.{result_of}
use Rattle.reads.specs.Reads.{recall_lookup}
use Rattle.commands.specs.Commands.{recall_scene}
use Rattle.script_reads.specs.Reads.{recall}
use Rattle.script_reads.proofs.ReadLaws.{recalled-done}
use Rattle.script_reads.proofs.recall.Goals as goal

pub returns : goal.returns
unfolding recall
returns c =
    let came : Table = let a = c.args in
    table_of a.state a.keys.now a.times.now a.fields.now a.records.now in
    let a = c.args in
    let after = table_of c.recall_scene-done.result.state a.keys.now a.times.now a.fields.now c.recall_scene-done.new.records in
    recalled-done _ _ _ _ _ _ _ _ _ c.scene_tail.ensures
    (◌∙◌ {b = recall_lookup c.scene_key-key.result c.member-member.result c.transition-time.result came} c.recall_lookup-found.ensures
    (λ i. recall_lookup (c.scene_key-key.ensures i) (c.member-member.ensures i) (c.transition-time.ensures i) came))
    (◌∙◌ {a = result_of c.recall_scene-done.result.status c.recall_scene-done.result.save after}
    {b = recall_scene c.scene_key-key.result c.member-member.result c.applied-end.result came} c.recall_scene-done.ensures
    (λ i. recall_scene (c.scene_key-key.ensures i) (c.member-member.ensures i) (c.applied-end.ensures i) came))
