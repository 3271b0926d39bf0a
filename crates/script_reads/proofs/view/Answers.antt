-- `script_reads::view` meets its contract. Assumes nothing.
use mathlib.Core.Path.{◌∙◌}
use Rattle.state.specs.Table.{Table, table_of}
use Rattle.reads.specs.Reads.{view_scene}
use Rattle.script_reads.specs.Reads.{view}
use Rattle.script_reads.proofs.ReadLaws.{view-state, viewed-done}
use Rattle.script_reads.proofs.view.Goals as goal

pub returns : goal.returns
unfolding view
returns c =
    let came : Table = let a = c.args in
    table_of a.state a.keys.now a.times.now a.fields.now a.records.now in
    let t = came in
    viewed-done _ _ _ _ _ _ _ _ c.scene_tail.ensures
    (◌∙◌ {b = view_scene c.scene_key-key.result c.member-member.result t} c.view_scene-found.ensures
    (λ i. view_scene (c.scene_key-key.ensures i) (c.member-member.ensures i) t)) (view-state _ _ t)
