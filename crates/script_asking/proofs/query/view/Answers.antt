-- `script_asking::query::view` meets its contract. Assumes nothing.
use mathlib.Core.Path.{◌∙◌}
use Rattle.state.specs.Table.{Table, table_of}
use Rattle.groups.specs.Groups.{Groups, groups_of}
use Rattle.asking.specs.Asking.{view_asking}
use Rattle.script_reads.proofs.ReadLaws.{viewed-done}
use Rattle.script_asking.specs.Asked.{view_asked}
use Rattle.script_asking.proofs.AskedLaws.{view-state}
use Rattle.script_asking.proofs.query.view.Goals as goal

pub returns : goal.returns
unfolding view_asked
returns c =
    let came : Table = let a = c.args in
    table_of a.asking.state a.keys.now a.times.now a.fields.now a.records.now in
    let held : Groups = let a = c.args in
    groups_of a.asking.groups a.words.now in
    viewed-done _ _ _ _ _ _ _ _ c.scene_tail.ensures
    (◌∙◌ {b = view_asking c.scene_key-key.result held came} c.view_scene-found.ensures
    (λ i. view_asking (c.scene_key-key.ensures i) held came)) (view-state _ held came)
