-- `host_groups::scenes_recall_asking` meets its contract. Assumes nothing.
use mathlib.Core.Path.{◌∙◌}
use Rattle.state.specs.Table.{Table, table_of}
use Rattle.groups.specs.Groups.{Groups, groups_of}
use Rattle.asking.specs.Asking.{recall_asking}
use Rattle.host_groups.proofs.change.scenes_recall_asking.Goals as goal

pub returns : goal.returns
returns c =
    let came : Table = let a = c.args in
    table_of a.state a.keys.now a.times.now a.fields.now a.records.now in
    let held : Groups = let a = c.args in
    groups_of a.groups a.words.now in
    c.recall_scene.ensures
    ∙ (λ i. recall_asking c.args.key (c.application.ensures i) held came)
