-- `host::scenes_recall` meets its contract. Assumes nothing.
use mathlib.Core.Path.{◌∙◌}
use Rattle.state.specs.Table.{Table, table_of}
use Rattle.commands.specs.Commands.{recall_scene}
use Rattle.host.proofs.scenes_recall.Goals as goal

pub returns : goal.returns
returns c =
    let came : Table = let a = c.args in
    table_of a.state a.keys.now a.times.now a.fields.now a.records.now in
    c.recall_scene.ensures
    ∙ (λ i. recall_scene c.args.key (c.from.ensures i) (c.application.ensures i) came)
