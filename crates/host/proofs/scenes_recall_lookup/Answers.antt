-- `host::scenes_recall_lookup` meets its contract. Assumes nothing.
use mathlib.Core.Path.{◌∙◌}
use Rattle.state.specs.Table.{Table, table_of}
use Rattle.reads.specs.Reads.{recall_lookup}
use Rattle.host.proofs.scenes_recall_lookup.Goals as goal

pub returns : goal.returns
returns c =
    let came : Table = let a = c.args in
    table_of a.state a.keys.now a.times.now a.fields.now a.records.now in
    c.recall_lookup.ensures ∙ (λ i. recall_lookup c.args.key (c.from.ensures i) (c.transition.ensures i) came)
