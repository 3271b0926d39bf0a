-- `host_unchecked::scenes_copy_unchecked` meets its contract. Assumes nothing.
use mathlib.Core.Path.{◌∙◌}
use Rattle.state.specs.Table.{Table, table_of}
use Rattle.copies.specs.Copy.{copy_scene}
use Rattle.host_unchecked.proofs.scenes_copy_unchecked.Goals as goal

pub returns : goal.returns
returns c =
    let came : Table = let a = c.args in
    table_of a.state a.keys.now a.times.now a.fields.now a.records.now in
    c.copy_scene.ensures
    ∙ (λ i. copy_scene c.args.request (c.from.ensures i) (c.from-2.ensures i) came)
