-- `host_unchecked::scenes_read_info_unchecked` meets its contract. Assumes nothing.
use mathlib.Core.Path.{◌∙◌}
use Rattle.state.specs.Table.{Table, table_of}
use Rattle.reads.specs.Reads.{read_fabric_scene_info}
use Rattle.host_unchecked.proofs.scenes_read_info_unchecked.Goals as goal

pub returns : goal.returns
returns c =
    let came : Table = let a = c.args in
    table_of a.state a.keys.now a.times.now a.fields.now a.records.now in
    c.read_fabric_scene_info.ensures ∙ (λ i. read_fabric_scene_info c.args.fabric c.args.endpoint (c.truth.ensures i) came)
