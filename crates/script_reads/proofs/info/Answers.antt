-- `script_reads::info` meets its contract. Assumes nothing.
use mathlib.Core.Path.{◌∙◌}
use lib.Dec.{eqb}
use Rattle.state.specs.Table.{Table, table_of}
use Rattle.reads.specs.Reads.{read_fabric_scene_info}
use Rattle.script_lines.specs.Values.{value_at}
use Rattle.script_reads.specs.Reads.{info}
use Rattle.script_reads.proofs.ReadLaws.{informed-done}
use Rattle.script_reads.proofs.info.Goals as goal

pub returns : goal.returns
unfolding info
returns c =
    let came : Table = let a = c.args in
    table_of a.state a.keys.now a.times.now a.fields.now a.records.now in
    let t = came in
    let single = eqb (value_at c.args.read.values 2) 1 in
    informed-done _ _ _ _ _ _ _ _ _ _ c.info_tail.ensures
    (◌∙◌ {b = read_fabric_scene_info c.byte-fabric.result c.short-endpoint.result single t} c.read_fabric_scene_info-row.ensures
    (λ i. read_fabric_scene_info (c.byte-fabric.ensures i) (c.short-endpoint.ensures i) single t))
