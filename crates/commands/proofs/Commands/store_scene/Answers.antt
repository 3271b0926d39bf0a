-- `Commands::store_scene` meets its contract. Assumes nothing.
use native.Mathlib.Omega.{arith}
use Rattle.state.specs.Table.{Table, table_of}
use Rattle.state.proofs.Laws.{sound-room}
use Rattle.commands.proofs.Commands.store_scene.Goals as goal

pub find-found-requires : goal.find-found-requires
find-found-requires c =
    let came : Table = let a = c.args in
    table_of a.self.state a.keys.now a.times.now a.fields.now a.records.now in
    let h = sound-room came c.requires in
    omega arith
