-- `add_read::add_read_sound` meets its contract. Assumes nothing.
use Rattle.std.proofs.Common.{refl}
use Rattle.words.proofs.Refusals.{refusal-number}
use Rattle.state.specs.Table.{Table, table_of}
use Rattle.state.specs.Answer.{Result, result_of}
use Rattle.add_read.proofs.Laws.{read-refuses, read_adds}
use Rattle.add_read.proofs.add_read_sound.Goals as goal

pub returns-in-Err : goal.returns-in-Err
returns-in-Err c =
    let came : Table = let a = c.args in
    table_of a.state a.keys.now a.times.now a.fields.now a.records.now in
    read-refuses _ _ _ _ _ came _ c.in-Err.ensures c.requires (refusal-number _) _ c.refused_by.ensures

pub returns : goal.returns
returns c =
    let came : Table = let a = c.args in
    table_of a.state a.keys.now a.times.now a.fields.now a.records.now in
    let added : Result = result_of c.add_scene.result.status c.add_scene.result.save (table_of c.add_scene.result.state c.add_scene.new.keys c.add_scene.new.times c.add_scene.new.fields c.add_scene.new.records) in
    read_adds _ _ _ _ _ came _ c.in_default.ensures refl added c.add_scene.ensures
