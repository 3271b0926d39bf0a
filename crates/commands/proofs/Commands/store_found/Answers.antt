-- `Commands::store_found` meets its contract. Assumes nothing.
use mathlib.Core.Path.{refl}
use native.Mathlib.Omega.{arith}
use lib.ListN.{length}
use Rattle.words.specs.Constants.{max_fields}
use Rattle.words.proofs.Refusals.{refusal-number}
use Rattle.requests.specs.Requests.{store_gate}
use Rattle.requests.proofs.Passed.{store-passed}
use Rattle.state.specs.Table.{Table, table_of}
use Rattle.state.proofs.Guard.{Admitted, admits}
use Rattle.commands.specs.Commands.{store_scene}
use Rattle.commands.specs.Counted.{store_counted}
use Rattle.commands.proofs.Counting.{counts-passed, counts-refused}
use Rattle.commands.proofs.Commands.store_found.Goals as goal

pub returns-in-Err : goal.returns-in-Err
unfolding store_scene store_counted
returns-in-Err c =
    let came : Table = let a = c.args in
    table_of a.self.state a.keys.now a.times.now a.fields.now a.records.now in
    counts-refused c.args.key came _ _ _ c.requires.records_value _ c.in-Err.ensures c.refused_by.ensures (refusal-number _)

pub store_captured-requires : goal.store_captured-requires
store_captured-requires c =
    let came : Table = let a = c.args in
    table_of a.self.state a.keys.now a.times.now a.fields.now a.records.now in
    let admitted : (let a = c.args in
    Admitted came (store_gate a.key a.member max_fields (length a.captured.now))) = admits _ c.requires.records_value _ _ c.in_default.ensures refl in
    let h = admitted in
    record { room = h.room; found_value = c.requires.found_value; captured_len_bound = omega (arith, (store-passed _ _ _ _ h.asked).1) }

pub returns : goal.returns
unfolding store_scene store_counted
returns c =
    let came : Table = let a = c.args in
    table_of a.self.state a.keys.now a.times.now a.fields.now a.records.now in
    let admitted : (let a = c.args in
    Admitted came (store_gate a.key a.member max_fields (length a.captured.now))) = admits _ c.requires.records_value _ _ c.in_default.ensures refl in
    counts-passed c.args.key came _ _ _ admitted c.store_captured.ensures
