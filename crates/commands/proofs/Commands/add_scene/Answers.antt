-- `Commands::add_scene` meets its contract. Assumes nothing.
use mathlib.Core.Path.{refl, ap, ◌∙◌}
use native.Mathlib.Omega.{arith}
use lib.ListN.{length}
use Rattle.words.specs.Constants.{max_fields}
use Rattle.words.proofs.Refusals.{refusal-number}
use Rattle.requests.specs.Requests.{add_gate}
use Rattle.requests.proofs.Passed.{add-passed}
use Rattle.state.specs.Table.{Table, table_of}
use Rattle.state.specs.Capacity.{place_for}
use Rattle.state.proofs.Guard.{Admitted, admits, refuses-outcome}
use Rattle.state.proofs.Changes.{found-scene}
use Rattle.commands.specs.Commands.{add_scene}
use Rattle.commands.proofs.Commands.add_scene.Goals as goal

pub returns-in-Err : goal.returns-in-Err
unfolding add_scene
returns-in-Err c =
    let came : Table = let a = c.args in
    table_of a.self.state a.keys.now a.times.now a.fields.now a.records.now in
    refuses-outcome came c.requires _ _ c.in-Err.ensures _ _ c.refused_by.ensures (refusal-number _)

pub find-found-requires : goal.find-found-requires
find-found-requires c =
    let came : Table = let a = c.args in
    table_of a.self.state a.keys.now a.times.now a.fields.now a.records.now in
    let admitted : (let a = c.args in
    Admitted came (add_gate a.key a.time a.member a.pairs.now max_fields (length a.ext.now))) = admits _ c.requires _ _ c.in_default.ensures refl in
    let h = admitted.room in
    omega arith

pub place-place-requires : goal.place-place-requires
place-place-requires c =
    let came : Table = let a = c.args in
    table_of a.self.state a.keys.now a.times.now a.fields.now a.records.now in
    let admitted : (let a = c.args in
    Admitted came (add_gate a.key a.time a.member a.pairs.now max_fields (length a.ext.now))) = admits _ c.requires _ _ c.in_default.ensures refl in
    let h = admitted.room in
    omega arith

pub upsert_scene-requires : goal.upsert_scene-requires
upsert_scene-requires c =
    let came : Table = let a = c.args in
    table_of a.self.state a.keys.now a.times.now a.fields.now a.records.now in
    let admitted : (let a = c.args in
    Admitted came (add_gate a.key a.time a.member a.pairs.now max_fields (length a.ext.now))) = admits _ c.requires _ _ c.in_default.ensures refl in
    let h = admitted in
    let found = found-scene _ came _ _ c.word.ensures c.find-found.ensures in
    record { room = h.room; place_value = c.place-place.ensures ∙ ap (place_for _ _ _) found; ext_len_bound = (add-passed _ _ _ _ _ _ h.asked).1 }

pub returns : goal.returns
unfolding add_scene
returns c =
    let came : Table = let a = c.args in
    table_of a.self.state a.keys.now a.times.now a.fields.now a.records.now in
    let admitted : (let a = c.args in
    Admitted came (add_gate a.key a.time a.member a.pairs.now max_fields (length a.ext.now))) = admits _ c.requires _ _ c.in_default.ensures refl in
    c.upsert_scene.ensures ∙ admitted.answers _ _
