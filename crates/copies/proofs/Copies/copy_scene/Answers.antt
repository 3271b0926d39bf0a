-- `Copies::copy_scene` meets its contract. Assumes nothing.
use mathlib.Core.Path.{refl, ◌∙◌}
use Rattle.words.proofs.Refusals.{refusal-number}
use Rattle.requests.specs.Requests.{copy_gate}
use Rattle.state.specs.Table.{Table, table_of}
use Rattle.state.proofs.Guard.{Admitted, admits, refuses-outcome}
use Rattle.copies.specs.Copy.{copy_scenes_inner, copy_scene}
use Rattle.copies.proofs.Laws.{sound-copy-room}
use Rattle.copies.proofs.Copies.copy_scene.Goals as goal

pub returns-in-Err : goal.returns-in-Err
unfolding copy_scene
returns-in-Err c =
    let came : Table = let a = c.args in
    table_of a.self.state a.keys.now a.times.now a.fields.now a.records.now in
    refuses-outcome came c.requires _ _ c.in-Err.ensures _ (copy_scenes_inner c.args.request came) c.refused_by.ensures (refusal-number _)

pub copy_scenes_inner-requires : goal.copy_scenes_inner-requires
copy_scenes_inner-requires c =
    sound-copy-room _ c.requires

pub returns : goal.returns
unfolding copy_scene
returns c =
    let came : Table = let a = c.args in
    table_of a.self.state a.keys.now a.times.now a.fields.now a.records.now in
    let admitted : (let a = c.args in
    Admitted came (copy_gate a.request a.source a.target)) = admits _ c.requires _ _ c.in_default.ensures refl in
    c.copy_scenes_inner.ensures ∙ admitted.answers _ _
