-- `AskingHandler::leave` meets its contract: 6 where the memberships or the table are not sound, then what its gate refuses, then a remove
-- all that is told yes, with every match gone. Assumes nothing.
use mathlib.Core.Path.{refl, ◌≡◌, sym, ap, ◌∙◌}
use mathlib.Core.Bool.{true}
use Rattle.words.proofs.Refusals.{refusal-number}
use Rattle.state.specs.Table.{Table, table_of}
use Rattle.state.specs.Sound.{sound}
use Rattle.groups.specs.Groups.{Groups, groups_of, groups_sound}
use Rattle.groups.proofs.Laws.{groups_fit}
use Rattle.asking.specs.Asking.{leave_group}
use Rattle.asking.proofs.Laws.{both_in, both_unsound, leaves-unsound, leaves-refused, leaves}
use Rattle.asking.proofs.AskingHandler.leave.Goals as goal

pub returns-then-not-is_sound : goal.returns-then-not-is_sound
unfolding leave_group
returns-then-not-is_sound c =
    let came : Table = let a = c.args in
    table_of a.self.state a.keys.now a.times.now a.fields.now a.records.now in
    let held : Groups = let a = c.args in
    groups_of a.self.groups a.words.now in
    both_unsound held came (sym c.is_sound.ensures ∙ c.if-not-is_sound.true) _ _ c.refused.ensures

pub returns-then-not-is_sound-2 : goal.returns-then-not-is_sound-2
returns-then-not-is_sound-2 c =
    let came : Table = let a = c.args in
    table_of a.self.state a.keys.now a.times.now a.fields.now a.records.now in
    let held : Groups = let a = c.args in
    groups_of a.self.groups a.words.now in
    let sound-held : groups_sound held ≡ true = sym c.is_sound.ensures ∙ c.if-not-is_sound.false in
    let unsound = sym c.is_sound-2.ensures ∙ c.if-not-is_sound-2.true in
    leaves-unsound held came sound-held c.args.key unsound _ c.refused-then-not-is_sound-2.ensures

pub leave_gate-requires : goal.leave_gate-requires
leave_gate-requires c =
    let held : Groups = let a = c.args in
    groups_of a.self.groups a.words.now in
    let sound-held : groups_sound held ≡ true = sym c.is_sound.ensures ∙ c.if-not-is_sound.false in
    groups_fit _ sound-held

pub returns-in-Err : goal.returns-in-Err
returns-in-Err c =
    let came : Table = let a = c.args in
    table_of a.self.state a.keys.now a.times.now a.fields.now a.records.now in
    let held : Groups = let a = c.args in
    groups_of a.self.groups a.words.now in
    let sound-held : groups_sound held ≡ true = sym c.is_sound.ensures ∙ c.if-not-is_sound.false in
    let sound-came : sound came ≡ true = sym c.is_sound-2.ensures ∙ c.if-not-is_sound-2.false in
    leaves-refused held came sound-held c.args.key sound-came _ c.in-Err.ensures (refusal-number _) _
    c.refused-in-Err.ensures

pub remove_all_scenes-done-requires : goal.remove_all_scenes-done-requires
remove_all_scenes-done-requires c =
    let came : Table = let a = c.args in
    table_of a.self.state a.keys.now a.times.now a.fields.now a.records.now in
    let sound-came : sound came ≡ true = sym c.is_sound-2.ensures ∙ c.if-not-is_sound-2.false in
    sound-came

pub retain-requires : goal.retain-requires
retain-requires c =
    let held : Groups = let a = c.args in
    groups_of a.self.groups a.words.now in
    let sound-held : groups_sound held ≡ true = sym c.is_sound.ensures ∙ c.if-not-is_sound.false in
    groups_fit _ sound-held

pub returns : goal.returns
returns c =
    let came : Table = let a = c.args in
    table_of a.self.state a.keys.now a.times.now a.fields.now a.records.now in
    let held : Groups = let a = c.args in
    groups_of a.self.groups a.words.now in
    let sound-held : groups_sound held ≡ true = sym c.is_sound.ensures ∙ c.if-not-is_sound.false in
    let sound-came : sound came ≡ true = sym c.is_sound-2.ensures ∙ c.if-not-is_sound-2.false in
    ap (both_in _ _ _) c.ended.ensures
    ∙ leaves held came sound-held c.args.key sound-came _ c.in_default.ensures refl _ _
    c.remove_all_scenes-done.ensures
    c.retain.ensures
