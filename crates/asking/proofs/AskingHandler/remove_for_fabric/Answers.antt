-- `AskingHandler::remove_for_fabric` meets its contract: on sound memberships it is the call of this name, and the fabric's go where it did
-- not refuse; on any others it answers 6. Assumes nothing.
use mathlib.Core.Path.{◌≡◌, sym, ap, ◌∙◌}
use mathlib.Core.Bool.{true}
use Rattle.words.specs.Words.{fabric_keys}
use Rattle.state.specs.Table.{Table, table_of}
use Rattle.groups.specs.Groups.{Groups, groups_of, groups_sound, retain_groups}
use Rattle.groups.proofs.Laws.{groups_fit}
use Rattle.asking.specs.Asking.{remove_for_fabric_both}
use Rattle.asking.proofs.Laws.{both_in, both_unsound, follows, follows_not}
use Rattle.asking.proofs.AskingHandler.remove_for_fabric.Goals as goal

pub returns-then-not-is_sound : goal.returns-then-not-is_sound
unfolding remove_for_fabric_both
returns-then-not-is_sound c =
    let came : Table = let a = c.args in
    table_of a.self.state a.keys.now a.times.now a.fields.now a.records.now in
    let held : Groups = let a = c.args in
    groups_of a.self.groups a.words.now in
    both_unsound held came (sym c.is_sound.ensures ∙ c.if-not-is_sound.true) _ _ c.refused.ensures

pub retain-requires : goal.retain-requires
retain-requires c =
    let held : Groups = let a = c.args in
    groups_of a.self.groups a.words.now in
    let sound-held : groups_sound held ≡ true = sym c.is_sound.ensures ∙ c.if-not-is_sound.false in
    groups_fit _ sound-held

pub returns-then-done-eq-SUCCESS : goal.returns-then-done-eq-SUCCESS
unfolding remove_for_fabric_both
returns-then-done-eq-SUCCESS c =
    let came : Table = let a = c.args in
    table_of a.self.state a.keys.now a.times.now a.fields.now a.records.now in
    let held : Groups = let a = c.args in
    groups_of a.self.groups a.words.now in
    let sound-held : groups_sound held ≡ true = sym c.is_sound.ensures ∙ c.if-not-is_sound.false in
    let g = held in
    ap (both_in _ _ _) c.ended.ensures
    ∙ follows g came sound-held (retain_groups (fabric_keys c.args.fabric) g) _ _
    c.remove_for_fabric-done.ensures
    c.if-done-eq-SUCCESS.true
    _
    c.retain.ensures

pub returns : goal.returns
unfolding remove_for_fabric_both
returns c =
    let came : Table = let a = c.args in
    table_of a.self.state a.keys.now a.times.now a.fields.now a.records.now in
    let held : Groups = let a = c.args in
    groups_of a.self.groups a.words.now in
    let sound-held : groups_sound held ≡ true = sym c.is_sound.ensures ∙ c.if-not-is_sound.false in
    let g = held in
    ap (both_in _ _ _) c.ended-2.ensures
    ∙ follows_not g came sound-held (retain_groups (fabric_keys c.args.fabric) g) _ _
    c.remove_for_fabric-done.ensures
    c.if-done-eq-SUCCESS.false
