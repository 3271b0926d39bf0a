-- `AskingHandler::factory_reset` meets its contract: on sound memberships it is the call of this name, and they go where it did not refuse;
-- on any others it answers 6. Assumes nothing.
use mathlib.Core.Path.{◌≡◌, sym, ap, ◌∙◌}
use mathlib.Core.Bool.{true}
use Rattle.state.specs.Table.{Table, table_of}
use Rattle.groups.specs.declared.GroupsState.{GroupsState}
use Rattle.groups.specs.Groups.{Groups, groups_of, groups_sound, no_groups}
use Rattle.asking.specs.Asking.{factory_reset_both}
use Rattle.asking.proofs.Laws.{both_here, both_unsound, follows, follows_not}
use Rattle.asking.proofs.AskingHandler.factory_reset.Goals as goal

pub returns-then-not-is_sound : goal.returns-then-not-is_sound
unfolding factory_reset_both
returns-then-not-is_sound c =
    let came : Table = let a = c.args in
    table_of a.self.state a.keys.now a.times.now a.fields.now a.records.now in
    let held : Groups = let a = c.args in
    groups_of a.self.groups a.words.now in
    both_unsound held came (sym c.is_sound.ensures ∙ c.if-not-is_sound.true) _ _ c.refused.ensures

pub returns-then-done-eq-SUCCESS : goal.returns-then-done-eq-SUCCESS
unfolding factory_reset_both
returns-then-done-eq-SUCCESS c =
    let came : Table = let a = c.args in
    table_of a.self.state a.keys.now a.times.now a.fields.now a.records.now in
    let held : Groups = let a = c.args in
    groups_of a.self.groups a.words.now in
    let sound-held : groups_sound held ≡ true = sym c.is_sound.ensures ∙ c.if-not-is_sound.false in
    let g = held in
    let t = came in
    ap (both_here g t) c.ended.ensures
    ∙ follows g t sound-held (no_groups g) _ _ c.factory_reset-done.ensures c.if-done-eq-SUCCESS.true _
    (ap (λ (n : GroupsState). groups_of n g.words) c.new.ensures)

pub returns : goal.returns
unfolding factory_reset_both
returns c =
    let came : Table = let a = c.args in
    table_of a.self.state a.keys.now a.times.now a.fields.now a.records.now in
    let held : Groups = let a = c.args in
    groups_of a.self.groups a.words.now in
    let sound-held : groups_sound held ≡ true = sym c.is_sound.ensures ∙ c.if-not-is_sound.false in
    let g = held in
    let t = came in
    ap (both_here g t) c.ended-2.ensures
    ∙ follows_not g t sound-held (no_groups g) _ _ c.factory_reset-done.ensures c.if-done-eq-SUCCESS.false
