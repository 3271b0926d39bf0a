-- `AskingHandler::store_scene` meets its contract: on sound memberships it is the call of this name that is told what they hold, and on any
-- others it answers 6. Assumes nothing.
use mathlib.Core.Path.{sym, ◌∙◌}
use Rattle.state.specs.Table.{Table, table_of}
use Rattle.state.specs.Answer.{refused}
use Rattle.commands.specs.Counted.{counted_of, store_counted}
use Rattle.groups.specs.Groups.{Groups, groups_of}
use Rattle.groups.proofs.Laws.{groups_fit}
use Rattle.asking.specs.Asking.{group_of_scene, store_asking}
use Rattle.asking.proofs.Laws.{asks_told, unsound-counted}
use Rattle.asking.proofs.AskingHandler.store_scene.Goals as goal

pub member-member-requires : goal.member-member-requires
member-member-requires c =
    groups_fit _ (sym c.is_sound.ensures ∙ c.if-is_sound.true)

pub returns-then-is_sound : goal.returns-then-is_sound
unfolding store_asking
returns-then-is_sound c =
    let came : Table = let a = c.args in
    table_of a.self.state a.keys.now a.times.now a.fields.now a.records.now in
    let held : Groups = let a = c.args in
    groups_of a.self.groups a.words.now in
    let a = c.args in
    asks_told held
    (λ n. counted_of (refused came n) 0)
    (λ member. store_counted a.key member a.captured.now came)
    (group_of_scene a.key)
    (sym c.is_sound.ensures ∙ c.if-is_sound.true)
    c.group_of_scene.ensures
    c.member-member.ensures
    c.store_scene.ensures

pub returns : goal.returns
unfolding store_asking
returns c =
    let came : Table = let a = c.args in
    table_of a.self.state a.keys.now a.times.now a.fields.now a.records.now in
    let held : Groups = let a = c.args in
    groups_of a.self.groups a.words.now in
    unsound-counted held (sym c.is_sound.ensures ∙ c.if-is_sound.false) came _ _ c.refused_by.ensures
