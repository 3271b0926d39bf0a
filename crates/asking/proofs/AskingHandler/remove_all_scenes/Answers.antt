-- `AskingHandler::remove_all_scenes` meets its contract: on sound memberships it is the call of this name that is told what they hold, and on any
-- others it answers 6. Assumes nothing.
use mathlib.Core.Path.{refl, sym, ◌∙◌}
use Rattle.state.specs.Table.{Table, table_of}
use Rattle.state.specs.Answer.{refused}
use Rattle.commands.specs.Commands.{remove_all_scenes}
use Rattle.groups.specs.Groups.{Groups, groups_of}
use Rattle.groups.proofs.Laws.{groups_fit}
use Rattle.asking.specs.Asking.{remove_all_asking}
use Rattle.asking.proofs.Laws.{asks_told, unsound-asked}
use Rattle.asking.proofs.AskingHandler.remove_all_scenes.Goals as goal

pub member-member-requires : goal.member-member-requires
member-member-requires c =
    groups_fit _ (sym c.is_sound.ensures ∙ c.if-is_sound.true)

pub returns-then-is_sound : goal.returns-then-is_sound
unfolding remove_all_asking
returns-then-is_sound c =
    let came : Table = let a = c.args in
    table_of a.self.state a.keys.now a.times.now a.fields.now a.records.now in
    let held : Groups = let a = c.args in
    groups_of a.self.groups a.words.now in
    let a = c.args in
    asks_told held
    (refused came)
    (λ member. remove_all_scenes a.key member came)
    a.key
    (sym c.is_sound.ensures ∙ c.if-is_sound.true)
    refl
    c.member-member.ensures
    c.remove_all_scenes.ensures

pub returns : goal.returns
unfolding remove_all_asking
returns c =
    let came : Table = let a = c.args in
    table_of a.self.state a.keys.now a.times.now a.fields.now a.records.now in
    let held : Groups = let a = c.args in
    groups_of a.self.groups a.words.now in
    unsound-asked held (sym c.is_sound.ensures ∙ c.if-is_sound.false) came _ _ c.refused_by.ensures
