-- `AskingHandler::recall_lookup` meets its contract: on sound memberships it is the call of this name that is told what they hold, and on any
-- others it answers 6. Assumes nothing.
use mathlib.Core.Path.{sym, ◌∙◌}
use Rattle.state.specs.Table.{Table, table_of}
use Rattle.reads.specs.Reads.{unread, recall_lookup}
use Rattle.groups.specs.Groups.{Groups, groups_of}
use Rattle.groups.proofs.Laws.{groups_fit}
use Rattle.asking.specs.Asking.{group_of_scene, lookup_asking}
use Rattle.asking.proofs.Laws.{asks_told, asks-unsound}
use Rattle.asking.proofs.AskingHandler.recall_lookup.Goals as goal

pub member-member-requires : goal.member-member-requires
member-member-requires c =
    groups_fit _ (sym c.is_sound.ensures ∙ c.if-is_sound.true)

pub returns-then-is_sound : goal.returns-then-is_sound
unfolding lookup_asking
returns-then-is_sound c =
    let came : Table = let a = c.args in
    table_of a.self.state a.keys.now a.times.now a.fields.now a.records.now in
    let held : Groups = let a = c.args in
    groups_of a.self.groups a.words.now in
    let a = c.args in
    asks_told held
    (unread came)
    (λ member. recall_lookup a.key member a.transition came)
    (group_of_scene a.key)
    (sym c.is_sound.ensures ∙ c.if-is_sound.true)
    c.group_of_scene.ensures
    c.member-member.ensures
    c.recall_lookup.ensures

pub returns : goal.returns
unfolding lookup_asking
returns c =
    let came : Table = let a = c.args in
    table_of a.self.state a.keys.now a.times.now a.fields.now a.records.now in
    let held : Groups = let a = c.args in
    groups_of a.self.groups a.words.now in
    c.refused_by.ensures ∙ asks-unsound held (sym c.is_sound.ensures ∙ c.if-is_sound.false) (unread came) _
