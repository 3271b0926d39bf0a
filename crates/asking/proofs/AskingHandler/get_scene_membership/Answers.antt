-- `AskingHandler::get_scene_membership` meets its contract: on sound memberships it is the call of this name that is told what they hold, and on any
-- others it answers 6. Assumes nothing.
use mathlib.Core.Path.{refl, sym, ap, ◌∙◌}
use Rattle.state.specs.Table.{Table, table_of}
use Rattle.reads.specs.declared.ListRead.{ListRead}
use Rattle.reads.specs.Reads.{listed_of, unlisted, get_scene_membership}
use Rattle.groups.specs.Groups.{Groups, groups_of}
use Rattle.groups.proofs.Laws.{groups_fit}
use Rattle.asking.specs.Asking.{membership_asking}
use Rattle.asking.proofs.Laws.{asks_told, asks-unsound}
use Rattle.asking.proofs.AskingHandler.get_scene_membership.Goals as goal

pub member-member-requires : goal.member-member-requires
member-member-requires c =
    groups_fit _ (sym c.is_sound.ensures ∙ c.if-is_sound.true)

pub returns-then-is_sound : goal.returns-then-is_sound
unfolding membership_asking
returns-then-is_sound c =
    let came : Table = let a = c.args in
    table_of a.self.state a.keys.now a.times.now a.fields.now a.records.now in
    let held : Groups = let a = c.args in
    groups_of a.self.groups a.words.now in
    let a = c.args in
    asks_told held
    (unlisted a.ids.now came)
    (λ member. get_scene_membership a.key member a.ids.now came)
    a.key
    (sym c.is_sound.ensures ∙ c.if-is_sound.true)
    refl
    c.member-member.ensures
    c.get_scene_membership.ensures

pub returns : goal.returns
unfolding membership_asking
returns c =
    let came : Table = let a = c.args in
    table_of a.self.state a.keys.now a.times.now a.fields.now a.records.now in
    let held : Groups = let a = c.args in
    groups_of a.self.groups a.words.now in
    ap (λ (r : ListRead). listed_of r c.args.ids.now) c.refused_by.ensures
    ∙ asks-unsound held (sym c.is_sound.ensures ∙ c.if-is_sound.false) (unlisted c.args.ids.now came) _
