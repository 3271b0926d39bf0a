-- `AskingHandler::copy_scene` meets its contract: on sound memberships it is the call of this name that is told what they hold, and on any
-- others it answers 6. Assumes nothing.
use mathlib.Core.Path.{sym, ap, ◌∙◌}
use Rattle.words.specs.declared.GroupKey.{GroupKey}
use Rattle.requests.specs.declared.Membership.{Membership}
use Rattle.state.specs.Table.{Table, table_of}
use Rattle.state.specs.Answer.{refused}
use Rattle.copies.specs.Copy.{source_group, target_group, copy_scene}
use Rattle.groups.specs.Groups.{Groups, groups_of, member_of}
use Rattle.groups.proofs.Laws.{groups_fit}
use Rattle.asking.specs.Asking.{copy_asking}
use Rattle.asking.proofs.Laws.{asks_told, unsound-asked}
use Rattle.asking.proofs.AskingHandler.copy_scene.Goals as goal

pub member-source-requires : goal.member-source-requires
member-source-requires c =
    groups_fit _ (sym c.is_sound.ensures ∙ c.if-is_sound.true)

pub member-target-requires : goal.member-target-requires
member-target-requires c =
    groups_fit _ (sym c.is_sound.ensures ∙ c.if-is_sound.true)

pub returns-then-is_sound : goal.returns-then-is_sound
unfolding copy_asking
returns-then-is_sound c =
    let came : Table = let a = c.args in
    table_of a.self.state a.keys.now a.times.now a.fields.now a.records.now in
    let held : Groups = let a = c.args in
    groups_of a.self.groups a.words.now in
    let a = c.args in
    asks_told held
    (refused came)
    (λ source. copy_scene a.c source (member_of (target_group a.c) held) came)
    (source_group a.c)
    (sym c.is_sound.ensures ∙ c.if-is_sound.true)
    c.group_key.ensures
    c.member-source.ensures
    (c.copy_scene.ensures
    ∙ ap (λ (target : Membership). copy_scene a.c c.member-source.result target came)
    (c.member-target.ensures ∙ ap (λ (k : GroupKey). member_of k held) c.group_key-then-is_sound.ensures))

pub returns : goal.returns
unfolding copy_asking
returns c =
    let came : Table = let a = c.args in
    table_of a.self.state a.keys.now a.times.now a.fields.now a.records.now in
    let held : Groups = let a = c.args in
    groups_of a.self.groups a.words.now in
    unsound-asked held (sym c.is_sound.ensures ∙ c.if-is_sound.false) came _ _ c.refused_by.ensures
