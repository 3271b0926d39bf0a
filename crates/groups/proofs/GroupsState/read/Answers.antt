-- `GroupsState::read` meets its contract: 6, then 1, then the answer. Assumes nothing.
use mathlib.Core.Path.{sym, ◌∙◌}
use Rattle.words.proofs.Refusals.{refusal-number}
use Rattle.groups.proofs.Laws.{groups_fit, read-unsound, read-refused, read_told}
use Rattle.groups.proofs.GroupsState.read.Goals as goal

pub returns-then-not-is_sound : goal.returns-then-not-is_sound
returns-then-not-is_sound c =
    c.refused.ensures ∙ read-unsound _ _ (sym c.is_sound.ensures ∙ c.if-not-is_sound.true)

pub returns-in-Err : goal.returns-in-Err
returns-in-Err c =
    c.refused-in-Err.ensures ∙ read-refused _ _ (sym c.is_sound.ensures ∙ c.if-not-is_sound.false) _ c.in-Err.ensures (refusal-number _)

pub is_member-requires : goal.is_member-requires
is_member-requires c =
    groups_fit _ (sym c.is_sound.ensures ∙ c.if-not-is_sound.false)

pub returns : goal.returns
returns c =
    let sound = sym c.is_sound.ensures ∙ c.if-not-is_sound.false in
    read_told _ _ sound (sym c.in_default.ensures) _ c.is_member.ensures
