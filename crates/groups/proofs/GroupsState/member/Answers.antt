-- `GroupsState::member` meets its contract. Assumes nothing.
use mathlib.Core.Path.{refl, sym, ◌∙◌}
use Rattle.groups.specs.Groups.{member_of}
use Rattle.groups.proofs.GroupsState.member.Goals as goal

pub returns-then-is_member : goal.returns-then-is_member
unfolding member_of
returns-then-is_member c =
    simp (sym c.is_member.ensures ∙ c.if-is_member.true) refl

pub returns : goal.returns
unfolding member_of
returns c =
    simp (sym c.is_member.ensures ∙ c.if-is_member.false) refl
