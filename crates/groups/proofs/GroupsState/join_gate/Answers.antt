-- `GroupsState::join_gate` meets its contract: on memberships that are not sound it answers 6. Assumes nothing.
use Rattle.std.proofs.Common.{refl, sym, ◌∙◌}
use Rattle.requests.specs.Requests.{first_refusal, or_next}
use Rattle.groups.specs.Groups.{join_gate}
use Rattle.groups.proofs.GroupsState.join_gate.Goals as goal

pub returns-then-not-is_sound : goal.returns-then-not-is_sound
unfolding join_gate first_refusal or_next
returns-then-not-is_sound c =
    simp (sym c.is_sound.ensures ∙ c.if-not-is_sound.true) refl
