-- `ScenesState::place` meets its contract. Assumes nothing.
use Rattle.std.proofs.Common.{sym, ◌∙◌}
use Rattle.state.specs.Capacity.{place_for}
use Rattle.state.proofs.ScenesState.place.Goals as goal

pub returns-then-may_append : goal.returns-then-may_append
unfolding place_for
returns-then-may_append c =
    simp (c.in_default.is, sym c.may_append.ensures ∙ c.if-may_append.true)

pub returns-in_default : goal.returns-in_default
unfolding place_for
returns-in_default c =
    simp (c.in_default.is, sym c.may_append.ensures ∙ c.if-may_append.false)

pub returns : goal.returns
unfolding place_for
returns c =
    simp c.in-Some.is
