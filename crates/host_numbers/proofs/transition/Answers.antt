-- `host_numbers::transition` meets its contract. Assumes nothing.
use borrow.Author.Tests.{eq-eqb, ne_eqb}
use Rattle.host_numbers.specs.Numbers.{transition_of}
use Rattle.host_numbers.proofs.transition.Goals as goal

pub returns-then-given-eq0 : goal.returns-then-given-eq0
unfolding transition_of
returns-then-given-eq0 c =
    simp (eq-eqb _ _ c.if-given-eq0.true)

pub returns : goal.returns
unfolding transition_of
returns c =
    simp (ne_eqb _ _ c.if-given-eq0.false)
