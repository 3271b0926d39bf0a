-- `host_numbers::truth` meets its contract. Assumes nothing.
use borrow.Author.Tests.{eq-eqb, ne_eqb}
use Rattle.host_numbers.specs.Numbers.{truth_of}
use Rattle.host_numbers.proofs.truth.Goals as goal

pub returns-then-answer-eq0 : goal.returns-then-answer-eq0
unfolding truth_of
returns-then-answer-eq0 c =
    simp (eq-eqb _ _ c.if-answer-eq0.true)

pub returns : goal.returns
unfolding truth_of
returns c =
    simp (ne_eqb _ _ c.if-answer-eq0.false)
