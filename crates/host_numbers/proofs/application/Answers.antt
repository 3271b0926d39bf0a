-- `host_numbers::application` meets its contract. Assumes nothing.
use borrow.Author.Tests.{eq-eqb, ne_eqb}
use Rattle.host_numbers.specs.Numbers.{applied_of}
use Rattle.host_numbers.proofs.application.Goals as goal

pub returns-then-answer-eq1 : goal.returns-then-answer-eq1
unfolding applied_of
returns-then-answer-eq1 c =
    simp (eq-eqb _ _ c.if-answer-eq1.true)

pub returns : goal.returns
unfolding applied_of
returns c =
    simp (ne_eqb _ _ c.if-answer-eq1.false)
