-- `script_groups::memberships::held_tail` meets its contract. Assumes nothing.
use borrow.Author.Tests.{eq-eqb, ne_eqb}
use Rattle.words.specs.Constants.{success}
use Rattle.script_groups.proofs.memberships.held_tail.Goals as goal

pub returns-then-found : goal.returns-then-found
returns-then-found c =
    rw (eq-eqb _ success c.if-found-eq-SUCCESS.true, c.if-found.true)

pub returns-then-found-eq-SUCCESS : goal.returns-then-found-eq-SUCCESS
returns-then-found-eq-SUCCESS c =
    rw (eq-eqb _ success c.if-found-eq-SUCCESS.true, c.if-found.false)

pub returns : goal.returns
returns c =
    rw (ne_eqb _ success c.if-found-eq-SUCCESS.false)
