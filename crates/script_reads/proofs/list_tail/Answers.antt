-- `script_reads::list_tail` meets its contract. Assumes nothing.
use borrow.Author.Tests.{ne_eqb}
use Rattle.script_reads.proofs.list_tail.Goals as goal

pub returns-then-listed-eq-SUCCESS : goal.returns-then-listed-eq-SUCCESS
returns-then-listed-eq-SUCCESS c =
    rw c.if-listed-eq-SUCCESS.true

pub returns : goal.returns
returns c =
    rw (ne_eqb _ _ c.if-listed-eq-SUCCESS.false)
