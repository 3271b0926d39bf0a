-- `script_reads::info_tail` meets its contract. Assumes nothing.
use borrow.Author.Tests.{ne_eqb}
use Rattle.script_reads.proofs.info_tail.Goals as goal

pub returns-then-info : goal.returns-then-info
returns-then-info c =
    rw (c.if-info-eq-SUCCESS.true, c.if-info.true)

pub returns-then-info-eq-SUCCESS : goal.returns-then-info-eq-SUCCESS
returns-then-info-eq-SUCCESS c =
    rw (c.if-info-eq-SUCCESS.true, c.if-info.false)

pub returns : goal.returns
returns c =
    rw (ne_eqb _ _ c.if-info-eq-SUCCESS.false)
