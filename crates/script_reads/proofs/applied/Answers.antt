-- `script_reads::applied` meets its contract. Assumes nothing.
use borrow.Author.Tests.{ne_eqb}
use Rattle.script_reads.proofs.applied.Goals as goal

pub returns-then-value-eq0 : goal.returns-then-value-eq0
returns-then-value-eq0 c =
    rw c.if-value-eq0.true

pub returns : goal.returns
returns c =
    rw (ne_eqb _ _ c.if-value-eq0.false)
