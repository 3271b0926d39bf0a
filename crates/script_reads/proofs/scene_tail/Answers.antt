-- `script_reads::scene_tail` meets its contract. Assumes nothing.
use borrow.Author.Tests.{ne_eqb}
use Rattle.script_reads.proofs.scene_tail.Goals as goal

pub returns-then-found-eq-SUCCESS : goal.returns-then-found-eq-SUCCESS
returns-then-found-eq-SUCCESS c =
    rw c.if-found-eq-SUCCESS.true

pub returns : goal.returns
returns c =
    rw (ne_eqb _ _ c.if-found-eq-SUCCESS.false)
