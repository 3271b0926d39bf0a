-- `script_reads::transition` meets its contract. Assumes nothing.
use mathlib.Core.Path.{ap}
use borrow.Author.Tests.{ne_eqb}
use Rattle.std.specs.Prelude.{Some}
use Rattle.script_reads.proofs.transition.Goals as goal

pub returns-then-value-eq-STORED : goal.returns-then-value-eq-STORED
returns-then-value-eq-STORED c =
    rw c.if-value-eq-STORED.true

pub returns : goal.returns
returns c =
    rw (ne_eqb _ _ c.if-value-eq-STORED.false) (ap Some c.long.ensures)
