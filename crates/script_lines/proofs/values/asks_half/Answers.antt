-- `script_lines::values::asks_half` meets its contract. Assumes nothing.
use borrow.Author.Tests.{eq-eqb, ne_eqb}
use Rattle.script_lines.specs.Lines.{asks}
use Rattle.script_lines.specs.Values.{half_asking}
use Rattle.script_lines.proofs.values.asks_half.Goals as goal

pub returns-then-read-eq-ASKS : goal.returns-then-read-eq-ASKS
unfolding half_asking
returns-then-read-eq-ASKS c =
    rw (eq-eqb _ 67 c.if-read-eq67.true, eq-eqb _ asks c.if-read-eq-ASKS.true)

pub returns-then-read-eq67 : goal.returns-then-read-eq67
unfolding half_asking
returns-then-read-eq67 c =
    rw (eq-eqb _ 67 c.if-read-eq67.true, ne_eqb _ asks c.if-read-eq-ASKS.false)

pub returns : goal.returns
unfolding half_asking
returns c =
    rw (ne_eqb _ 67 c.if-read-eq67.false)
