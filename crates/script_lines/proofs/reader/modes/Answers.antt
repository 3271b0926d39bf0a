-- `script_lines::reader::modes` meets its contract. Assumes nothing.
use borrow.Author.Tests.{eq-eqb, ne_eqb}
use Rattle.script_lines.specs.Lines.{modes_of}
use Rattle.script_lines.proofs.reader.modes.Goals as goal

pub returns-then-word-eq0 : goal.returns-then-word-eq0
unfolding modes_of
returns-then-word-eq0 c =
    rw (eq-eqb _ _ c.if-word-eq0.true)

pub returns-then-trace : goal.returns-then-trace
unfolding modes_of
returns-then-trace c =
    rw (ne_eqb _ _ c.if-word-eq0.false, c.if-trace.true) c.number.ensures

pub returns : goal.returns
unfolding modes_of
returns c =
    rw (ne_eqb _ _ c.if-word-eq0.false, c.if-trace.false)
