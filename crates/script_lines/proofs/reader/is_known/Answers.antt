-- `script_lines::reader::is_known` meets its contract. Assumes nothing.
use mathlib.Core.Path.{sym, ◌∙◌}
use Rattle.script_lines.specs.Lines.{known}
use Rattle.script_lines.proofs.reader.is_known.Goals as goal

pub returns-then-one_of : goal.returns-then-one_of
unfolding known
returns-then-one_of c =
    rw (sym c.one_of.ensures ∙ c.if-one_of.true)

pub returns-then-trace : goal.returns-then-trace
unfolding known
returns-then-trace c =
    rw (sym c.one_of.ensures ∙ c.if-one_of.false, c.if-trace.true) c.one_of-then-trace.ensures

pub returns : goal.returns
unfolding known
returns c =
    rw (sym c.one_of.ensures ∙ c.if-one_of.false, c.if-trace.false)
