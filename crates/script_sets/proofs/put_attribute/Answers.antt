-- `script_sets::put_attribute` meets its contract. Assumes nothing.
use mathlib.Core.Path.{sym, ◌∙◌}
use borrow.Author.Tests.{eq-eqb, ne_eqb}
use Rattle.text_output.proofs.Writing.{then, puts_none, puts_one}
use Rattle.script_sets.proofs.put_attribute.Goals as goal

pub returns-then-left-eq0 : goal.returns-then-left-eq0
returns-then-left-eq0 c =
    rw (eq-eqb _ _ c.if-left-eq0.true) (then _ _ _ _ _ c.put_decimal-name.ensures (sym (puts_none _)))

pub returns : goal.returns
returns c =
    rw (ne_eqb _ _ c.if-left-eq0.false) (then _ _ _ _ _ c.put_decimal-name.ensures (c.put.ensures ∙ sym (puts_one _ _)))
