-- `script_sets::put_cluster` meets its contract. Assumes nothing.
use mathlib.Core.Path.{sym, ◌∙◌}
use borrow.Author.Tests.{eq-eqb, ne_eqb}
use Rattle.text_output.proofs.Writing.{then, puts_one}
use Rattle.script_sets.proofs.put_cluster.Goals as goal

pub returns-then-pairs-eq0 : goal.returns-then-pairs-eq0
returns-then-pairs-eq0 c =
    rw (eq-eqb _ _ c.if-pairs-eq0.true) (then _ _ _ _ _ c.put_number-name.ensures c.put_text.ensures)

pub returns : goal.returns
returns c =
    rw (ne_eqb _ _ c.if-pairs-eq0.false) (then _ _ _ _ _ c.put_number-name.ensures (c.put.ensures ∙ sym (puts_one _ _)))
