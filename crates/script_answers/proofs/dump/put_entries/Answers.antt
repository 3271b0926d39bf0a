-- `script_answers::dump::put_entries` meets its contract. Assumes nothing.
use mathlib.Core.Path.{sym, ap, ◌∙◌}
use Rattle.text_output.specs.Writing.{writes}
use Rattle.text_output.proofs.Writing.{below_none, below_more}
use Rattle.script_answers.proofs.dump.put_entries.Goals as goal

pub loop-i-init : goal.loop-i-init
loop-i-init c =
    sym (below_none _ _)

pub loop-i-preserved : goal.loop-i-preserved
loop-i-preserved c =
    c.put_entry_at-next.ensures ∙ ap (writes _) c.loop-i.invariant ∙ sym (below_more _ _ _)
