-- `text_output::output::put_text` meets its contract. Assumes nothing.
use mathlib.Core.Path.{sym, ap, ◌∙◌}
use native.Mathlib.Omega.{arith}
use Rattle.text_output.specs.Writing.{puts}
use Rattle.text_output.proofs.Writing.{text-next, text_end}
use Rattle.text_output.proofs.output.put_text.Goals as goal

pub loop-b-preserved : goal.loop-b-preserved
loop-b-preserved c =
    c.loop-b.invariant ∙ text-next c.args.text.now c.loop-b.b-index _ (omega arith) ∙ ap (puts _) (sym c.put-next.ensures)

pub returns : goal.returns
returns c =
    sym (c.loop-b.invariant ∙ text_end c.args.text.now c.loop-b.b-index _ (omega arith))
