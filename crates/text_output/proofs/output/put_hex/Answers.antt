-- `text_output::output::put_hex` meets its contract. Assumes nothing.
use mathlib.Core.Path.{sym, ap, ◌∙◌}
use native.Mathlib.Omega.{arith}
use Rattle.text_output.specs.Writing.{puts}
use Rattle.text_output.proofs.Writing.{hex_next, hex_end}
use Rattle.text_output.proofs.output.put_hex.Goals as goal

pub loop-b-preserved : goal.loop-b-preserved
loop-b-preserved c =
    c.loop-b.invariant ∙ hex_next c.args.bytes.now c.loop-b.b-index _ (omega arith) ∙ ap (puts _) (sym c.put_hex_byte-next.ensures)

pub returns : goal.returns
returns c =
    sym (c.loop-b.invariant ∙ hex_end c.args.bytes.now c.loop-b.b-index _ (omega arith))
