-- `script_answers::answers::put_ids` meets its contract. Assumes nothing.
use Prim.Native.Nat.{ℕ}
use mathlib.Core.Path.{sym, ap, ◌∙◌}
use native.Mathlib.Omega.{arith}
use lib.ListN.{length-take}
use lib.Seq.{get_or-take}
use Rattle.text_output.specs.Writing.{sheet, number, puts, writes}
use Rattle.text_output.proofs.Writing.{below_none, below_more}
use Rattle.script_answers.proofs.answers.put_ids.Goals as goal

pub loop-id-init : goal.loop-id-init
loop-id-init c =
    sym (below_none _ _)

pub loop-id-preserved : goal.loop-id-preserved
unfolding writes
loop-id-preserved c =
    let l = length-take c.min.result c.args.buffer.now in
    c.put_number-next.ensures
    ∙ ap (λ (n : ℕ). puts (number n) (sheet c.loop-id.out c.loop-id.next)) (get_or-take c.min.result c.args.buffer.now c.loop-id.id-index 0 (omega arith))
    ∙ ap (puts _) c.loop-id.invariant
    ∙ sym (below_more _ _ _)
