-- `script_answers::dump::put_records` meets its contract. Assumes nothing.
use Prim.Native.Nat.{ℕ}
use mathlib.Core.Path.{sym, ap, ◌∙◌}
use native.Mathlib.Omega.{arith}
use lib.ListN.{length-take}
use lib.Seq.{get_or-take}
use Rattle.text_output.specs.Writing.{sheet, writes}
use Rattle.text_output.proofs.Writing.{below_none, below_more}
use Rattle.script_answers.specs.Dump.{record_line}
use Rattle.script_answers.proofs.dump.put_records.Goals as goal

pub loop-word-init : goal.loop-word-init
loop-word-init c =
    sym (below_none _ _)

pub loop-word-preserved : goal.loop-word-preserved
loop-word-preserved c =
    let l = length-take c.min.result c.args.records.now in
    c.put_record-next.ensures
    ∙ ap (λ (w : ℕ). writes (record_line w) (sheet c.loop-word.out c.loop-word.next)) (get_or-take c.min.result c.args.records.now c.loop-word.word-index 0 (omega arith))
    ∙ ap (writes _) c.loop-word.invariant
    ∙ sym (below_more _ _ _)
