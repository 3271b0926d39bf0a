-- `script_answers::dump::put_groups` meets its contract. Assumes nothing.
use Prim.Native.Nat.{ℕ, min}
use mathlib.Core.Path.{◌≡◌, sym, ap, ◌∙◌}
use native.Mathlib.Omega.{arith}
use lib.ListN.{length, length-take}
use lib.Seq.{get_or-take}
use Rattle.text_output.specs.Writing.{sheet, writes}
use Rattle.text_output.proofs.Writing.{below_none, below_more}
use Rattle.script_answers.specs.Dump.{group_line, group_lines}
use Rattle.script_answers.proofs.dump.put_groups.Goals as goal

pub loop-word-init : goal.loop-word-init
loop-word-init c =
    sym (below_none _ _)

pub loop-word-preserved : goal.loop-word-preserved
loop-word-preserved c =
    let l = length-take c.min.result c.args.words.now in
    c.put_group-next.ensures
    ∙ ap (λ (w : ℕ). writes (group_line w) (sheet c.loop-word.out c.loop-word.next)) (get_or-take c.min.result c.args.words.now c.loop-word.word-index 0 (omega arith))
    ∙ ap (writes _) c.loop-word.invariant
    ∙ sym (below_more _ _ _)

pub returns : goal.returns
unfolding group_lines
returns c =
    let l = length-take c.min.result c.args.words.now in
    let e : min c.args.held (length c.args.words.now) ≡ c.loop-word.word-index = omega arith in
    rw e c.loop-word.invariant
