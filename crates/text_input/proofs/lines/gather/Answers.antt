-- `text_input::lines::gather` meets its contract. Assumes nothing.
use Prim.Native.Nat.{ℕ, ◌+◌, ◌-◌}
use mathlib.Core.Path.{◌≡◌, sym, ap, ◌∙◌}
use mathlib.Core.List.{List}
use native.Mathlib.Omega.{arith}
use lib.ListN.{take, drop}
use lib.Seq.{slice}
use borrow.Author.Tests.{lt-ltb, le-ltb}
use Rattle.std.proofs.Common.{rules, tests}
use Rattle.std.proofs.lemmas.Iterator.{YieldsList-from_slice}
use Rattle.std.proofs.lemmas.Iterator.Consumers.{count_from_yields_List, YieldsList-at}
use Rattle.std.proofs.lemmas.Iterator.Search.{YieldsList-from_take_while}
use Rattle.std.proofs.lemmas.List.{drop-take}
use Rattle.std.proofs.lemmas.List.Folds.{length-prefix_len}
use Rattle.std.specs.List.{prefix_len}
use Rattle.text_output.specs.Writing.{sheet, puts}
use Rattle.text_input.specs.Gathering.{in_line, line_end}
use Rattle.text_input.proofs.lines.gather.Goals as goal
use Rattle.text_input.proofs.lines.gather.Goals.{then-ended, else-ended}

pub returns : goal.returns
returns c =
    let chunk = c.args.chunk.now in
    let from = c.args.from in
    let run : c.count.result ≡ prefix_len in_line (drop from chunk) =
    count_from_yields_List c.take_while.result _ c.count.ensures.ran
    (YieldsList-from_take_while _ in_line (YieldsList-at c.take_while.ensures.source (YieldsList-from_slice (drop from chunk) cc))
    c.take_while.ensures.closure c.take_while.ensures.done (λ x b q k. search (rules, tests)))
    ∙ length-prefix_len in_line (drop from chunk) in
    let end : from + c.count.result ≡ line_end chunk from = ap (λ (n : ℕ). from + n) run in
    record {
      ended = rw end;
      next = elim c.if-ended.branch [
        | then-ended w ↦ rw (lt-ltb _ _ w.if-ended.true) (w.result-is ∙ ap (λ (n : ℕ). n + 1) end)
        | else-ended w ↦ rw (le-ltb _ _ w.if-ended.false) (w.result-is ∙ end)
      ];
      bytes =
          let n : from + c.count.result - from ≡ c.count.result = omega arith in
          let read : c.part.result.now ≡ slice from (line_end chunk from) chunk =
          c.part.ensures ∙ ap (λ (n : ℕ). take n (drop from chunk)) n ∙ sym (drop-take from c.count.result chunk) ∙ ap (λ (n : ℕ). slice from n chunk) end in
          c.put_text.ensures ∙ ap (λ (t : List ℕ). puts t (sheet c.args.line.now c.args.held)) read;
    }
