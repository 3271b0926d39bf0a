-- `script_sets::put_sets` meets its contract. Assumes nothing.
use mathlib.Core.Path.{sym, ap, ◌∙◌}
use Rattle.std.proofs.Common.{ℕ, IsSome}
use Rattle.text_output.specs.Writing.{sheet, writes}
use Rattle.script_answers.specs.Answers.{head_texts}
use Rattle.script_sets.specs.Texts.{sets_answer}
use Rattle.field_sets.specs.Reader.{sets_in}
use Rattle.script_sets.proofs.Showing.{total_none, total_some, line_refused, line_shown}
use Rattle.script_sets.proofs.put_sets.Goals as goal

pub returns-in_default : goal.returns-in_default
returns-in_default c =
    let a = c.args in
    line_refused a.trace a.state a.bytes.now (sheet a.out.now a.at) _ _
    (total_none (sets_in a.bytes.now) (sym c.count_pairs.ensures ∙ c.in_default.is))
    (c.put_head-head.ensures ∙ ap (λ (n : ℕ). writes (head_texts a.trace 89 (sets_answer a.state n)) (sheet a.out.now a.at)) c.from.ensures)
    c.end_line.ensures

pub returns : goal.returns
returns c =
    let is-list : IsSome (sets_in c.args.bytes.now) = total_some (sets_in c.args.bytes.now) _ (sym c.count_pairs.ensures ∙ c.in-Some.is) in
    let a = c.args in
    line_shown a.trace a.state a.bytes.now (sheet a.out.now a.at) _ _ _
    is-list c.put_head-head-2.ensures c.put_all-end.ensures c.end_line-2.ensures
