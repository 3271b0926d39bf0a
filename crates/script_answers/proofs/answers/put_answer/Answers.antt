-- `script_answers::answers::put_answer` meets its contract. Assumes nothing.
use mathlib.Core.Path.{ap, ◌∙◌}
use Rattle.text_output.specs.Writing.{Sheet, puts}
use Rattle.script_answers.specs.Answers.{tail_of, answer_line}
use Rattle.script_answers.proofs.answers.put_answer.Goals as goal

pub returns : goal.returns
unfolding answer_line
returns c =
    let tails : Sheet → Sheet = let a = c.args in
    tail_of a.trace a.answer.tail a.buffer.now a.fields.now in
    c.end_line.ensures
    ∙ ap (puts _) (c.put_tail-end.ensures ∙ ap tails c.put_head-head.ensures)
