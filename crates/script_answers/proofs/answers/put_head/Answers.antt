-- `script_answers::answers::put_head` meets its contract. Assumes nothing.
use mathlib.Core.Path.{sym, ap, ◌∙◌}
use Rattle.text_output.specs.Writing.{puts, writes}
use Rattle.text_output.proofs.Writing.{puts_one}
use Rattle.script_answers.proofs.answers.put_head.Goals as goal

pub returns-then-trace : goal.returns-then-trace
unfolding writes
returns-then-trace c =
    rw c.if-trace.true (c.put_number.ensures ∙ ap (puts _)
    (c.put_number-records.ensures ∙ ap (puts _) (c.put_number-entries.ensures ∙ ap (puts _)
    (c.put_flag-save.ensures ∙ ap (puts _) (c.put_status-status.ensures ∙ ap (puts _) (c.put-name.ensures ∙ sym (puts_one _ _)))))))

pub returns : goal.returns
unfolding writes
returns c =
    rw c.if-trace.false (c.put_number-2.ensures ∙ ap (puts _)
    (c.put_number-entries-2.ensures ∙ ap (puts _) (c.put_status-status.ensures ∙ ap (puts _)
    (c.put-name.ensures ∙ sym (puts_one _ _)))))
