-- `script_answers::answers::put_row` meets its contract. Assumes nothing.
use mathlib.Core.Path.{ap, ◌∙◌}
use Rattle.text_output.specs.Writing.{puts, writes}
use Rattle.script_answers.proofs.answers.put_row.Goals as goal

pub returns : goal.returns
unfolding writes
returns c =
    c.put_number.ensures
    ∙ ap (puts _) (c.put_number-remaining.ensures
    ∙ ap (puts _) (c.put_flag-valid.ensures ∙ ap (puts _) (c.put_number-scene.ensures ∙ ap (puts _)
    (c.put_number-group.ensures ∙ ap (puts _) c.put_number-count.ensures))))
