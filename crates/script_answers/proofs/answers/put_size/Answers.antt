-- `script_answers::answers::put_size` meets its contract. Assumes nothing.
use mathlib.Core.Path.{ap, ◌∙◌}
use Rattle.text_output.specs.Writing.{puts, writes}
use Rattle.script_answers.proofs.answers.put_size.Goals as goal

pub returns : goal.returns
unfolding writes
returns c =
    c.end_line.ensures
    ∙ ap (puts _) (c.put_modes-end.ensures
    ∙ ap (puts _) (c.put_number-number.ensures ∙ ap (puts _) c.put_size_word-word.ensures))
