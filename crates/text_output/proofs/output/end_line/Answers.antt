-- `text_output::output::end_line` meets its contract. Assumes nothing.
use mathlib.Core.Path.{sym, ◌∙◌}
use Rattle.text_output.proofs.Writing.{puts_one}
use Rattle.text_output.proofs.output.end_line.Goals as goal

pub returns : goal.returns
returns c =
    c.put.ensures ∙ sym (puts_one _ _)
