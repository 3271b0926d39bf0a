-- `text_output::output::put_error` meets its contract. Assumes nothing.
use mathlib.Core.Path.{ap, ◌∙◌}
use Rattle.text_output.specs.Writing.{puts, writes}
use Rattle.text_output.proofs.output.put_error.Goals as goal

pub returns : goal.returns
unfolding writes
returns c =
    c.end_line.ensures ∙ ap (puts _) (c.put_reason-why.ensures ∙ ap (puts _) (c.put_number-number.ensures ∙ ap (puts _) c.put_text-word.ensures))
