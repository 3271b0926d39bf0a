-- `script_answers::dump::put_counts` meets its contract. Assumes nothing.
use mathlib.Core.Path.{ap, ◌∙◌}
use Rattle.text_output.specs.Writing.{puts, writes}
use Rattle.script_answers.proofs.dump.put_counts.Goals as goal

pub returns : goal.returns
unfolding writes
returns c =
    c.end_line.ensures
    ∙ ap (puts _) (c.put_number-version.ensures
    ∙ ap (puts _) (c.put_number-recorded.ensures
    ∙ ap (puts _) (c.put_number-entries.ensures ∙ ap (puts _) c.put_text-letter.ensures)))
