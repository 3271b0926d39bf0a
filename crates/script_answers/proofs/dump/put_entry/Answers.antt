-- `script_answers::dump::put_entry` meets its contract. Assumes nothing.
use mathlib.Core.Path.{ap, ◌∙◌}
use Rattle.text_output.specs.Writing.{puts, writes}
use Rattle.script_answers.specs.Dump.{key_texts}
use Rattle.script_answers.proofs.dump.put_entry.Goals as goal

pub returns : goal.returns
unfolding writes
returns c =
    c.end_line.ensures
    ∙ ap (puts _) (c.put_bytes-end.ensures
    ∙ ap (puts _) (c.put_number-number.ensures
    ∙ ap (puts _) (c.put_key-key.ensures ∙ ap (writes (key_texts _)) c.put_text-letter.ensures)))
