-- `script_answers::answers::put_scene` meets its contract. Assumes nothing.
use mathlib.Core.Path.{◌∙◌}
use Rattle.text_output.specs.Writing.{puts, writes, spaced, bytes_text}
use Rattle.script_answers.proofs.answers.put_scene.Goals as goal

pub returns : goal.returns
unfolding writes
returns c =
    c.put_bytes.ensures ∙ (λ i. puts (spaced (bytes_text (c.part.ensures i))) (c.put_number-next.ensures i))
