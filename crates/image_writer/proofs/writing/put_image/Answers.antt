-- `image_writer::writing::put_image` meets its contract. Assumes nothing.
use Rattle.text_output.proofs.Writing.{then}
use Rattle.image_writer.specs.Image.{image_bytes}
use Rattle.image_writer.proofs.writing.put_image.Goals as goal

pub returns : goal.returns
unfolding image_bytes
returns c =
    then _ _ _ _ _ c.put_plain-a.ensures
    (then _ _ _ _ _ c.put_entry_array-b.ensures (then _ _ _ _ _ c.put_record_array-c.ensures c.put_plain.ensures))
