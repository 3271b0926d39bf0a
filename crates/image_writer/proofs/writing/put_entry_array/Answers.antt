-- `image_writer::writing::put_entry_array` meets its contract. Assumes nothing.
use Rattle.text_output.proofs.Writing.{then}
use Rattle.image_writer.proofs.writing.put_entry_array.Goals as goal

pub returns : goal.returns
returns c =
    then _ _ _ _ _ c.put_head-a.ensures (then _ _ _ _ _ c.put_entries-b.ensures c.put_plain.ensures)
