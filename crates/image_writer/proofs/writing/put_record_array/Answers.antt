-- `image_writer::writing::put_record_array` meets its contract. Assumes nothing.
use Rattle.text_output.proofs.Writing.{then}
use Rattle.image_writer.proofs.writing.put_record_array.Goals as goal

pub returns : goal.returns
returns c =
    then _ _ _ _ _ c.put_head-a.ensures (then _ _ _ _ _ c.put_records-b.ensures c.put_plain.ensures)
