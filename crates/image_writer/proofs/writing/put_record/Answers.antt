-- `image_writer::writing::put_record` meets its contract. Assumes nothing.
use Rattle.text_output.proofs.Writing.{then}
use Rattle.tlv.proofs.Codes.{put_same}
use Rattle.tlv.specs.Encoding.{bool_bytes}
use Rattle.image_writer.specs.Image.{key_bytes}
use Rattle.image_writer.proofs.writing.put_record.Goals as goal

pub returns : goal.returns
returns c =
    then _ _ _ _ _ c.put_plain-a.ensures
    (then _ _ _ _ _ (put_same key_bytes _ _ _ _ c.put_key-b.ensures c.key_of_record.ensures)
    (then _ _ _ _ _ (put_same (bool_bytes 4) _ _ _ _ c.put_bool-c.ensures c.is_valid.ensures) c.put_plain.ensures))
