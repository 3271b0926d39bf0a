-- `image_writer::writing::put_entry` meets its contract. Assumes nothing.
use Rattle.text_output.proofs.Writing.{then}
use Rattle.tlv.proofs.Codes.{put_same}
use Rattle.tlv.specs.Encoding.{number_bytes}
use Rattle.image_writer.proofs.writing.put_entry.Goals as goal

pub returns : goal.returns
returns c =
    then _ _ _ _ _ c.put_plain-a.ensures
    (then _ _ _ _ _ c.put_key-b.ensures (then _ _ _ _ _ (put_same (number_bytes 4) _ _ _ _ c.put_number-c.ensures c.from.ensures) (then _ _ _ _ _ c.put_octets-d.ensures c.put_plain.ensures)))
