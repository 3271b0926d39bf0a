-- `image_writer::writing::put_key` meets its contract. Assumes nothing.
use mathlib.Core.Path.{◌∙◌}
use Rattle.text_output.proofs.Writing.{then}
use Rattle.tlv.proofs.Codes.{put_same}
use Rattle.tlv.specs.Encoding.{number_bytes}
use Rattle.image_writer.proofs.writing.put_key.Goals as goal

pub returns : goal.returns
returns c =
    then _ _ _ _ _ (put_same (number_bytes 0) _ _ _ _ c.put_number-a.ensures c.fabric_of.ensures)
    (then _ _ _ _ _ (put_same (number_bytes 1) _ _ _ _ c.put_number-b.ensures (c.from.ensures ∙ c.endpoint_of.ensures))
    (then _ _ _ _ _ (put_same (number_bytes 2) _ _ _ _ c.put_number-c.ensures (c.from-2.ensures ∙ c.group_of.ensures))
    (put_same (number_bytes 3) _ _ _ _ c.put_number.ensures (c.from-3.ensures ∙ c.scene_of.ensures))))
