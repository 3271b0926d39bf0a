-- `image_writer::writing::put_records` meets its contract. Assumes nothing.
use mathlib.Core.Path.{◌≡◌, refl, ◌∙◌}
use native.Mathlib.Omega.{arith}
use lib.ListN.{length, take}
use lib.Seq.{length-take-le, get_or-take}
use Rattle.tlv.proofs.Codes.{put_same}
use Rattle.image_writer.specs.Image.{record_bytes}
use Rattle.image_writer.proofs.Firsts.{records_none, records_more, put_more, put_none}
use Rattle.image_writer.proofs.writing.put_records.Goals as goal

pub loop-word-init : goal.loop-word-init
loop-word-init c = (refl, put_none _ _ (records_none c.args.records.now))

pub loop-word-preserved : goal.loop-word-preserved
loop-word-preserved c =
    let rs = c.args.records.now in
    let i = c.loop-word.word-index in
    let t : length (take c.args.n rs) ≡ c.args.n = length-take-le _ _ c.requires in
    let one = put_same record_bytes _ _ _ _ c.put_record-next.ensures (get_or-take c.args.n rs i 0 (omega arith)) in
    (c.put_record-next.auto.out ∙ c.loop-word.invariant.0, put_more _ _ _ _ _ _ (records_more rs i (omega arith)) c.loop-word.invariant.1 one)
