-- `image_writer::sizes::records_len` meets its contract. Assumes nothing.
use Prim.Native.Nat.{ℕ}
use mathlib.Core.Path.{◌≡◌, sym, ap, ◌∙◌}
use native.Mathlib.Omega.{arith}
use lib.ListN.{length, get_or, take}
use lib.Seq.{length-take-le, get_or-take}
use Rattle.image_writer.specs.Image.{record_length}
use Rattle.image_writer.proofs.Firsts.{records_none, records_more}
use Rattle.image_writer.proofs.Lengths.{none_counted, one_counted, record_length_lem, record_le}
use Rattle.image_writer.proofs.sizes.records_len.Goals as goal

pub loop-word-init : goal.loop-word-init
loop-word-init c = none_counted _ (records_none c.args.records.now)

pub overflow_add-len : goal.overflow_add-len
overflow_add-len c =
    let t : length (take c.args.n c.args.records.now) ≡ c.args.n = length-take-le _ _ c.requires.n_in_bounds in
    omega (arith, record_le (get_or (take c.args.n c.args.records.now) c.loop-word.word-index 0), c.loop-word.invariant.under)

pub loop-word-preserved : goal.loop-word-preserved
loop-word-preserved c =
    let rs = c.args.records.now in
    let i = c.loop-word.word-index in
    let t : length (take c.args.n rs) ≡ c.args.n = length-take-le _ _ c.requires.n_in_bounds in
    let word : ℕ = get_or rs i 0 in
    let len = c.record_len-len.ensures ∙ ap record_length (get_or-take c.args.n rs i 0 (omega arith)) in
    one_counted _ _ _ _ _ _ c.loop-word.invariant (records_more rs i (omega arith)) (len ∙ sym (record_length_lem word)) (omega (arith, len, record_le word))
