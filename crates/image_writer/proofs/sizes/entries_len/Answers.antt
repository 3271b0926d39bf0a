-- `image_writer::sizes::entries_len` meets its contract. Assumes nothing.
use Prim.Native.Nat.{◌≤◌}
use mathlib.Core.Path.{◌≡◌, ap, ◌∙◌}
use native.Mathlib.Omega.{arith}
use lib.ListN.{get_or}
use Rattle.words.specs.Constants.{max_fields}
use Rattle.slots.specs.Slots.{Slots, slots_of, length_at}
use Rattle.slots.proofs.View.{lengths_at}
use Rattle.image_writer.specs.Image.{entry_length}
use Rattle.image_writer.proofs.Firsts.{entries_none, entries_more}
use Rattle.image_writer.proofs.Lengths.{none_counted, one_counted, entry_at_length, entry_le}
use Rattle.image_writer.proofs.sizes.entries_len.Goals as goal

pub loop-i-init : goal.loop-i-init
loop-i-init c =
    let a = c.args in
    none_counted _ (entries_none (slots_of a.keys.now a.times.now a.fields.now))

pub entry_len-len-requires : goal.entry_len-len-requires
entry_len-len-requires c =
    let came : Slots = let a = c.args in
    slots_of a.keys.now a.times.now a.fields.now in
    let short : length_at came.fields c.loop-i.i ≤ max_fields = lengths_at c.args.fields.now c.args.n c.loop-i.i c.requires.n_value c.loop-i-test.true in
    omega (arith, short, c.length_at.ensures)

pub overflow_add-len : goal.overflow_add-len
overflow_add-len c =
    let came : Slots = let a = c.args in
    slots_of a.keys.now a.times.now a.fields.now in
    let short : length_at came.fields c.loop-i.i ≤ max_fields = lengths_at c.args.fields.now c.args.n c.loop-i.i c.requires.n_value c.loop-i-test.true in
    let counted : (let s = came in c.entry_len-len.result ≡ entry_length (get_or s.keys c.loop-i.i 0) (get_or s.times c.loop-i.i 0) (length_at s.fields c.loop-i.i)) = let s = came in
    c.entry_len-len.ensures ∙ ap (entry_length (get_or s.keys c.loop-i.i 0) (get_or s.times c.loop-i.i 0)) c.length_at.ensures in
    let small : c.entry_len-len.result ≤ 200 = let s = came in
    omega (arith, counted, entry_le (get_or s.keys c.loop-i.i 0) (get_or s.times c.loop-i.i 0) (length_at s.fields c.loop-i.i) short) in
    omega (arith, small, c.loop-i.invariant.under)

pub loop-i-preserved : goal.loop-i-preserved
loop-i-preserved c =
    let came : Slots = let a = c.args in
    slots_of a.keys.now a.times.now a.fields.now in
    let short : length_at came.fields c.loop-i.i ≤ max_fields = lengths_at c.args.fields.now c.args.n c.loop-i.i c.requires.n_value c.loop-i-test.true in
    let counted : (let s = came in c.entry_len-len.result ≡ entry_length (get_or s.keys c.loop-i.i 0) (get_or s.times c.loop-i.i 0) (length_at s.fields c.loop-i.i)) = let s = came in
    c.entry_len-len.ensures ∙ ap (entry_length (get_or s.keys c.loop-i.i 0) (get_or s.times c.loop-i.i 0)) c.length_at.ensures in
    let small : c.entry_len-len.result ≤ 200 = let s = came in
    omega (arith, counted, entry_le (get_or s.keys c.loop-i.i 0) (get_or s.times c.loop-i.i 0) (length_at s.fields c.loop-i.i) short) in
    let s = came in
    one_counted _ _ _ _ _ _ c.loop-i.invariant (entries_more s c.loop-i.i) (counted ∙ entry_at_length s c.loop-i.i (omega arith) short) small
