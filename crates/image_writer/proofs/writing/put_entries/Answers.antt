-- `image_writer::writing::put_entries` meets its contract. Assumes nothing.
use Prim.Native.Nat.{ℕ}
use mathlib.Core.Path.{refl, ◌∙◌}
use mathlib.Core.List.{List}
use native.Mathlib.Omega.{arith}
use lib.ListN.{get_or}
use Rattle.slots.specs.Slots.{Slots, slots_of}
use Rattle.slots.proofs.View.{lengths_at}
use Rattle.tlv.proofs.Codes.{put_same}
use Rattle.image_writer.specs.Image.{entry_of, entry_bytes}
use Rattle.image_writer.proofs.Firsts.{entries_none, entries_more, put_more, put_none}
use Rattle.image_writer.proofs.writing.put_entries.Goals as goal

pub loop-i-init : goal.loop-i-init
loop-i-init c =
    let came : Slots = slots_of c.args.keys.now c.args.times.now c.args.fields.now in
    (refl, put_none _ _ (entries_none came))

pub field_bytes-requires : goal.field_bytes-requires
field_bytes-requires c =
    record { stride_in_bounds = omega arith; at_bound = lengths_at c.args.fields.now c.args.n c.loop-i.i c.requires.n_value c.loop-i-test.true }

pub loop-i-preserved : goal.loop-i-preserved
loop-i-preserved c =
    let came : Slots = slots_of c.args.keys.now c.args.times.now c.args.fields.now in
    let s = came in
    let bytes : List ℕ → List ℕ = λ fields. entry_bytes (entry_of (get_or s.keys c.loop-i.i 0) (get_or s.times c.loop-i.i 0) fields) in (
      c.put_entry-next.auto.out ∙ c.loop-i.invariant.0,
      put_more _ _ _ _ _ _ (entries_more s c.loop-i.i) c.loop-i.invariant.1 (put_same bytes _ _ _ _ c.put_entry-next.ensures c.field_bytes.ensures),
    )
