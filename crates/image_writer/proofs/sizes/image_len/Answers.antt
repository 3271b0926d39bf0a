-- `image_writer::sizes::image_len` meets its contract. Assumes nothing.
use Prim.Native.Nat.{◌+◌, ◌*◌, ◌≤◌}
use mathlib.Core.Path.{◌∙◌}
use native.Mathlib.Omega.{arith}
use Rattle.slots.specs.Slots.{slots_of}
use Rattle.image_writer.proofs.Lengths.{entries_le, records_le, image-length}
use Rattle.image_writer.proofs.sizes.image_len.Goals as goal

pub overflow_add-result : goal.overflow_add-result
overflow_add-result c =
    let entries_fit : c.entries_len.result ≤ c.args.entries * 200 = let a = c.args in
    omega (arith, c.entries_len.ensures, entries_le (slots_of a.keys.now a.times.now a.fields.now) a.entries c.requires.stride_in_bounds c.requires.entries_value) in
    omega (arith, entries_fit, c.requires.entries_le_max_scenes)

pub overflow_add-result-2 : goal.overflow_add-result-2
overflow_add-result-2 c =
    let entries_fit : c.entries_len.result ≤ c.args.entries * 200 = let a = c.args in
    omega (arith, c.entries_len.ensures, entries_le (slots_of a.keys.now a.times.now a.fields.now) a.entries c.requires.stride_in_bounds c.requires.entries_value) in
    let a = c.args in
    omega (arith, entries_fit, c.requires.entries_le_max_scenes, c.requires.recorded_le_max_scenes, c.records_len.ensures, records_le a.records.now a.recorded c.requires.recorded_in_bounds)

pub returns : goal.returns
returns c =
    (λ i. 8 + c.entries_len.ensures i + c.records_len.ensures i) ∙ image-length _ _
