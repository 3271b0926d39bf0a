-- `image_save::save_sound` meets its contract. Assumes nothing.
use Prim.Native.Nat.{ℕ}
use mathlib.Core.Path.{◌≡◌, ap, ◌∙◌}
use mathlib.Core.List.{List}
use native.Mathlib.Omega.{arith}
use lib.ListN.{length}
use Rattle.state.specs.Table.{Table, table_of}
use Rattle.state.proofs.Laws.{sound_bounds}
use Rattle.text_output.specs.Writing.{sheet, puts}
use Rattle.image_save.specs.Saving.{image_of, saved_of}
use Rattle.image_save.proofs.Laws.{image_of_lem, sound-lengths, save-short, save-fits}
use Rattle.image_save.proofs.save_sound.Goals as goal

pub image_len-requires : goal.image_len-requires
image_len-requires c =
    let came : Table = table_of c.args.state c.args.keys.now c.args.times.now c.args.fields.now c.args.records.now in
    let b = sound_bounds came c.requires in
    record {
      entries_le_max_scenes = omega (arith, b.most, b.entries);
      entries_in_bounds = omega (arith, b.keys, b.entries);
      entries_in_bounds_2 = omega (arith, b.times, b.entries);
      stride_in_bounds = omega (arith, b.fields, b.entries);
      entries_value = sound-lengths came c.requires;
      recorded_le_max_scenes = omega (arith, b.most, b.recorded);
      recorded_in_bounds = omega (arith, b.recorded, b.records);
    }

pub returns-then-buffer-image_len : goal.returns-then-buffer-image_len
returns-then-buffer-image_len c =
    let came : Table = table_of c.args.state c.args.keys.now c.args.times.now c.args.fields.now c.args.records.now in
    let buffer : List ℕ = c.args.buffer.now in
    let counted : c.image_len.result ≡ length (image_of came) = c.image_len.ensures ∙ ap length (image_of_lem came) in
    (λ i. saved_of (c.refused_by.ensures i) buffer) ∙ save-short buffer came c.requires _ counted c.if-buffer-image_len.true

pub put_image-len-requires : goal.put_image-len-requires
put_image-len-requires c =
    let came : Table = table_of c.args.state c.args.keys.now c.args.times.now c.args.fields.now c.args.records.now in
    let b = sound_bounds came c.requires in
    record {
      entries_in_bounds = omega (arith, b.keys, b.entries);
      entries_in_bounds_2 = omega (arith, b.times, b.entries);
      stride_in_bounds = omega (arith, b.fields, b.entries);
      entries_value = sound-lengths came c.requires;
      recorded_in_bounds = omega (arith, b.recorded, b.records);
    }

pub returns : goal.returns
returns c =
    let came : Table = table_of c.args.state c.args.keys.now c.args.times.now c.args.fields.now c.args.records.now in
    let buffer : List ℕ = c.args.buffer.now in
    let counted : c.image_len.result ≡ length (image_of came) = c.image_len.ensures ∙ ap length (image_of_lem came) in
    let put = c.put_image-len.ensures ∙ ap (λ (image : List ℕ). puts image (sheet buffer 0)) (image_of_lem came) in
    save-fits buffer came c.requires _ _ _ counted c.if-buffer-image_len.false put
