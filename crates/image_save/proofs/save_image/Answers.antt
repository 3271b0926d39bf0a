-- `image_save::save_image` meets its contract: on a sound table it saves, and on any other it answers 6. Assumes nothing.
use Prim.Native.Nat.{ℕ}
use mathlib.Core.Path.{sym, ◌∙◌}
use mathlib.Core.List.{List}
use Rattle.state.specs.Table.{Table, table_of}
use Rattle.image_save.specs.Saving.{saved_of}
use Rattle.image_save.proofs.Laws.{save-unsound}
use Rattle.image_save.proofs.save_image.Goals as goal

pub save_sound-requires : goal.save_sound-requires
save_sound-requires c =
    sym c.is_sound.ensures ∙ c.if-is_sound.true

pub returns : goal.returns
returns c =
    let came : Table = table_of c.args.state c.args.keys.now c.args.times.now c.args.fields.now c.args.records.now in
    let buffer : List ℕ = c.args.buffer.now in
    (λ i. saved_of (c.refused_by.ensures i) buffer) ∙ save-unsound buffer came (sym c.is_sound.ensures ∙ c.if-is_sound.false)
