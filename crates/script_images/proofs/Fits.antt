-- The length of an image is whatever it is, so that every tail fits. Assumes nothing.
use Prim.Native.Nat.{ℕ}
use mathlib.Core.Bool.{true, false, cond}
use mathlib.Core.List.{List}
use lib.Dec.{eqb}
use lib.ListN.{take}
use Rattle.words.specs.Constants.{success}
use Rattle.state.specs.Table.{Table}
use Rattle.image_save.specs.declared.ImageSaved.{ImageSaved}
use Rattle.image_save.specs.Saving.{save_image}
use Rattle.script_lines.specs.Values.{value_at}
use Rattle.script_answers.specs.declared.Tail.TheVariants.{Nothing, Image}
use Rattle.script_answers.specs.Answers.{fits}
use Rattle.script_answers.proofs.DoneLaws.{fit_called}
use Rattle.script_images.specs.Images.{image_tail, save, save_in, load, image}

tail-fits : (a : ImageSaved) → fits (image_tail a)
tail-fits a =
    elim (eqb a.status success) as (λ b. fits (cond b (Image a.len) Nothing)) [
      | true ↦ tt
      | false ↦ tt
    ]

pub image-fits : (letter : ℕ) (values : List ℕ) (bytes : ℕ → List ℕ) (buffer : List ℕ) (t : Table) → fits (image letter values bytes buffer t).done.tail
unfolding image save_in save load
image-fits letter values bytes buffer t =
    fit_called (eqb letter 80) _ _ (tail-fits (save_image (take (value_at values 0) buffer) t).answer) tt
