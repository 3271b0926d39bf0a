-- What the letters P and G ask of the table, and what it answers, with the image buffer that is left. The words of a line are numbers,
-- `values`, and the bytes that they spell. Letters are in ASCII codes.
use Rattle.std.specs.Prelude.{ℕ, cond, List, eqb}
use Rattle.words.specs.Constants.{success}
use Rattle.state.specs.Table.{Table}
use Rattle.image_save.specs.declared.ImageSaved.{ImageSaved}
use Rattle.image_save.specs.Saving.{Saved, save_image}
use Rattle.image_load.specs.Loading.{load_image}
use Rattle.script_lines.specs.Values.{value_at}
use Rattle.script_answers.specs.declared.Tail.{Tail}
use Rattle.script_answers.specs.declared.Tail.TheVariants.{Nothing, Image}
use Rattle.script_answers.specs.Done.{Done, plain, read_of, Called, called_of, in_front}

-- the length of an image that was saved
abbrev pub image_tail : ImageSaved → Tail
image_tail a = cond (eqb a.status success) (Image a.len) Nothing

abbrev pub saved_as : Saved → Table → Called
saved_as s t = called_of (read_of s.answer.status (image_tail s.answer) t) s.buffer

unfoldable pub save : List ℕ → Table → Called
save buffer t = saved_as (save_image buffer t) t

-- P: the front of the buffer that the line asks for, or all of it; the rest stays
unfoldable pub save_in : List ℕ → List ℕ → Table → Called
save_in values buffer t = in_front (value_at values 0) (λ b. save b t) buffer

-- G
unfoldable pub load : List ℕ → Table → Done
load bytes t = plain (load_image bytes t)

-- by letter, G for any other
unfoldable pub image : ℕ → List ℕ → (ℕ → List ℕ) → List ℕ → Table → Called
image letter values bytes buffer t = cond (eqb letter 80) (save_in values buffer t) (called_of (load (bytes 0) t) buffer)
