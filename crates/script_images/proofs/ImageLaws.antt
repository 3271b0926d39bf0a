-- The law that takes what a save of the table ensures to the definition of its letter. Assumes nothing.
use Prim.Native.Nat.{ℕ}
use mathlib.Core.Path.{◌≡◌, refl, ap, ◌∙◌}
use mathlib.Core.Bool.{Bool, true, false, cond}
use mathlib.Core.List.{List}
use lib.Dec.{eqb}
use Rattle.words.specs.Constants.{success}
use Rattle.state.specs.declared.ScenesState.{ScenesState}
use Rattle.state.specs.Table.{Table, table_of}
use Rattle.state.specs.Answer.{refusal_of, guarded}
use Rattle.image_save.specs.declared.ImageSaved.{ImageSaved}
use Rattle.image_save.specs.Saving.{Saved, saved_of, save_image}
use Rattle.script_answers.specs.declared.Tail.{Tail}
use Rattle.script_answers.specs.Done.{read_of, called_of}
use Rattle.script_images.specs.Images.{image_tail, saved_as}

-- a save leaves the head as it was
save-state : (buffer : List ℕ) (t : Table) → (save_image buffer t).answer.state ≡ t.state
unfolding save_image guarded
save-state buffer t = either (eqb (refusal_of t _) success) _ _ refl refl
  where
    either : (b : Bool) (x y : Saved) → x.answer.state ≡ t.state → y.answer.state ≡ t.state → (cond b x y).answer.state ≡ t.state
    either true x y p q = p
    either false x y p q = q

module _ (k tm f w : List ℕ) (s : ScenesState) where
  abbrev came : Table
  came = table_of s k tm f w

  pub saved-done : (tail : Tail) (a : ImageSaved) (after buffer : List ℕ) → tail ≡ image_tail a → saved_of a after ≡ save_image buffer came
      → called_of (read_of a.status tail (table_of a.state k tm f w)) after ≡ saved_as (save_image buffer came) came
  saved-done tail a after buffer e p =
      let t = e ∙ ap (λ (x : Saved). image_tail x.answer) p in
      let h = ap (λ (x : Saved). x.answer.state) p ∙ save-state buffer came in
      λ i. called_of (read_of (p i).answer.status (t i) (table_of (h i) k tm f w)) (p i).buffer
