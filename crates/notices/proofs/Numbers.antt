-- The notice on record structs answers 0 or 6, never with a save mark, and 6 with nothing changed. Assumes nothing.
use Prim.Native.Nat.{ℕ}
use mathlib.Core.Path.{◌≡◌, refl}
use mathlib.Core.Logic.{◌⊎◌, inl, inr}
use mathlib.Core.Bool.{Bool, true, false, cond, ◌&&◌}
use mathlib.Core.List.{List}
use lib.ListN.{length}
use Rattle.words.specs.Constants.{success, unsound}
use Rattle.state.specs.declared.ScenesState.{ScenesState}
use Rattle.notices.specs.declared.CurrentScene.{CurrentScene}
use Rattle.notices.specs.Notice.{head_sound, fabrics_sound, Answer, answer_of, notice_all, notice_records}

module _ (e : ℕ) (s : ScenesState) (rs : List CurrentScene) where
  -- by whether what can be seen is sound
  abbrev answered : Bool → Answer
  answered b = cond b (notice_all e s rs) (answer_of (record { status = unsound; save = false; state = s }) rs)

  pub notice-numbers : ((notice_records e s rs).outcome.status ≡ success) ⊎ ((notice_records e s rs).outcome.status ≡ unsound)
  unfolding notice_records notice_all
  notice-numbers = elim (head_sound s (length rs) && fabrics_sound rs s.recorded) as (λ b. ((answered b).outcome.status ≡ success) ⊎ ((answered b).outcome.status ≡ unsound)) [ true ↦ inl refl | false ↦ inr refl ]

  pub notice-unsaved : (notice_records e s rs).outcome.save ≡ false
  unfolding notice_records notice_all
  notice-unsaved = elim (head_sound s (length rs) && fabrics_sound rs s.recorded) as (λ b. (answered b).outcome.save ≡ false) [ true ↦ refl | false ↦ refl ]

  pub notice-refused : ((notice_records e s rs).outcome.status ≡ success → ⊥) → notice_records e s rs ≡ answer_of (record { status = unsound; save = false; state = s }) rs
  unfolding notice_records notice_all
  notice-refused = elim (head_sound s (length rs) && fabrics_sound rs s.recorded) as (λ b. ((answered b).outcome.status ≡ success → ⊥) → answered b ≡ answered false) [ true ↦ λ h. absurd (h refl) | false ↦ λ _. refl ]
