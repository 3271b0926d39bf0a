-- The laws of a load: by its length, and on a sound table refused as a whole, or done. Assumes nothing.
use Prim.Native.Nat.{ℕ, ◌≤◌}
use mathlib.Core.Path.{◌≡◌, refl, sym, ap, ◌∙◌}
use mathlib.Core.Bool.{true, false}
use mathlib.Core.List.{List, [], ◌∷◌}
use native.Mathlib.Omega.{arith}
use lib.ListN.{length}
use Rattle.std.proofs.Common.{Option, Some, None}
use Rattle.words.specs.Constants.{success, unsound, bad_image}
use Rattle.slots.specs.Slots.{Slots}
use Rattle.state.specs.declared.ScenesState.{ScenesState}
use Rattle.state.specs.declared.Outcome.{Outcome}
use Rattle.state.specs.Table.{Table}
use Rattle.state.specs.Sound.{sound}
use Rattle.state.specs.Answer.{result_of, refused}
use Rattle.state.proofs.Guard.{result_in, refuses, refuses-outcome, unsound-outcome, admits}
use Rattle.lifecycle.specs.Lifecycle.{startup}
use Rattle.tlv.specs.Elements.{whole, element_at}
use Rattle.tlv.specs.Values.{inside_at}
use Rattle.std.proofs.lemmas.Option.{none-some}
use Rattle.image_reader.specs.Image.{Image, entries_from, records_from, arrays_of, arrays_in, image_in}
use Rattle.image_gate.specs.Verdict.{verdict, image_gate}
use Rattle.image_load.specs.Loading.{restored, load_tlv, load_image, ByLength}
use Rattle.image_gate.specs.Deciding.{image_from, image_with, listed}
use Rattle.image_gate.proofs.Gating.{Passed, passed}

-- ---- by its length

none_there : (b : List ℕ) (t : Table) → length b ≡ 0 → load_image b t ≡ startup t
unfolding load_image
none_there [] t e = refl
none_there (x ∷ b) t e = absurd (omega (arith, e))

some_there : (b : List ℕ) (t : Table) → 1 ≤ length b → load_image b t ≡ load_tlv b t
unfolding load_image
some_there [] t l = absurd (omega (arith, l))
some_there (x ∷ b) t l = refl

-- no bytes are no image, which 9 refuses
nothing_read : (size : ℕ) → image_in size [] ≡ None
unfolding whole element_at inside_at arrays_in image_in
nothing_read size = refl

pub read_some : (size : ℕ) (b : List ℕ) (i : Image) → image_in size b ≡ Some i → 1 ≤ length b
read_some size [] i e = absurd (none-some _ (sym (nothing_read size) ∙ e))
read_some size (x ∷ b) i e = omega arith

none_refused : (t : Table) → sound t ≡ true → load_tlv [] t ≡ refused t bad_image
unfolding verdict load_tlv
none_refused t s = sym (refuses t s bad_image _ (sym (ap verdict (nothing_read t.state.size))) (refused t) _ (λ z. omega arith))

pub by_length : ByLength
by_length = record { no_bytes = none_there; some_bytes = some_there; was_refused = none_refused }

-- ---- on any table, and on a sound one

abbrev answered : ℕ → ScenesState → Outcome
answered n state = record { status = n; save = false; state = state }

-- 6 on a table that is not sound
pub load-unsound : (t : Table) (b : List ℕ) → sound t ≡ false → (o : Outcome) → o ≡ answered unsound t.state
    → result_in t.slots t.records o ≡ load_image b t
unfolding startup load_tlv load_image
load-unsound t [] s o q = unsound-outcome t s _ o _ q
load-unsound t (x ∷ b) s o q = unsound-outcome t s _ o _ q

module _ (t : Table) (b : List ℕ) (s : sound t ≡ true) where
  no_image : arrays_in b ≡ None → bad_image ≡ image_gate t.state.size b
  unfolding image_in verdict
  no_image e = rw e

  pub load-unread : arrays_in b ≡ None → (o : Outcome) → o ≡ answered bad_image t.state → result_in t.slots t.records o ≡ load_tlv b t
  unfolding load_tlv
  load-unread e o q = refuses-outcome t s bad_image _ (no_image e) o _ q (λ z. let w : ⊥ = omega arith in w)

  module _ (first second : ℕ) (e : arrays_in b ≡ Some (arrays_of first second)) (g : ℕ) (d : g ≡ verdict (image_from t.state.size b first second)) where
    same-image : image_from t.state.size b first second ≡ image_in t.state.size b
    unfolding image_in
    same-image = rw e

    same_gate : g ≡ image_gate t.state.size b
    same_gate = d ∙ ap verdict same-image

    pub load-refused : (g ≡ success → ⊥) → (o : Outcome) → o ≡ answered g t.state → result_in t.slots t.records o ≡ load_tlv b t
    unfolding load_tlv
    load-refused h o q = refuses-outcome t s g _ same_gate o _ q h

    module _ (z : g ≡ success) where
      pub load-passed : Passed t.state.size (entries_from b first) (records_from b second)
      load-passed = passed t.state.size (entries_from b first) (records_from b second) (sym d ∙ z)

      pub load-done : (state : ScenesState) (slots : Slots) (records : List ℕ)
          → record { state = state; slots = slots; records = records } ≡ restored (Some (image_with (listed (entries_from b first)) (listed (records_from b second)))) t
          → (o : Outcome) → o ≡ answered success state → result_in slots records o ≡ load_tlv b t
      unfolding load_tlv
      load-done state slots records r o q =
          ap (result_in slots records) q
          ∙ ap (result_of success false) (r ∙ ap (λ (i : Option Image). restored i t) (sym load-passed.image ∙ same-image))
          ∙ (admits t s g _ same_gate z).answers (refused t) _
