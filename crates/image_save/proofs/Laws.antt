-- The laws of what saving an image answers. Assumes nothing.
use Prim.Native.Nat.{ℕ, ◌+◌, ◌≤◌, ◌<◌}
use mathlib.Core.Path.{◌≡◌, refl, sym, ap, ◌∙◌}
use mathlib.Core.Bool.{true, false}
use mathlib.Core.List.{List, ◌++◌, map}
use native.Mathlib.Omega.{arith}
use lib.ListN.{length, take, drop}
use borrow.Author.Tests.{le-leb, lt-leb}
use Rattle.words.specs.Constants.{success, unsound, buffer_too_short}
use Rattle.words.specs.Below.{positions}
use Rattle.words.proofs.Tests.{all_head, all_tail}
use Rattle.slots.specs.Slots.{entry_at, lengths_sound, laid}
use Rattle.state.specs.Table.{Table, entries_in, records_in}
use Rattle.state.specs.Sound.{sound}
use Rattle.state.proofs.Guard.{refuses, admits, answers_unsound}
use Rattle.text_output.specs.Writing.{sheet, puts}
use Rattle.text_output.proofs.Whole.{puts_whole}
use Rattle.image_writer.specs.Image.{image_bytes}
use Rattle.image_save.specs.Saving.{image_of, Saved, saved_of, unsaved, buffer_gate, save_image}

-- the image of what the counts of a table say
pub image_of_lem : (t : Table) → image_bytes (map (entry_at t.slots) (positions t.state.entries)) (take t.state.recorded t.records) ≡ image_of t
unfolding entries_in records_in
image_of_lem t = refl

pub sound-lengths : (t : Table) → sound t ≡ true → lengths_sound t.slots.fields t.state.entries ≡ true
unfolding sound
sound-lengths t e = all_head _ _ (all_tail _ _ (all_tail _ _ e))

-- ---- the gate

gate_short : (image buffer : ℕ) → buffer < image → buffer_too_short ≡ buffer_gate image buffer
gate_short image buffer h = rw (lt-leb image buffer h)

gate_fits : (image buffer : ℕ) → image ≤ buffer → success ≡ buffer_gate image buffer
gate_fits image buffer h = rw (le-leb image buffer h)

-- ---- what is answered

module _ (buffer : List ℕ) (t : Table) where
  pub save-unsound : sound t ≡ false → unsaved buffer t unsound ≡ save_image buffer t
  unfolding save_image
  save-unsound s = answers_unsound t s _ (unsaved buffer t) _

  module _ (s : sound t ≡ true) where
    pub save-short : (n : ℕ) → n ≡ length (image_of t) → length buffer < n → unsaved buffer t buffer_too_short ≡ save_image buffer t
    unfolding save_image
    save-short n e h =
        refuses t s buffer_too_short (buffer_gate (length (image_of t)) (length buffer)) (gate_short (length (image_of t)) (length buffer) (omega arith))
        (unsaved buffer t) _ (λ z. let w : ⊥ = omega arith in absurd w)

    -- the image as it lies in the buffer
    pub save-fits : (n r : ℕ) (out : List ℕ)
        → n ≡ length (image_of t)
        → n ≤ length buffer
        → sheet out r ≡ puts (image_of t) (sheet buffer 0)
        → saved_of (record { status = success; len = r; state = t.state }) out ≡ save_image buffer t
    unfolding save_image laid
    save-fits n r out e h p =
        let z : 0 + length (image_of t) ≡ length (image_of t) = omega arith in
        let w : sheet out r ≡ sheet (laid (image_of t) buffer) (length (image_of t)) =
        p ∙ puts_whole (image_of t) buffer 0 (omega arith) ∙ ap (λ k. sheet (image_of t ++ drop k buffer) k) z in
        (λ i. saved_of (record { status = success; len = (w i).next; state = t.state }) (w i).bytes)
        ∙ (admits t s success (buffer_gate (length (image_of t)) (length buffer)) (gate_fits (length (image_of t)) (length buffer) (omega arith)) refl).answers
        (unsaved buffer t) _

    pub save-success : length (image_of t) ≤ length buffer → (save_image buffer t).answer.status ≡ success
    unfolding save_image
    save-success h =
        let a = admits t s success (buffer_gate (length (image_of t)) (length buffer)) (gate_fits (length (image_of t)) (length buffer) h) refl in
        ap (λ (r : Saved). r.answer.status) (sym (a.answers (unsaved buffer t) _))
