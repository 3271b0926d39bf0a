-- `ScenesState::is_sound` meets its contract. Assumes nothing.
use Rattle.std.proofs.Common.{◌≡◌, Bool, true, false, ◌&&◌, [], ◌∷◌, sym, ◌∙◌, arith}
use Rattle.words.specs.Conditions.{all_of}
use Rattle.words.proofs.Tests.{and_left, and_right, and_fails, and_true}
use Rattle.state.specs.Sound.{sound}
use Rattle.state.proofs.Laws.{in_bounds_lem}
use Rattle.state.proofs.ScenesState.is_sound.Goals as goal

-- the entries are sound, and the records decide
records_decide : (a b c d : Bool) → a ≡ true → (b && c) ≡ true → d ≡ all_of (a ∷ b ∷ c ∷ d ∷ [])
unfolding all_of
records_decide a b c d h k = simp (h, and_left b c k, and_right b c k) (sym (and_true d))

entry_fails : (a b c d : Bool) → a ≡ true → (b && c) ≡ false → false ≡ all_of (a ∷ b ∷ c ∷ d ∷ [])
unfolding all_of
entry_fails a b c d h k = rw (h) (sym (and_fails b c (d && true) k))

pub entries_sound-requires : goal.entries_sound-requires
entries_sound-requires c =
    let f = in_bounds_lem _ _ _ _ _ (sym c.in_bounds.ensures ∙ c.if-in_bounds.true) in
    record { n_in_bounds = omega arith; stride_in_bounds = omega arith }

pub records_sound-requires : goal.records_sound-requires
records_sound-requires c =
    let f = in_bounds_lem _ _ _ _ _ (sym c.in_bounds.ensures ∙ c.if-in_bounds.true) in
    omega arith

pub returns-then-entries_sound : goal.returns-then-entries_sound
unfolding sound
returns-then-entries_sound c =
    c.records_sound.ensures
    ∙ records_decide _ _ _ _ (sym c.in_bounds.ensures ∙ c.if-in_bounds.true) (sym c.entries_sound.ensures ∙ c.if-entries_sound.true)

pub returns-else-entries_sound : goal.returns-else-entries_sound
unfolding sound
returns-else-entries_sound c =
    entry_fails _ _ _ _ (sym c.in_bounds.ensures ∙ c.if-in_bounds.true) (sym c.entries_sound.ensures ∙ c.if-entries_sound.false)

pub returns-else-in_bounds : goal.returns-else-in_bounds
unfolding sound all_of
returns-else-in_bounds c =
    simp (sym c.in_bounds.ensures ∙ c.if-in_bounds.false)
