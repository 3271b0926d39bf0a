-- `ScenesState::search` meets its contract. Assumes nothing.
use Rattle.std.proofs.Common.{◌≡◌, Bool, true, false, ◌&&◌, [], ◌∷◌, sym, ◌∙◌, arith}
use Rattle.words.specs.Conditions.{all_of}
use Rattle.words.proofs.Tests.{and_true, and_false}
use Rattle.state.specs.Sound.{sound}
use Rattle.state.proofs.Laws.{in_bounds_lem}
use Rattle.state.proofs.ScenesState.search.Goals as goal

-- the bounds and the records are sound, and the entries decide
entries_decide : (a b c d : Bool) → a ≡ true → d ≡ true → (b && c) ≡ all_of (a ∷ b ∷ c ∷ d ∷ [])
unfolding all_of
entries_decide a b c d h k = rw (h, k, and_true c)

record_fails : (a b c d : Bool) → a ≡ true → d ≡ false → false ≡ all_of (a ∷ b ∷ c ∷ d ∷ [])
unfolding all_of
record_fails a b c d h k = rw (h, k, and_false c, and_false b)

pub records_sound-requires : goal.records_sound-requires
records_sound-requires c =
    let f = in_bounds_lem _ _ _ _ _ (sym c.in_bounds.ensures ∙ c.if-in_bounds.true) in
    omega arith

pub search_entries-requires : goal.search_entries-requires
search_entries-requires c =
    let f = in_bounds_lem _ _ _ _ _ (sym c.in_bounds.ensures ∙ c.if-in_bounds.true) in
    record { n_in_bounds = omega arith; stride_in_bounds = omega arith }

pub returns-then-records_sound : goal.returns-then-records_sound
unfolding sound
returns-then-records_sound c =
    let bounds = sym c.in_bounds.ensures ∙ c.if-in_bounds.true in
    let records = sym c.records_sound.ensures ∙ c.if-records_sound.true in
    rw (← entries_decide _ _ _ _ bounds records) c.search_entries.ensures

pub returns-else-records_sound : goal.returns-else-records_sound
unfolding sound
returns-else-records_sound c =
    let bounds = sym c.in_bounds.ensures ∙ c.if-in_bounds.true in
    rw (← record_fails _ _ _ _ bounds (sym c.records_sound.ensures ∙ c.if-records_sound.false))

pub returns-else-in_bounds : goal.returns-else-in_bounds
unfolding sound all_of
returns-else-in_bounds c =
    simp (sym c.in_bounds.ensures ∙ c.if-in_bounds.false)
