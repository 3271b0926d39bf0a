-- What each change leaves of the first n record words, `take n records`, and of a word's soundness, for callers. Assumes nothing.
use Prim.Native.Nat.{ℕ, zero, suc, ◌+◌, ◌^◌, ◌≤◌, ◌<◌}
use mathlib.Core.Path.{◌≡◌, refl, sym, ap, ◌∙◌}
use mathlib.Core.Bool.{true, false, cond}
use mathlib.Core.List.{List, [], ◌∷◌, ◌++◌, map}
use native.Mathlib.Numerals.{add-one}
use native.Mathlib.Omega.{arith}
use lib.Dec.{leb, ltb}
use lib.ListN.{length, take, drop, get_or, set, length-append, length-drop, length-map, length-set}
use lib.Seq.{take_at, take-set-lt, take-suc-set}
use borrow.Author.Tests.{ltb-true, leb-true, lt-ltb, le-leb}
use Rattle.std.specs.Prelude.{Option, Some, None}
use Rattle.words.specs.declared.SceneKey.{SceneKey}
use Rattle.words.specs.Words.{fabric_of, key_of_record, valid_record}
use Rattle.words.proofs.Tests.{and_right, and_intro}
use Rattle.words.proofs.Below.{every_at, every_intro, kept_le}
use Rattle.records.specs.declared.Scope.{Scope}
use Rattle.records.specs.Records.{record_sound, records_sound, Records, records_of, first_owned, remember_at, remember, hits, cleared, map_first, invalidated, others_of, moved}
use Rattle.records.proofs.Laws.{found_under, remember_over, remember-behind, remember_dropped}

-- ---- soundness

pub sound_at : (l : List ℕ) (n i : ℕ) → records_sound l n ≡ true → i < n → record_sound (get_or l i 0) ≡ true
unfolding records_sound
sound_at l n i e h = every_at _ n i h e

pub sound_all : (l : List ℕ) (n : ℕ) → ((i : ℕ) → i < n → record_sound (get_or l i 0) ≡ true) → records_sound l n ≡ true
unfolding records_sound
sound_all l n h = every_intro _ n h

sound_intro : (w : ℕ) → w < 2 ^ 49 → 1 ≤ fabric_of (key_of_record w) → record_sound w ≡ true
sound_intro w h k = and_intro (ltb w (2 ^ 49)) (leb 1 (fabric_of (key_of_record w))) (lt-ltb w (2 ^ 49) h) (le-leb 1 (fabric_of (key_of_record w)) k)

-- a sound word has a fabric
pub sound-fabric : (w : ℕ) → record_sound w ≡ true → 1 ≤ fabric_of (key_of_record w)
sound-fabric w e = leb-true 1 (fabric_of (key_of_record w)) (and_right (ltb w (2 ^ 49)) (leb 1 (fabric_of (key_of_record w))) e)

-- a word that loses its mark stays sound
pub sound-cleared : (scope : Scope) (w : ℕ) → record_sound w ≡ true → record_sound (cleared scope w) ≡ true
sound-cleared scope w e =
    let h = sound-fabric w e in
    elim (hits scope w) as (λ b. record_sound (cond b (key_of_record w) w) ≡ true) [ true ↦ sound_intro (key_of_record w) (omega arith) (omega arith) | false ↦ e ]

-- what is remembered is sound
pub sound-valid : (key : SceneKey) → 1 ≤ key.fabric → key.fabric < 2 ^ 8 → key.endpoint < 2 ^ 16 → key.group < 2 ^ 16 → key.scene < 2 ^ 8 → record_sound (valid_record key) ≡ true
sound-valid key f₁ f e g s = sound_intro (valid_record key) (omega arith) (omega arith)

-- ---- remembering

-- the record words that count
abbrev pub in_use : Records → List ℕ
in_use r = take r.count r.words

at_length : (f : Option ℕ) (key : SceneKey) (size : ℕ) (r : Records) → length (remember_at f key size r).words ≡ length r.words
unfolding remember_at
at_length (Some p) key size r = length-set r.words p (valid_record key)
at_length None key size r =
    elim (ltb r.count size) as (λ b. length (cond {A = Records} b (records_of (r.count + 1) (set r.words r.count (valid_record key))) r).words ≡ length r.words)
    [ true ↦ length-set r.words r.count (valid_record key) | false ↦ refl ]

at_count : (f : Option ℕ) (key : SceneKey) (size : ℕ) (r : Records) → r.count ≤ size → (remember_at f key size r).count ≤ size
unfolding remember_at
at_count (Some p) key size r h = h
at_count None key size r h =
    (elim (ltb r.count size) as (λ b. ltb r.count size ≡ b → (cond {A = Records} b (records_of (r.count + 1) (set r.words r.count (valid_record key))) r).count ≤ size)
    [ true ↦ λ e. let l = ltb-true r.count size e in omega arith | false ↦ λ e. h ]) refl

module _ (key : SceneKey) (size : ℕ) (r : Records) where
  -- the lent list keeps its length
  pub remember-length : length (remember key size r).words ≡ length r.words
  unfolding remember
  remember-length = at_length (first_owned r.words r.count key.fabric key.endpoint) key size r

  -- no more than the size are counted
  pub remember-count : r.count ≤ size → (remember key size r).count ≤ size
  unfolding remember
  remember-count h = at_count (first_owned r.words r.count key.fabric key.endpoint) key size r h

module _ (key : SceneKey) (size n : ℕ) (l : List ℕ) where
  -- the new record takes the place of its fabric's
  pub over_view : (p : ℕ) → first_owned l n key.fabric key.endpoint ≡ Some p → in_use (remember key size (records_of n l)) ≡ set (take n l) p (valid_record key)
  over_view p e =
      let h : p < n = found_under l n key.fabric key.endpoint p e in
      ap in_use (sym (remember_over key size n l p e)) ∙ take-set-lt n l p (valid_record key) h

  -- the new record is the last
  pub behind-view : first_owned l n key.fabric key.endpoint ≡ None → n < size → size ≤ length l → in_use (remember key size (records_of n l)) ≡ take n l ++ (valid_record key ∷ [])
  behind-view e h k =
      ap in_use (sym (remember-behind key size n l e h))
      ∙ ap (λ (m : ℕ). take m (set l n (valid_record key))) (add-one n)
      ∙ take-suc-set l n (valid_record key) (omega arith)

  -- nothing changes
  pub dropped_view : first_owned l n key.fabric key.endpoint ≡ None → size ≤ n → in_use (remember key size (records_of n l)) ≡ take n l
  dropped_view e h = ap in_use (sym (remember_dropped key size n l e h))

-- ---- invalidating

module _ (f : ℕ → ℕ) where
  map-length : (n : ℕ) (l : List ℕ) → length (map_first f n l) ≡ length l
  unfolding map_first
  map-length zero l = refl
  map-length (suc n) [] = refl
  map-length (suc n) (x ∷ l) = ap suc (map-length n l)

  map-take : (n : ℕ) (l : List ℕ) → take n (map_first f n l) ≡ map f (take n l)
  unfolding map_first
  map-take zero l = refl
  map-take (suc n) [] = refl
  map-take (suc n) (x ∷ l) = ap (λ (r : List ℕ). f x ∷ r) (map-take n l)

module _ (scope : Scope) (n : ℕ) (l : List ℕ) where
  pub length-invalidated : length (invalidated scope n l) ≡ length l
  unfolding invalidated
  length-invalidated = map-length (cleared scope) n l

  pub take-invalidated : take n (invalidated scope n l) ≡ map (cleared scope) (take n l)
  unfolding invalidated
  take-invalidated = map-take (cleared scope) n l

-- ---- dropping a fabric's records

module _ (ps l : List ℕ) where
  pub length_moved : length ps ≤ length l → length (moved ps l) ≡ length l
  unfolding moved
  length_moved h = simp (length-append, length-map, length-drop) (omega arith)

  pub take-moved : take (length ps) (moved ps l) ≡ map (λ i. get_or l i 0) ps
  unfolding moved
  take-moved = take_at (map (λ i. get_or l i 0) ps) (drop (length ps) l) (length ps) (length-map ps (λ i. get_or l i 0))

module _ (l : List ℕ) (n fabric : ℕ) where
  pub others_le : length (others_of l n fabric) ≤ n
  unfolding others_of
  others_le = kept_le _ n
