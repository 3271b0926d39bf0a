-- How many scenes a fabric may still copy or add, over views, and how that changes with its entries: in share mode too, and above the share,
-- where a removal need not give one more. Assumes nothing.
use Prim.Native.Nat.{ℕ, zero, suc, ◌+◌, ◌-◌, ◌/◌, ◌≤◌, ◌<◌, min}
use native.Mathlib.Omega.{arith}
use mathlib.Core.Path.{◌≡◌, refl, sym, ap, ◌∙◌}
use mathlib.Core.Bool.{Bool, true, false, cond}
use mathlib.Core.List.{List}
use lib.ListN.{length}
use Rattle.words.specs.declared.SceneKey.{SceneKey}
use Rattle.slots.specs.Slots.{SceneEntry}
use Rattle.records.specs.declared.Scope.{Scope}
use Rattle.observation.specs.Lists.{count}
use Rattle.observation.specs.Equivalence.{mine}
use Rattle.observation.proofs.Changes.{View, free_in, used_in, room_in, share_in, places_in, entries_set, invalidated, remembered}

-- ---- numbers: a is the share, u what is used, n the size, l the entries, m and k free places

-- one more entry of the fabric, where there is room
pub room_less : (a u n l : ℕ) → 0 < min (a - u) (n - l) → suc (min (a - (u + 1)) (n - (l + 1))) ≡ min (a - u) (n - l)
room_less a u n l h = omega arith

-- equal room and equal use before give equal room after, whether or not the use is above the share
room_after : (a u u' m k m' k' : ℕ) → m' + u' ≡ m + u → k' + u' ≡ k + u → min (a - u) m ≡ min (a - u) k → min (a - u') m' ≡ min (a - u') k'
room_after a u u' m k m' k' e₁ e₂ h = omega arith

-- a scene or room afterwards, and no scene out of nothing: then there was one or the other before
alive_after : (a u u' m m' : ℕ) → m' + u' ≡ m + u → (0 < u' → 0 < u + min (a - u) m) → 0 < u' + min (a - u') m' → 0 < u + min (a - u) m
alive_after a u zero m m' e al h = omega arith
alive_after a u (suc n) m m' e al h = al (omega arith)

-- ---- one view

module _ (f : ℕ) (v : View) where
  pub share-places : share_in v ≡ true → places_in f v ≡ room_in f v
  unfolding places_in
  share-places e = ap (λ (b : Bool). cond b (room_in f v) (free_in v)) e

  pub free-places : share_in v ≡ false → places_in f v ≡ free_in v
  unfolding places_in
  free-places e = ap (λ (b : Bool). cond b (room_in f v) (free_in v)) e

  -- in either mode
  pub by_mode : (P : ℕ → Type 0) → (share_in v ≡ true → P (room_in f v)) → (share_in v ≡ false → P (free_in v)) → P (places_in f v)
  unfolding places_in
  by_mode P x y = (elim (share_in v) as (λ b. share_in v ≡ b → P (cond b (room_in f v) (free_in v))) [ true ↦ x | false ↦ y ]) refl

  pub room-free : 0 < room_in f v → length v.entries < v.size
  unfolding room_in
  room-free h = omega arith

  room_least : room_in f v ≤ free_in v
  unfolding room_in
  room_least = omega arith

  -- what may be copied may be added
  pub room-places : room_in f v ≤ places_in f v
  room-places = by_mode (λ n. room_in f v ≤ n) (λ _. omega arith) (λ _. room_least)

  pub places-free : 0 < places_in f v → length v.entries < v.size
  places-free = by_mode (λ n. 0 < n → length v.entries < v.size) (λ _. room-free) (λ _ h. omega arith)

  -- records do not matter
  pub places-invalidated : (scope : Scope) → places_in f (invalidated scope v) ≡ places_in f v
  unfolding invalidated places_in room_in
  places-invalidated scope = refl

  pub places_remembered : (key : SceneKey) → places_in f (remembered key v) ≡ places_in f v
  unfolding remembered places_in room_in
  places_remembered key = refl

-- other entries that fit, of which only the fabric's changed
pub record Changed (f : ℕ) (es : List SceneEntry) (v : View) : Type 0 where
  pub own : length es + used_in f v ≡ length v.entries + count (mine f) es
  pub before : length v.entries ≤ v.size
  pub after : length es ≤ v.size

-- what is free then
changed_free : (f : ℕ) (v : View) (es : List SceneEntry) → Changed f es v → free_in (entries_set es v) + count (mine f) es ≡ free_in v + used_in f v
changed_free f v es c = omega (arith, c.own, c.before, c.after)

-- a scene or a place afterwards: then there was one before
pub changed_alive : (f : ℕ) (v : View) (es : List SceneEntry) → Changed f es v → (0 < count (mine f) es → 0 < used_in f v + places_in f v)
    → 0 < count (mine f) es + places_in f (entries_set es v) → 0 < used_in f v + places_in f v
unfolding places_in room_in
changed_alive f v es c alive h =
    (elim (share_in v) as (λ b. (0 < count (mine f) es → 0 < used_in f v + cond b (room_in f v) (free_in v))
    → 0 < count (mine f) es + cond b (room_in f (entries_set es v)) (free_in (entries_set es v)) → 0 < used_in f v + cond b (room_in f v) (free_in v)) [
      | true ↦ λ al k. alive_after ((v.size - 1) / 2) (used_in f v) (count (mine f) es) (free_in v) (free_in (entries_set es v)) (changed_free f v es c) al k
      | false ↦ λ al k. omega (arith, changed_free f v es c)
    ]) alive h

-- ---- two views of one mode and size

module _ (f : ℕ) (v w : View) (share : share_in v ≡ share_in w) (size : v.size ≡ w.size) where
  -- one more entry of the fabric
  pub places_less : used_in f w ≡ used_in f v + 1 → length w.entries ≡ length v.entries + 1 → 0 < places_in f v → suc (places_in f w) ≡ places_in f v
  unfolding room_in
  places_less u l =
      by_mode f v (λ n. 0 < n → suc (places_in f w) ≡ n)
      (λ e h.
      ap suc (share-places f w (sym share ∙ e) ∙ (λ i. min ((sym size i - 1) / 2 - u i) (sym size i - l i)))
      ∙ room_less ((v.size - 1) / 2) (used_in f v) v.size (length v.entries) h)
      (λ e h. omega (arith, free-places f w (sym share ∙ e)))

  -- a copy finds room alike where places and use are alike
  pub room-same : used_in f v ≡ used_in f w → places_in f v ≡ places_in f w → room_in f v ≡ room_in f w
  unfolding room_in
  room-same u p =
      (elim (share_in v) as (λ b. share_in v ≡ b → room_in f v ≡ room_in f w) [
        | true ↦ λ e. sym (share-places f v e) ∙ p ∙ share-places f w (sym share ∙ e)
        | false ↦ λ e.
            let free : free_in v ≡ free_in w = sym (free-places f v e) ∙ p ∙ free-places f w (sym share ∙ e) in
            λ i. min ((size i - 1) / 2 - u i) (free i)
      ]) refl

  changed_room : (es et : List SceneEntry) → used_in f v ≡ used_in f w → count (mine f) es ≡ count (mine f) et → Changed f es v → Changed f et w
      → room_in f v ≡ room_in f w → room_in f (entries_set es v) ≡ room_in f (entries_set et w)
  unfolding room_in
  changed_room es et u u' c d q =
      let a = (v.size - 1) / 2 in
      let same : min (a - used_in f v) (free_in v) ≡ min (a - used_in f v) (free_in w) = q ∙ (λ i. min ((sym size i - 1) / 2 - sym u i) (free_in w)) in
      room_after a (used_in f v) (count (mine f) es) (free_in v) (free_in w) (free_in (entries_set es v)) (free_in (entries_set et w))
      (changed_free f v es c) (ap (λ (n : ℕ). free_in (entries_set et w) + n) u' ∙ changed_free f w et d ∙ ap (λ (n : ℕ). free_in w + n) (sym u)) same
      ∙ (λ i. min ((size i - 1) / 2 - u' i) (free_in (entries_set et w)))

  -- places after a change of the fabric's entries
  pub changed_places : (es et : List SceneEntry) → used_in f v ≡ used_in f w → count (mine f) es ≡ count (mine f) et → Changed f es v → Changed f et w
      → places_in f v ≡ places_in f w → places_in f (entries_set es v) ≡ places_in f (entries_set et w)
  changed_places es et u u' c d p =
      let v' = entries_set es v in
      let w' = entries_set et w in
      (elim (share_in v) as (λ b. share_in v ≡ b → places_in f v' ≡ places_in f w') [
        | true ↦ λ e.
            let q : room_in f v ≡ room_in f w = room-same u p in
            share-places f v' e ∙ changed_room es et u u' c d q ∙ sym (share-places f w' (sym share ∙ e))
        | false ↦ λ e.
            let q : free_in v ≡ free_in w = sym (free-places f v e) ∙ p ∙ free-places f w (sym share ∙ e) in
            let r : free_in v' ≡ free_in w' = omega (arith, q, u, u', changed_free f v es c, changed_free f w et d) in
            free-places f v' e ∙ r ∙ sym (free-places f w' (sym share ∙ e))
      ]) refl
