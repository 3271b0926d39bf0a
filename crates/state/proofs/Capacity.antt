-- What the cap of the remaining capacity changes, what the share mode, and where a scene is written. Assumes nothing.
use Rattle.std.proofs.Common.{◌≡◌, ℕ, ◌-◌, ◌/◌, ◌<◌, ◌≤◌, min, true, false, cond, not, eqb, ltb, ◌⊎◌, ◌↔◌, List, sym, refl, ap, ◌∙◌, inl, inr, arith, ltb-false, ltb-true, le-ltb, lt-ltb, eq-eqb, ne_eqb}
use Rattle.words.specs.Constants.{max_remaining}
use Rattle.words.specs.Below.{count_below}
use Rattle.std.specs.Prelude.{Option, Some, None}
use Rattle.slots.specs.Slots.{count_keys}
use Rattle.state.specs.declared.ScenesState.{ScenesState}
use Rattle.state.specs.Capacity.{room_for, remaining, share_mode, places_for, may_append, place_for, byte_remaining, ByCap, ByShare}

module _ (s : ScenesState) (keys : List ℕ) (fabric : ℕ) where
  smaller : remaining s keys fabric ≡ min max_remaining (byte_remaining s keys fabric)
  unfolding remaining
  smaller = omega arith

  within-share : room_for s keys fabric ≤ (s.size - 1) / 2
  unfolding room_for
  within-share = omega arith

  up_to_508 : s.size ≤ 508 → remaining s keys fabric ≡ byte_remaining s keys fabric
  unfolding remaining
  up_to_508 h = omega (arith, within-share)

  at_509 : s.size ≡ 509 → s.entries ≡ 0 → (remaining s keys fabric ≡ 253) × (byte_remaining s keys fabric ≡ 254)
  unfolding remaining room_for count_keys count_below
  at_509 h e = rw (h, e) (refl, refl)

  none_left : remaining s keys fabric ≡ 0 ↔ room_for s keys fabric ≡ 0
  unfolding remaining
  none_left = ((λ h. omega arith), (λ h. omega arith))

pub by_cap : ByCap
by_cap = record { smaller = smaller; up_to_508 = up_to_508; at_509 = at_509; none_left = none_left }

-- ---- the share mode

-- a test for more than 0, of a difference and of what is left
above : (m n : ℕ) → ltb 0 (n - m) ≡ ltb m n
above m n =
    (elim (ltb m n) as (λ b. ltb m n ≡ b → ltb 0 (n - m) ≡ b) [
      | true ↦ λ e. lt-ltb 0 (n - m) (omega (arith, ltb-true m n e))
      | false ↦ λ e. le-ltb 0 (n - m) (omega (arith, ltb-false m n e))
    ]) refl

left : (n k : ℕ) → (n ≡ 0 → k ≡ 0) → (k ≡ 0 → n ≡ 0) → ltb 0 n ≡ not (eqb k 0)
left n k to from =
    (elim (ltb 0 n) as (λ b. ltb 0 n ≡ b → b ≡ not (eqb k 0)) [
      | true ↦ λ e. sym (ap not (ne_eqb k 0 (λ z. omega (arith, from z, ltb-true 0 n e))))
      | false ↦ λ e. sym (ap not (eq-eqb k 0 (to (omega (arith, ltb-false 0 n e)))))
    ]) refl

module _ (s : ScenesState) (keys : List ℕ) (fabric : ℕ) where
  uncut : share_mode s ≡ true → s.size ≡ 1024 → s.entries ≡ 0 → places_for s keys fabric ≡ 511
  unfolding places_for remaining room_for count_keys count_below
  uncut e h z = rw (e, h, z) refl

  -- the places in either mode
  pub free-places : share_mode s ≡ false → places_for s keys fabric ≡ s.size - s.entries
  unfolding places_for
  free-places e = rw e refl

  pub share-places : share_mode s ≡ true → places_for s keys fabric ≡ room_for s keys fabric
  unfolding places_for
  share-places e = rw e refl

  pub may_free : share_mode s ≡ false → may_append s keys fabric ≡ ltb s.entries s.size
  may_free e = ap (ltb 0) (free-places e) ∙ above s.entries s.size

  pub may_share : share_mode s ≡ true → may_append s keys fabric ≡ ltb 0 (room_for s keys fabric)
  may_share e = ap (ltb 0) (share-places e)

  within : share_mode s ≡ true → may_append s keys fabric ≡ not (eqb (remaining s keys fabric) 0)
  within e = may_share e ∙ left (room_for s keys fabric) (remaining s keys fabric) (none_left s keys fabric).1 (none_left s keys fabric).0

  room-free : room_for s keys fabric ≤ s.size - s.entries
  unfolding room_for
  room-free = omega arith

  pub places-free : places_for s keys fabric ≤ s.size - s.entries
  places-free =
      (elim (share_mode s) as (λ b. share_mode s ≡ b → places_for s keys fabric ≤ s.size - s.entries) [
        | true ↦ λ e. omega (arith, share-places e, room-free)
        | false ↦ λ e. omega (arith, free-places e)
      ]) refl

  pub may_fits : may_append s keys fabric ≡ true → s.entries < s.size
  may_fits e = omega (arith, ltb-true 0 (places_for s keys fabric) e, places-free)

pub by_share : ByShare
by_share = record { without = may_free; within = within; uncut = uncut; free = places-free }

-- ---- where a scene is written

module _ (s : ScenesState) (keys : List ℕ) (fabric : ℕ) where
  -- where its key was found, or behind the last entry
  pub placed : (f : Option ℕ) (p : ℕ) → place_for s keys fabric f ≡ Some p → (f ≡ Some p) ⊎ ((f ≡ None) × (may_append s keys fabric ≡ true) × (s.entries ≡ p))
  unfolding place_for
  placed (Some q) p e = inl e
  placed None p e =
      (elim (may_append s keys fabric) as (λ b. may_append s keys fabric ≡ b → cond b (Some s.entries) None ≡ Some p → (◌≡◌ {A = Option ℕ} None (Some p)) ⊎ ((◌≡◌ {A = Option ℕ} None None) × (may_append s keys fabric ≡ true) × (s.entries ≡ p))) [
        | true ↦ λ m q. inr (refl, m, cc)
        | false ↦ λ m q. inl q
      ]) refl e

  -- nowhere: its key is new, and no more entry fits
  pub unplaced : (f : Option ℕ) → place_for s keys fabric f ≡ None → (f ≡ None) × (may_append s keys fabric ≡ false)
  unfolding place_for
  unplaced (Some q) e = let z : ◌≡◌ {A = ℕ} 0 1 = cc in let w : ⊥ = omega arith in absurd w
  unplaced None e =
      (elim (may_append s keys fabric) as (λ b. may_append s keys fabric ≡ b → cond b (Some s.entries) None ≡ None → (◌≡◌ {A = Option ℕ} None None) × (may_append s keys fabric ≡ false)) [
        | true ↦ λ m q. let z : ◌≡◌ {A = ℕ} 0 1 = cc in let w : ⊥ = omega arith in absurd w
        | false ↦ λ m q. (refl, m)
      ]) refl e
