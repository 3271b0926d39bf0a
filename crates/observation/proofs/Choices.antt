-- The laws of a choice by a test, of a choice in each of two runs, and of tests as numbers. Assumes nothing.
use Prim.Native.Nat.{◌+◌, ◌≤◌}
use native.Mathlib.Omega.{arith}
use mathlib.Core.Path.{◌≡◌, refl, sym, ap}
use mathlib.Core.Bool.{Bool, true, false, cond, ◌&&◌, ◌||◌, false≢true}
use mathlib.Core.List.{List, [], ◌∷◌}
use mathlib.Core.Option.{Option, none, some}
use lib.ListN.{length}
use Rattle.words.proofs.Tests.{and_right}
use Rattle.observation.specs.Lists.{bit, count, find, keep}
use Rattle.observation.proofs.Lists.{found, has, put, take_out}
use Rattle.observation.proofs.Counts.{count_le, count-put, count_take_out, count-keep, length-count, opt, find_none, none_find, find-counts, find-passes}

-- ---- choices

pub cond_elim : {A : Type 0} (P : A → Type 0) (b : Bool) {x y : A} → (b ≡ true → P x) → (b ≡ false → P y) → P (cond b x y)
cond_elim P true f g = f refl
cond_elim P false f g = g refl

-- two runs that take the same side
pub cond_two : {A : Type 0} (R : A → A → Type 0) (b c : Bool) {x y z w : A} → b ≡ c → (b ≡ true → c ≡ true → R x z) → (b ≡ false → c ≡ false → R y w)
    → R (cond b x y) (cond c z w)
cond_two R true true e f g = f refl refl
cond_two R true false e f g = absurd (false≢true (sym e))
cond_two R false true e f g = absurd (false≢true e)
cond_two R false false e f g = g refl refl

pub or_none : (a b : Bool) → (a || b) ≡ false → (a ≡ false) × (b ≡ false)
or_none true b e = absurd (false≢true (sym e))
or_none false b e = (refl, e)

pub or_other : (a b : Bool) → (a || b) ≡ true → a ≡ false → b ≡ true
or_other true b e n = absurd (false≢true (sym n))
or_other false b e n = e

pub and_other : (a b : Bool) → (a && b) ≡ false → a ≡ true → b ≡ false
and_other true b e y = e
and_other false b e y = absurd (false≢true y)

pub bit_zero : (b : Bool) → bit b ≡ 0 → b ≡ false
bit_zero true e = absurd (omega arith)
bit_zero false e = refl

pub bit-same : (a b : Bool) → bit a ≡ bit b → a ≡ b
bit-same true true e = refl
bit-same true false e = absurd (omega arith)
bit-same false true e = absurd (omega arith)
bit-same false false e = refl

-- ---- lists

module _ {A : Type 0} where
  pub count_none : (p : A → Bool) → ((x : A) → p x ≡ false) → (xs : List A) → count p xs ≡ 0
  count_none p h [] = refl
  count_none p h (x ∷ xs) = omega (arith, ap bit (h x), count_none p h xs)

  -- what a test does not say of an element, another that says less does not
  pub count_less : (p q : A → Bool) → ((x : A) → p x ≡ false → q x ≡ false) → (xs : List A) → count p xs ≡ 0 → count q xs ≡ 0
  count_less p q h [] z = refl
  count_less p q h (x ∷ xs) z = omega (arith, ap bit (h x (bit_zero (p x) (omega arith))), count_less p q h xs (omega arith))

  pub lost : (o : Option A) → found o ≡ false → o ≡ none
  lost none e = refl
  lost (some x) e = absurd (false≢true (sym e))

  pub has_count : (h : A → Bool) (xs : List A) → 1 ≤ count h xs → has h xs ≡ true
  has_count h xs c =
      (elim (find h xs) as (λ o. find h xs ≡ o → found o ≡ true) [ none ↦ λ e. absurd (omega (arith, find_none h xs e)) | some y ↦ λ e. refl ]) refl

  pub count_has : (h : A → Bool) (xs : List A) → has h xs ≡ true → 1 ≤ count h xs
  count_has h xs e =
      (elim (find h xs) as (λ o. find h xs ≡ o → found o ≡ true → 1 ≤ count h xs) [
        | none ↦ λ n z. absurd (false≢true z)
        | some y ↦ λ n z. omega (arith, find-counts h h xs y n, ap bit (find-passes h xs y n))
      ]) refl e

  pub has_same : (q : A → Bool) (xs ys : List A) → count q xs ≡ count q ys → has q xs ≡ has q ys
  has_same q xs ys e =
      (elim (find q xs) as (λ o. find q xs ≡ o → found o ≡ has q ys) [
        | none ↦ λ n. sym (ap found (none_find q ys (omega (arith, find_none q xs n))))
        | some x ↦ λ n. sym (has_count q ys (omega (arith, find-counts q q xs x n, ap bit (find-passes q xs x n))))
      ]) refl

  -- ---- lengths

  pub length_put_has : (h : A → Bool) (x : A) (ys : List A) → length (put h x ys) + bit (has h ys) ≡ length ys + 1
  length_put_has h x ys =
      let o : (z : Option A) → opt (λ _. true) z ≡ bit (found z) = λ z. elim z as (λ z. opt {A = A} (λ _. true) z ≡ bit (found z)) [ none ↦ refl | some y ↦ refl ] in
      omega (arith, length-count (put h x ys), length-count ys, count-put (λ _. true) h x ys, o (find h ys))

  pub less_take_out : (h : A → Bool) (xs : List A) → length (take_out h xs) ≤ length xs
  less_take_out h xs = omega (arith, length-count (take_out h xs), length-count xs, count_take_out (λ _. true) h xs)

  pub count_keep_le : (p r : A → Bool) (xs : List A) → count p (keep r xs) ≤ count p xs
  count_keep_le p r xs = omega (arith, count-keep p r xs, count_le (λ x. r x && p x) p (λ x e. and_right (r x) (p x) e) xs)

  pub less_keep : (r : A → Bool) (xs : List A) → length (keep r xs) ≤ length xs
  less_keep r xs = omega (arith, length-count (keep r xs), length-count xs, count_keep_le (λ _. true) r xs)

  -- a write over the one that passes, or at the end, leaves one at most
  pub put-once : (h : A → Bool) (x : A) (ys : List A) → count h ys ≤ 1 → count h (put h x ys) ≤ 1
  put-once h x ys once =
      (elim (find h ys) as (λ o. find h ys ≡ o → count h (put h x ys) ≤ 1) [
        | none ↦ λ e. omega (arith, count-put h h x ys, ap (opt h) e, find_none h ys e, bit_one (h x))
        | some y ↦ λ e. omega (arith, count-put h h x ys, ap (opt h) e, ap bit (find-passes h ys y e), bit_one (h x))
      ]) refl
    where
      bit_one : (b : Bool) → bit b ≤ 1
      bit_one true = omega arith
      bit_one false = omega arith
