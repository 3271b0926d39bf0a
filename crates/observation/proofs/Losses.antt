-- A list without those that pass a test: how much shorter it is, and when it is the list itself. Assumes nothing.
use Prim.Native.Nat.{suc, ◌+◌}
use mathlib.Core.Path.{◌≡◌, refl, sym, ap, ◌∙◌}
use mathlib.Core.Bool.{Bool, true, false, cond, not, false≢true}
use mathlib.Core.List.{List, [], ◌∷◌}
use mathlib.Core.Option.{some}
use native.Mathlib.Omega.{arith}
use lib.Dec.{ltb}
use lib.ListN.{length}
use borrow.Author.Tests.{lt-ltb}
use Rattle.observation.specs.Lists.{bit, count, find, keep}
use Rattle.observation.proofs.Lists.{found, has}

module _ {A : Type 0} where
  pub keep_ext : (p q : A → Bool) → ((x : A) → p x ≡ q x) → (xs : List A) → keep p xs ≡ keep q xs
  keep_ext p q e [] = refl
  keep_ext p q e (x ∷ xs) = rw (e x) (elim (q x) as (λ b. cond b (x ∷ keep p xs) (keep p xs) ≡ cond b (x ∷ keep q xs) (keep q xs))
      [ true ↦ ap (λ (l : List A). x ∷ l) (keep_ext p q e xs) | false ↦ keep_ext p q e xs ])

  module _ (h : A → Bool) where
    pub lost : (xs : List A) → length (keep (λ x. not (h x)) xs) + count h xs ≡ length xs
    lost [] = refl
    lost (x ∷ xs) =
        elim (h x) as (λ b. length (cond (not b) (x ∷ keep (λ y. not (h y)) xs) (keep (λ y. not (h y)) xs)) + (bit b + count h xs) ≡ suc (length xs))
        [ true ↦ omega (arith, lost xs) | false ↦ omega (arith, lost xs) ]

    pub none_lost : (xs : List A) → has h xs ≡ false → keep (λ x. not (h x)) xs ≡ xs
    none_lost [] e = refl
    none_lost (x ∷ xs) e =
        (elim (h x) as (λ b. found (cond b (some x) (find h xs)) ≡ false → cond (not b) (x ∷ keep (λ y. not (h y)) xs) (keep (λ y. not (h y)) xs) ≡ x ∷ xs)
        [ true ↦ λ q. absurd (false≢true (sym q)) | false ↦ λ q. ap (λ (l : List A). x ∷ l) (none_lost xs q) ]) e

    pub has_count : (xs : List A) → has h xs ≡ ltb 0 (count h xs)
    has_count [] = refl
    has_count (x ∷ xs) =
        elim (h x) as (λ b. found (cond b (some x) (find h xs)) ≡ ltb 0 (bit b + count h xs))
        [ true ↦ sym (lt-ltb 0 (1 + count h xs) (omega arith)) | false ↦ has_count xs ∙ ap (ltb 0) (let z : count h xs ≡ 0 + count h xs = omega arith in z) ]
