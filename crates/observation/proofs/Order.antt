-- Lists in which each element is as often are permutations of each other, and the other way round: what the statements say by the
-- library's permutation, the proofs say by counts. Assumes nothing.
use Prim.Native.Nat.{ℕ, ◌+◌, ◌≤◌}
use native.Mathlib.Omega.{arith}
use mathlib.Core.Path.{◌≡◌, refl, ap, ap₂, ◌∙◌}
use mathlib.Core.Bool.{Bool, true, false}
use mathlib.Core.List.Permᴰ
use mathlib.Core.List.{List, [], ◌∷◌, Permᴰ}
use lib.Dec.{eqb}
use borrow.Author.Tests.{eqb-true, eq-eqb}
use Rattle.slots.specs.Slots.{SceneEntry}
use Rattle.observation.specs.Lists.{bit, count}
use Rattle.observation.proofs.Lists.{Often}
use Rattle.observation.proofs.Simulation.{same_entry, same-entry, entry-same}

module _ {A : Type 0} where
  pub perm_often : {xs ys : List A} → Permᴰ xs ys → Often xs ys
  perm_often Permᴰ.nil p = refl
  perm_often (Permᴰ.cons e d) p = ap₂ (λ (a : A) (n : ℕ). bit (p a) + n) e (perm_often d p)
  perm_often (Permᴰ.swap {l = l} e₁ e₂) p = omega (arith, ap (λ (a : A). bit (p a)) e₁, ap (λ (a : A). bit (p a)) e₂)
  perm_often (Permᴰ.trans d₁ d₂) p = perm_often d₁ p ∙ perm_often d₂ p

  module _ (same : A → A → Bool) (is : (y x : A) → same y x ≡ true → x ≡ y) (self : (y : A) → same y y ≡ true) where
    split : (x : A) (ys : List A) → 1 ≤ count (same x) ys → (zs : List A) × Permᴰ ys (x ∷ zs)
    split x [] h = absurd (omega arith)
    split x (y ∷ ys) h =
        (elim (same x y) as (λ b. same x y ≡ b → 1 ≤ bit b + count (same x) ys → (zs : List A) × Permᴰ (y ∷ ys) (x ∷ zs)) [
          | true ↦ λ e _. (ys, Permᴰ.cons (is x y e) (Permᴰ.refl ys))
          | false ↦ λ e n.
              let r : (zs : List A) × Permᴰ ys (x ∷ zs) = split x ys (omega arith) in
              (y ∷ r.0, Permᴰ.trans (Permᴰ.cons refl r.1) (Permᴰ.swap refl refl))
        ]) refl h

    -- it is enough that each element is as often
    each_perm : (xs ys : List A) → ((x : A) → count (same x) xs ≡ count (same x) ys) → Permᴰ xs ys
    each_perm [] [] h = Permᴰ.nil
    each_perm [] (y ∷ ys) h = absurd (omega (arith, h y, ap bit (self y)))
    each_perm (x ∷ xs) ys h =
        let r : (zs : List A) × Permᴰ ys (x ∷ zs) = split x ys (omega (arith, h x, ap bit (self x))) in
        Permᴰ.trans (Permᴰ.cons refl (each_perm xs r.0 (λ y. omega (arith, h y, perm_often r.1 (same y))))) (Permᴰ.symm r.1)

-- of scenes, of numbers, and of scene ids
pub scenes_perm : (xs ys : List SceneEntry) → Often xs ys → Permᴰ xs ys
scenes_perm xs ys h = each_perm same_entry same-entry entry-same xs ys (λ x. h (same_entry x))

pub numbers_perm : (xs ys : List ℕ) → ((n : ℕ) → count (λ x. eqb x n) xs ≡ count (λ x. eqb x n) ys) → Permᴰ xs ys
numbers_perm = each_perm (λ y x. eqb x y) (λ y x e. eqb-true x y e) (λ y. eq-eqb y y refl)

pub ids_perm : (xs ys : List ℕ) → Often xs ys → Permᴰ xs ys
ids_perm xs ys h = numbers_perm xs ys (λ n. h (λ x. eqb x n))
