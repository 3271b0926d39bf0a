-- The list changes at a position: where a test holds first, or where it holds nowhere. Assumes nothing.
use Prim.Native.Nat.{ℕ, zero, suc, ◌+◌, ◌<◌}
use mathlib.Core.Path.{◌≡◌, refl, ap, ◌∙◌}
use mathlib.Core.Bool.{Bool, true, false}
use mathlib.Core.List.{List, [], ◌∷◌, ◌++◌}
use mathlib.Core.Option.{none, some}
use native.Mathlib.Omega.{arith}
use native.Mathlib.Nat.{not-suc-le-zero, le_of_suc-le-suc}
use lib.ListN.{length, take, get_or, set}
use Rattle.observation.specs.Lists.{bit, count, find}
use Rattle.observation.proofs.Lists.{put, behind_first, last_first, take_out}
use Rattle.observation.proofs.Counts.{find_none}

module _ {A : Type 0} (d : A) where
  -- p is the first position at which h holds
  pub record First (h : A → Bool) (xs : List A) (p : ℕ) : Type 0 where
    pub under : p < length xs
    pub passes : h (get_or xs p d) ≡ true
    pub before : (i : ℕ) → i < p → h (get_or xs i d) ≡ false

  -- h holds at no position
  abbrev pub Nowhere : (A → Bool) → List A → Type 0
  Nowhere h xs = (i : ℕ) → i < length xs → h (get_or xs i d) ≡ false

  first_rest : (h : A → Bool) (x : A) (xs : List A) (p : ℕ) → First h (x ∷ xs) (suc p) → First h xs p
  first_rest h x xs p f = record { under = le_of_suc-le-suc f.under; passes = f.passes; before = λ i l. f.before (suc i) (omega arith) }

  module _ (h : A → Bool) where
    -- ---- where it holds first

    pub find_first : (xs : List A) (p : ℕ) → First h xs p → find h xs ≡ some (get_or xs p d)
    find_first [] p f = absurd (not-suc-le-zero f.under)
    find_first (x ∷ xs) zero f = rw f.passes refl
    find_first (x ∷ xs) (suc p) f = rw (f.before 0 (omega arith)) (find_first xs p (first_rest h x xs p f))

    pub put_first : (x : A) (xs : List A) (p : ℕ) → First h xs p → put h x xs ≡ set xs p x
    put_first x [] p f = absurd (not-suc-le-zero f.under)
    put_first x (y ∷ xs) zero f = rw f.passes refl
    put_first x (y ∷ xs) (suc p) f = rw (f.before 0 (omega arith)) (ap (λ (l : List A). y ∷ l) (put_first x xs p (first_rest h y xs p f)))

  last_first_lem : (x : A) (xs : List A) → last_first (x ∷ xs) ≡ get_or (x ∷ xs) (length xs) d ∷ take (length xs) (x ∷ xs)
  last_first_lem x [] = refl
  last_first_lem x (y ∷ xs) = ap (behind_first x) (last_first_lem y xs)

  module _ (h : A → Bool) where
    take_out_cons : (x : A) (xs : List A) (p : ℕ) → First h (x ∷ xs) p → take_out h (x ∷ xs) ≡ take (length xs) (set (x ∷ xs) p (get_or (x ∷ xs) (length xs) d))
    take_out_cons x [] zero f = rw f.passes refl
    take_out_cons x (y ∷ xs) zero f = rw f.passes (last_first_lem y xs)
    take_out_cons x [] (suc p) f = absurd (not-suc-le-zero (le_of_suc-le-suc f.under))
    take_out_cons x (y ∷ xs) (suc p) f =
        rw (f.before 0 (omega arith)) (ap (λ (l : List A). x ∷ l) (take_out_cons y xs p (first_rest h x (y ∷ xs) p f)))

    -- the last element, at n, takes the place
    pub take_out_first : (xs : List A) (p n : ℕ) → length xs ≡ suc n → First h xs p → take_out h xs ≡ take n (set xs p (get_or xs n d))
    take_out_first [] p n e f = absurd (not-suc-le-zero f.under)
    take_out_first (x ∷ xs) p n e f =
        let m : length xs ≡ n = omega arith in
        take_out_cons x xs p f ∙ ap (λ (k : ℕ). take k (set (x ∷ xs) p (get_or (x ∷ xs) k d))) m

    -- ---- where it holds nowhere

    pub find_nowhere : (xs : List A) → Nowhere h xs → find h xs ≡ none
    find_nowhere [] n = refl
    find_nowhere (x ∷ xs) n = rw (n 0 (omega arith)) (find_nowhere xs (λ i l. n (suc i) (omega arith)))

    pub put_nowhere : (x : A) (xs : List A) → Nowhere h xs → put h x xs ≡ xs ++ (x ∷ [])
    put_nowhere x [] n = refl
    put_nowhere x (y ∷ xs) n = rw (n 0 (omega arith)) (ap (λ (l : List A). y ∷ l) (put_nowhere x xs (λ i l. n (suc i) (omega arith))))

    pub count_nowhere : (xs : List A) → Nowhere h xs → count h xs ≡ 0
    count_nowhere xs n = find_none h xs (find_nowhere xs n)

    pub nowhere_count : (xs : List A) → count h xs ≡ 0 → Nowhere h xs
    nowhere_count [] e i l = absurd (not-suc-le-zero l)
    nowhere_count (x ∷ xs) e zero l =
        (elim (h x) as (λ b. bit b + count h xs ≡ 0 → b ≡ false) [ true ↦ λ q. absurd (omega arith) | false ↦ λ q. refl ]) e
    nowhere_count (x ∷ xs) e (suc i) l = nowhere_count xs (omega arith) i (le_of_suc-le-suc l)
