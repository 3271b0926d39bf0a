-- What is read below a count is what the list of the positions shows, and so is a list by its elements. Assumes nothing.
use Prim.Native.Nat.{ℕ, zero, suc, ◌+◌, ◌≤◌, ◌<◌}
use mathlib.Core.Path.{◌≡◌, refl, sym, ap, ap₂, ◌∙◌}
use mathlib.Core.Bool.{Bool, true, false, cond, ◌||◌}
use mathlib.Core.List.{List, [], ◌∷◌, ◌++◌, map, append-nil, map-append}
use mathlib.Core.Logic.{⊎_elim}
use mathlib.Core.Option.{none, some}
use native.Mathlib.Numerals.{add-one}
use native.Mathlib.Nat.{not-suc-le-zero, le_of_suc-le-suc, eq-or-lt_of_le}
use native.Mathlib.Omega.{arith}
use lib.Dec.{eqb}
use lib.ListN.{length, take, get_or, set, length-append, length-map, length-set, get_or-append}
use lib.Seq.{length-take-le, get_or-take, get_or_at, get_or-set_same, get_or-set_other, ext_get_or}
use borrow.Author.Tests.{eqb-true, eqb-false}
use Rattle.words.specs.Below.{positions, any_below, count_below, kept_below, first_below}
use Rattle.std.specs.Prelude.{Some, None}
use Rattle.words.proofs.Below.{first_under, first_before, first_nothing}
use Rattle.observation.specs.Lists.{bit, count, keep}
use Rattle.observation.proofs.Lists.{found, has}
use Rattle.observation.proofs.Counts.{count-append, keep_append, has_append}
use Rattle.observation.proofs.Firsts.{First, Nowhere}

pub length-positions : (n : ℕ) → length (positions n) ≡ n
unfolding positions
length-positions zero = refl
length-positions (suc n) = omega (arith, length-append (positions n) (n ∷ []), length-positions n)

-- ---- a test at each of the positions

module _ (p : ℕ → Bool) where
  pub count-positions : (n : ℕ) → count_below p n ≡ count p (positions n)
  unfolding positions count_below
  count-positions zero = refl
  count-positions (suc n) =
      let h = count-positions n in
      elim (p n) as (λ b. cond b (suc (count_below p n)) (count_below p n) ≡ count p (positions n) + (bit b + 0)) [ true ↦ omega arith | false ↦ omega arith ]
      ∙ sym (count-append p (positions n) (n ∷ []))

  pub keep-positions : (n : ℕ) → kept_below p n ≡ keep p (positions n)
  unfolding positions kept_below
  keep-positions zero = refl
  keep-positions (suc n) =
      let h = keep-positions n in
      elim (p n) as (λ b. cond b (kept_below p n ++ (n ∷ [])) (kept_below p n) ≡ keep p (positions n) ++ cond b (n ∷ []) []) [
        | true ↦ ap (λ (l : List ℕ). l ++ (n ∷ [])) h
        | false ↦ h ∙ sym (append-nil (keep p (positions n)))
      ]
      ∙ sym (keep_append p (positions n) (n ∷ []))

  pub has_positions : (n : ℕ) → any_below p n ≡ has p (positions n)
  unfolding positions any_below
  has_positions zero = refl
  has_positions (suc n) =
      ap₂ ◌||◌ (has_positions n) (elim (p n) as (λ b. b ≡ found (cond b (some n) none)) [ true ↦ refl | false ↦ refl ])
      ∙ sym (has_append p (positions n) (n ∷ []))

-- ---- a list by its elements

module _ {A : Type 0} (g : ℕ → A) where
  pub view-length : (n : ℕ) → length (map g (positions n)) ≡ n
  view-length n = length-map (positions n) g ∙ length-positions n

  pub view_more : (n : ℕ) → map g (positions (n + 1)) ≡ map g (positions n) ++ (g n ∷ [])
  unfolding positions
  view_more n = ap (λ (m : ℕ). map g (positions m)) (add-one n) ∙ map-append g (positions n) (n ∷ [])

  pub view_at : (d : A) (n i : ℕ) → i < n → get_or (map g (positions n)) i d ≡ g i
  view_at d zero i h = absurd (not-suc-le-zero h)
  view_at d (suc n) i h =
      ap (λ (m : ℕ). get_or (map g (positions m)) i d) (sym (add-one n))
      ∙ ap (λ (l : List A). get_or l i d) (view_more n)
      ∙ ⊎_elim
      (λ q. ap (λ (j : ℕ). get_or (map g (positions n) ++ (g n ∷ [])) j d) q ∙ get_or_at (map g (positions n)) (g n) [] d n (view-length n) ∙ ap g (sym q))
      (λ l. get_or-append (map g (positions n)) (g n ∷ []) d i (omega (arith, view-length n)) ∙ view_at d n i l)
      (eq-or-lt_of_le (le_of_suc-le-suc h))

-- a list with these elements
pub view_ext : {A : Type 0} (d : A) (g : ℕ → A) (n : ℕ) (xs : List A) → length xs ≡ n → ((i : ℕ) → i < n → g i ≡ get_or xs i d) → map g (positions n) ≡ xs
view_ext d g n xs e h =
    let l = view-length g n in
    ext_get_or d (map g (positions n)) xs (l ∙ sym e) (λ i k. view_at g d n i (omega arith) ∙ h i (omega arith))

pub view-same : {A : Type 0} (f g : ℕ → A) (n : ℕ) → ((i : ℕ) → i < n → f i ≡ g i) → map f (positions n) ≡ map g (positions n)
view-same f g n h = view_ext (g 0) f n (map g (positions n)) (view-length g n) (λ i k. h i k ∙ sym (view_at g (g 0) n i k))

pub view-take : {A : Type 0} (d : A) (g : ℕ → A) (n m : ℕ) → m ≤ n → map g (positions m) ≡ take m (map g (positions n))
view-take d g n m h =
    let l = view-length g n in
    view_ext d g m (take m (map g (positions n))) (length-take-le m (map g (positions n)) (omega arith))
    (λ i k. sym (get_or-take m (map g (positions n)) i d k ∙ view_at g d n i (omega arith)))

-- one element changed
pub view-set : {A : Type 0} (d : A) (f g : ℕ → A) (n p : ℕ) (x : A) → p < n → f p ≡ x → ((i : ℕ) → i < n → (i ≡ p → ⊥) → f i ≡ g i) → map f (positions n) ≡ set (map g (positions n)) p x
view-set d f g n p x h e o =
    let l = view-length g n in
    view_ext d f n (set (map g (positions n)) p x) (length-set (map g (positions n)) p x ∙ l)
    (λ i k.
    (elim (eqb i p) as (λ b. eqb i p ≡ b → f i ≡ get_or (set (map g (positions n)) p x) i d) [
      | true ↦ λ q. let r = eqb-true i p q in rw r (e ∙ sym (get_or-set_same (map g (positions n)) p x d (omega arith)))
      | false ↦ λ q. let r = eqb-false i p q in o i k r ∙ sym (get_or-set_other (map g (positions n)) p i x d r ∙ view_at g d n i k)
    ]) refl)

pub view-list : (l : List ℕ) (n : ℕ) → n ≤ length l → map (λ i. get_or l i 0) (positions n) ≡ take n l
view-list l n h = view_ext 0 (λ i. get_or l i 0) n (take n l) (length-take-le n l h) (λ i k. sym (get_or-take n l i 0 k))

-- ---- where a test holds first

module _ {A : Type 0} (d : A) (g : ℕ → A) (h : A → Bool) (n : ℕ) where
  pub view_first : (p : ℕ) → first_below (λ i. h (g i)) n ≡ Some p → First d h (map g (positions n)) p
  view_first p e =
      let u = first_under _ n p e in
      let l = view-length g n in
      record {
        under = omega arith;
        passes = ap h (view_at g d n p u.0) ∙ u.1;
        before = λ i k. ap h (view_at g d n i (omega arith)) ∙ first_before _ n p e i k;
      }

  pub view_nowhere : first_below (λ i. h (g i)) n ≡ None → Nowhere d h (map g (positions n))
  view_nowhere e i k = let m : i < n = omega (arith, view-length g n) in ap h (view_at g d n i m) ∙ first_nothing _ n e i m
