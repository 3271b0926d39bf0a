-- The laws of the positions below a count. Assumes nothing.
use Prim.Native.Nat.{ℕ, zero, suc, ◌+◌, ◌≤◌, ◌<◌}
use mathlib.Core.Path.{◌≡◌, refl, sym, ap, subst, ◌∙◌}
use mathlib.Core.Bool.{Bool, true, false, not, cond, ◌&&◌, ◌||◌}
use mathlib.Core.List.{List, [], ◌∷◌, ◌++◌}
use mathlib.Core.Logic.{⊎_elim}
use native.Mathlib.Numerals.{add-one}
use native.Mathlib.Nat.{not-suc-le-zero, le_of_suc-le-suc, eq-or-lt_of_le}
use native.Mathlib.Omega.{arith}
use lib.ListN.{length, get_or, take, length-append}
use lib.Seq.{length-take-le, get_or-take}
use borrow.Author.Tests.{lt-ltb, le-ltb}
use Rattle.std.specs.List.{list_all, list_any, count_by, position}
use Rattle.std.proofs.lemmas.List.Folds.{list_all_more, list_any_more}
use Rattle.std.proofs.lemmas.List.Sums.{count_by_more_yes, count_by_more_no, position_or_len_is}
use Rattle.words.specs.Below.{every_below, any_below, count_below, kept_below, first_below, or_else}
use Rattle.std.specs.Prelude.{Option, Some, None}
use Rattle.words.proofs.Tests.{and_intro, and_false, or_true, or_false, neither_left, neither_right, not_false}

-- what holds of each element, and of one more behind them
each_more : (P : ℕ → Type 0) (xs : List ℕ) (x : ℕ) → ((k : ℕ) → k < length xs → P (get_or xs k 0)) → P x → (k : ℕ) → k < length (xs ++ (x ∷ [])) → P (get_or (xs ++ (x ∷ [])) k 0)
each_more P [] x h px zero k = px
each_more P [] x h px (suc k) l = absurd (not-suc-le-zero (le_of_suc-le-suc l))
each_more P (y ∷ xs) x h px zero l = h 0 (omega arith)
each_more P (y ∷ xs) x h px (suc k) l = each_more P xs x (λ j m. h (suc j) (omega arith)) px k (le_of_suc-le-suc l)

and_swap : (a b c d : Bool) → ((a && b) && (c && d)) ≡ ((a && c) && (b && d))
and_swap true true c d = refl
and_swap true false c d = sym (and_false c)
and_swap false b c d = refl

-- two tests at each position
pub every_both : (p q : ℕ → Bool) (n : ℕ) → every_below (λ i. p i && q i) n ≡ (every_below p n && every_below q n)
unfolding every_below
every_both p q zero = refl
every_both p q (suc n) = ap (λ (b : Bool). b && (p n && q n)) (every_both p q n) ∙ and_swap (every_below p n) (every_below q n) (p n) (q n)

cond_le : (b : Bool) (m i : ℕ) → m ≤ i → cond b (suc m) m ≤ suc i
cond_le true m i h = omega arith
cond_le false m i h = omega arith

module _ (p : ℕ → Bool) where
  -- ---- at each position

  pub every_none : every_below p 0 ≡ true
  unfolding every_below
  every_none = refl

  -- a turn of the loop that passed i
  pub every_more : (i : ℕ) → every_below p i ≡ true → p i ≡ true → every_below p (i + 1) ≡ true
  unfolding every_below
  every_more i h e = rw (add-one, h) e

  -- a block of k positions from i on at none of which p fails
  pub every_block : (i k : ℕ) → any_below (λ j. not (p (i + j))) k ≡ false → every_below p i ≡ true → every_below p (i + k) ≡ true
  unfolding any_below
  every_block i zero e h = subst (λ m. every_below p m ≡ true) (omega arith) h
  every_block i (suc k) e h =
      let more = every_more (i + k) (every_block i k (neither_left _ (not (p (i + k))) e) h) (not_false (p (i + k)) (neither_right (any_below (λ j. not (p (i + j))) k) _ e)) in
      subst (λ m. every_below p m ≡ true) (omega arith) more

  -- the loop that stops at i
  pub every_fails : (n i : ℕ) → i < n → p i ≡ false → every_below p n ≡ false
  unfolding every_below
  every_fails zero i h e = absurd (not-suc-le-zero h)
  every_fails (suc n) i h e =
      ⊎_elim (λ q. rw (← q, e) (and_false (every_below p i)))
      (λ l. rw (every_fails n i l e))
      (eq-or-lt_of_le (le_of_suc-le-suc h))

  -- what holds at each position below n holds at i
  pub every_at : (n i : ℕ) → i < n → every_below p n ≡ true → p i ≡ true
  every_at n i h e =
      (elim (p i) as (λ b. p i ≡ b → b ≡ true) [ true ↦ λ _. refl | false ↦ λ q. sym (every_fails n i h q) ∙ e ]) refl

  pub every_intro : (n : ℕ) → ((i : ℕ) → i < n → p i ≡ true) → every_below p n ≡ true
  unfolding every_below
  every_intro zero h = refl
  every_intro (suc n) h = and_intro (every_below p n) (p n) (every_intro n (λ i l. h i (omega arith))) (h n (omega arith))

  -- ---- at one position

  pub any_none : any_below p 0 ≡ false
  unfolding any_below
  any_none = refl

  pub any_hit_lem : (i : ℕ) → p i ≡ true → any_below p (i + 1) ≡ true
  unfolding any_below
  any_hit_lem i e = rw (add-one i, e) (or_true (any_below p i))

  pub any_miss : (i : ℕ) → p i ≡ false → any_below p (i + 1) ≡ any_below p i
  unfolding any_below
  any_miss i e = rw (add-one i, e) (or_false (any_below p i))

  -- ---- at how many

  pub count_none : count_below p 0 ≡ 0
  unfolding count_below
  count_none = refl

  pub count_le : (i : ℕ) → count_below p i ≤ i
  unfolding count_below
  count_le zero = omega arith
  count_le (suc i) = cond_le (p i) (count_below p i) i (count_le i)

  -- ---- at which

  pub kept_none : kept_below p 0 ≡ []
  unfolding kept_below
  kept_none = refl

  pub kept_hit : (i : ℕ) → p i ≡ true → kept_below p (i + 1) ≡ kept_below p i ++ (i ∷ [])
  unfolding kept_below
  kept_hit i e = rw (add-one i, e)

  pub kept_miss : (i : ℕ) → p i ≡ false → kept_below p (i + 1) ≡ kept_below p i
  unfolding kept_below
  kept_miss i e = rw (add-one i, e)

  pub kept_le : (n : ℕ) → length (kept_below p n) ≤ n
  unfolding kept_below
  kept_le zero = omega arith
  kept_le (suc n) =
      elim (p n) as (λ b. length (cond b (kept_below p n ++ (n ∷ [])) (kept_below p n)) ≤ suc n) [
        | true ↦ omega (arith, kept_le n, length-append (kept_below p n) (n ∷ []))
        | false ↦ omega (arith, kept_le n)
      ]

  -- each of them is below n, and p holds there
  pub kept_at : (n k : ℕ) → k < length (kept_below p n) → (get_or (kept_below p n) k 0 < n) × (p (get_or (kept_below p n) k 0) ≡ true)
  unfolding kept_below
  kept_at zero = λ k h. absurd (not-suc-le-zero h)
  kept_at (suc n) =
      let old : (k : ℕ) → k < length (kept_below p n) → (get_or (kept_below p n) k 0 < suc n) × (p (get_or (kept_below p n) k 0) ≡ true) =
      λ k h. let r = kept_at n k h in (omega arith, r.1) in
      (elim (p n) as (λ b. p n ≡ b → (k : ℕ) → k < length (cond b (kept_below p n ++ (n ∷ [])) (kept_below p n))
      → (get_or (cond b (kept_below p n ++ (n ∷ [])) (kept_below p n)) k 0 < suc n) × (p (get_or (cond b (kept_below p n ++ (n ∷ [])) (kept_below p n)) k 0) ≡ true)) [
        | true ↦ λ q. each_more (λ i. (i < suc n) × (p i ≡ true)) (kept_below p n) n old (omega arith, q)
        | false ↦ λ q. old
      ]) refl

  pub kept_under : (n k : ℕ) → k < length (kept_below p n) → get_or (kept_below p n) k 0 < n
  kept_under n k h = (kept_at n k h).0

  -- ---- at which first

  pub first_none : first_below p 0 ≡ None
  unfolding first_below
  first_none = refl

  pub first_more : (i : ℕ) → first_below p i ≡ None → p i ≡ false → first_below p (i + 1) ≡ None
  unfolding first_below or_else
  first_more i h e = rw (add-one i, h, e)

  -- a block of k positions from i on at which p does not hold
  pub first_block : (i k : ℕ) → any_below (λ j. p (i + j)) k ≡ false → first_below p i ≡ None → first_below p (i + k) ≡ None
  unfolding any_below
  first_block i zero e h = subst (λ m. first_below p m ≡ None) (omega arith) h
  first_block i (suc k) e h =
      let none = first_more (i + k) (first_block i k (neither_left _ (p (i + k)) e) h) (neither_right (any_below (λ j. p (i + j)) k) _ e) in
      subst (λ m. first_below p m ≡ None) (omega arith) none

  -- the loop that finds at i
  pub first_at : (n i : ℕ) → i < n → first_below p i ≡ None → p i ≡ true → first_below p n ≡ Some i
  unfolding first_below or_else
  first_at zero i h e q = absurd (not-suc-le-zero h)
  first_at (suc n) i h e q =
      ⊎_elim (λ r. rw (← r, e, q))
      (λ l. rw (first_at n i l e q))
      (eq-or-lt_of_le (le_of_suc-le-suc h))

  -- what was found is the first of more positions too
  pub first_stays : (m n i : ℕ) → n ≤ m → first_below p n ≡ Some i → first_below p m ≡ Some i
  unfolding first_below or_else
  first_stays zero n i h e = let z : n ≡ 0 = omega arith in subst (λ (k : ℕ). first_below p k ≡ Some i) z e
  first_stays (suc m) n i h e =
      ⊎_elim (λ r. subst (λ (k : ℕ). first_below p k ≡ Some i) r e)
      (λ l. rw (first_stays m n i (le_of_suc-le-suc l) e))
      (eq-or-lt_of_le h)

  -- what was found is below n, and p holds there
  pub first_under : (n i : ℕ) → first_below p n ≡ Some i → (i < n) × (p i ≡ true)
  unfolding first_below or_else
  first_under zero i e = let z : ◌≡◌ {A = ℕ} 0 1 = cc in let w : ⊥ = omega arith in absurd w
  first_under (suc n) i e = go (first_below p n) (p n) refl refl (λ j q. first_under n j q) e
    where
      go : (f : Option ℕ) (b : Bool) → first_below p n ≡ f → p n ≡ b → ((j : ℕ) → first_below p n ≡ Some j → (j < n) × (p j ≡ true)) → or_else f (cond b (Some n) None) ≡ Some i → (i < suc n) × (p i ≡ true)
      go (Some j) b q r ih k = let s : j ≡ i = cc in let h = ih j q in (omega arith, ap p (sym s) ∙ h.1)
      go None true q r ih k = let s : n ≡ i = cc in (omega arith, ap p (sym s) ∙ r)
      go None false q r ih k = let z : ◌≡◌ {A = ℕ} 0 1 = cc in let w : ⊥ = omega arith in absurd w

  -- where nothing was found p holds nowhere
  pub first_nothing : (n : ℕ) → first_below p n ≡ None → (j : ℕ) → j < n → p j ≡ false
  unfolding first_below or_else
  first_nothing zero e j h = absurd (not-suc-le-zero h)
  first_nothing (suc n) e j h = go (first_below p n) (p n) refl refl (first_nothing n) e
    where
      go : (f : Option ℕ) (b : Bool) → first_below p n ≡ f → p n ≡ b → (first_below p n ≡ None → (j : ℕ) → j < n → p j ≡ false) → or_else f (cond b (Some n) None) ≡ None → p j ≡ false
      go (Some i) b q r ih k = let z : ◌≡◌ {A = ℕ} 0 1 = cc in let w : ⊥ = omega arith in absurd w
      go None true q r ih k = let z : ◌≡◌ {A = ℕ} 0 1 = cc in let w : ⊥ = omega arith in absurd w
      go None false q r ih k = ⊎_elim (λ s. ap p s ∙ r) (λ l. ih q j l) (eq-or-lt_of_le (le_of_suc-le-suc h))

  -- before what was found p holds nowhere
  pub first_before : (n i : ℕ) → first_below p n ≡ Some i → (j : ℕ) → j < i → p j ≡ false
  unfolding first_below or_else
  first_before zero i e j h = let z : ◌≡◌ {A = ℕ} 0 1 = cc in let w : ⊥ = omega arith in absurd w
  first_before (suc n) i e j h = go (first_below p n) (p n) refl refl (first_before n) e
    where
      go : (f : Option ℕ) (b : Bool) → first_below p n ≡ f → p n ≡ b → ((i : ℕ) → first_below p n ≡ Some i → (j : ℕ) → j < i → p j ≡ false) → or_else f (cond b (Some n) None) ≡ Some i → p j ≡ false
      go (Some k) b q r ih e = let s : k ≡ i = cc in ih k q j (omega arith)
      go None true q r ih e = let s : n ≡ i = cc in first_nothing n q j (omega arith)
      go None false q r ih e = let z : ◌≡◌ {A = ℕ} 0 1 = cc in let w : ⊥ = omega arith in absurd w

-- ---- a list's first elements: what the library's methods say of them

module _ (p : ℕ → Bool) (xs : List ℕ) where
  pub every_list : (n : ℕ) → n ≤ length xs → list_all p (take n xs) ≡ every_below (λ i. p (get_or xs i 0)) n
  unfolding every_below
  every_list zero h = refl
  every_list (suc n) h =
      rw (← add-one n) (list_all_more p xs n 0 (omega arith)) ∙ ap (λ (b : Bool). b && p (get_or xs n 0)) (every_list n (omega arith))

  pub any_list : (n : ℕ) → n ≤ length xs → list_any p (take n xs) ≡ any_below (λ i. p (get_or xs i 0)) n
  unfolding any_below
  any_list zero h = refl
  any_list (suc n) h =
      rw (← add-one n) (list_any_more p xs n 0 (omega arith)) ∙ ap (λ (b : Bool). b || p (get_or xs n 0)) (any_list n (omega arith))

  pub count_list : (n : ℕ) → n ≤ length xs → count_by p (take n xs) ≡ count_below (λ i. p (get_or xs i 0)) n
  unfolding count_below
  count_list zero h = refl
  count_list (suc n) h =
      (elim (p (get_or xs n 0)) as (λ b. p (get_or xs n 0) ≡ b → count_by p (take (suc n) xs) ≡ cond b (suc (count_below (λ i. p (get_or xs i 0)) n)) (count_below (λ i. p (get_or xs i 0)) n)) [
        | true ↦ λ e. rw (← add-one n, ← add-one (count_below (λ i. p (get_or xs i 0)) n)) (count_by_more_yes p xs n 0 (omega arith) e ∙ ap (λ (m : ℕ). m + 1) (count_list n (omega arith)))
        | false ↦ λ e. rw (← add-one n) (count_by_more_no p xs n 0 (omega arith) e ∙ count_list n (omega arith))
      ]) refl

  pub first_list : (n : ℕ) → n ≤ length xs → position p (take n xs) ≡ first_below (λ i. p (get_or xs i 0)) n
  first_list n h = go (first_below (λ i. p (get_or xs i 0)) n) refl
    where
      long : length (take n xs) ≡ n
      long = length-take-le n xs h

      go : (f : Option ℕ) → first_below (λ i. p (get_or xs i 0)) n ≡ f → position p (take n xs) ≡ f
      go (Some i) e =
          let here = first_under (λ i. p (get_or xs i 0)) n i e in
          let stands = position_or_len_is p (take n xs) i 0 (omega (arith, long, here.0))
          (λ k m. ap p (get_or-take n xs k 0 (omega (arith, here.0))) ∙ first_before (λ i. p (get_or xs i 0)) n i e k m)
          (λ m. ap p (get_or-take n xs i 0 here.0) ∙ here.1) in
          rw (stands, long, lt-ltb i n here.0)
      go None e =
          let nowhere = position_or_len_is p (take n xs) n 0 (omega (arith, long))
          (λ k m. ap p (get_or-take n xs k 0 m) ∙ first_nothing (λ i. p (get_or xs i 0)) n e k m)
          (λ m. absurd (omega (arith, long))) in
          rw (nowhere, long, le-ltb n n (omega arith))
