-- The laws of lists under tests: every change of a list is a sum of counts, so that omega proves the rest. Assumes nothing.
use Prim.Native.Nat.{ℕ, suc, ◌+◌, ◌≤◌, zero-le}
use native.Mathlib.Omega.{arith}
use mathlib.Core.Path.{◌≡◌, refl, sym, ap, ap₂, ◌∙◌}
use mathlib.Core.Bool.{Bool, true, false, cond, ◌&&◌, ◌||◌}
use mathlib.Core.List.{List, [], ◌∷◌, ◌++◌, map}
use mathlib.Core.Option
use mathlib.Core.Option.{Option, none, some, none-ne-some, some-injective}
use lib.ListN.{length}
use Rattle.words.proofs.Tests.{and_left, and_right}
use Rattle.observation.specs.Lists.{bit, count, find, keep}
use Rattle.observation.proofs.Lists.{found, has, put, behind_first, last_first, take_out}

pub both : (a b : Bool) → (a && b) ≡ true → (a ≡ true) × (b ≡ true)
both a b e = (and_left a b e, and_right a b e)

pub bit_le : (a b : Bool) → (a ≡ true → b ≡ true) → bit a ≤ bit b
bit_le true b h = let e = h refl in rw e (omega arith)
bit_le false b h = zero-le

module _ {A : Type 0} where
  pub count_ext : (p q : A → Bool) → ((x : A) → p x ≡ q x) → (xs : List A) → count p xs ≡ count q xs
  count_ext p q e [] = refl
  count_ext p q e (x ∷ xs) = ap₂ (λ (b : Bool) (n : ℕ). bit b + n) (e x) (count_ext p q e xs)

  pub count_le : (p q : A → Bool) → ((x : A) → p x ≡ true → q x ≡ true) → (xs : List A) → count p xs ≤ count q xs
  count_le p q h [] = zero-le
  count_le p q h (x ∷ xs) = omega (arith, bit_le (p x) (q x) (h x), count_le p q h xs)

  pub count_or : (p q : A → Bool) → ((x : A) → p x ≡ true → q x ≡ false) → (xs : List A)
      → count (λ x. p x || q x) xs ≡ count p xs + count q xs
  count_or p q h [] = refl
  count_or p q h (x ∷ xs) =
      let go : (b : Bool) → p x ≡ b → bit (b || q x) ≡ bit b + bit (q x) =
      λ b. elim b as (λ b. p x ≡ b → bit (b || q x) ≡ bit b + bit (q x)) [ true ↦ λ e. rw (h x e) refl | false ↦ λ e. omega arith ] in
      omega (arith, go (p x) refl, count_or p q h xs)

  -- ---- two lists in a row

  pub count-append : (p : A → Bool) (xs ys : List A) → count p (xs ++ ys) ≡ count p xs + count p ys
  count-append p [] ys = omega arith
  count-append p (x ∷ xs) ys = omega (arith, count-append p xs ys)

  pub keep_append : (r : A → Bool) (xs ys : List A) → keep r (xs ++ ys) ≡ keep r xs ++ keep r ys
  keep_append r [] ys = refl
  keep_append r (x ∷ xs) ys =
      elim (r x) as (λ b. cond b (x ∷ keep r (xs ++ ys)) (keep r (xs ++ ys)) ≡ cond b (x ∷ keep r xs) (keep r xs) ++ keep r ys)
      [ true ↦ ap (λ (l : List A). x ∷ l) (keep_append r xs ys) | false ↦ keep_append r xs ys ]

  pub has_append : (h : A → Bool) (xs ys : List A) → has h (xs ++ ys) ≡ (has h xs || has h ys)
  has_append h [] ys = refl
  has_append h (x ∷ xs) ys =
      elim (h x) as (λ b. found (cond b (some x) (find h (xs ++ ys))) ≡ (found (cond b (some x) (find h xs)) || has h ys))
      [ true ↦ refl | false ↦ has_append h xs ys ]

  -- ---- changes

  -- 1 if the element found passes
  abbrev pub opt : (A → Bool) → Option A → ℕ
  opt p none = 0
  opt p (some y) = bit (p y)

  pub count-put : (p h : A → Bool) (x : A) (ys : List A) → count p (put h x ys) + opt p (find h ys) ≡ count p ys + bit (p x)
  count-put p h x [] = omega arith
  count-put p h x (y ∷ ys) =
      elim (h y) as (λ b. count p (cond b (x ∷ ys) (y ∷ put h x ys)) + opt p (cond b (some y) (find h ys)) ≡ bit (p y) + count p ys + bit (p x))
      [ true ↦ omega arith | false ↦ omega (arith, count-put p h x ys) ]

  pub count_last_first : (p : A → Bool) (xs : List A) → count p (last_first xs) ≡ count p xs
  count_last_first p [] = refl
  count_last_first p (x ∷ xs) = behind x (last_first xs) ∙ ap (λ (n : ℕ). bit (p x) + n) (count_last_first p xs)
    where
      behind : (y : A) (ys : List A) → count p (behind_first y ys) ≡ bit (p y) + count p ys
      behind y [] = refl
      behind y (z ∷ ys) = omega arith

  pub count_take_out : (p h : A → Bool) (ys : List A) → count p (take_out h ys) + opt p (find h ys) ≡ count p ys
  count_take_out p h [] = refl
  count_take_out p h (y ∷ ys) =
      elim (h y) as (λ b. count p (cond b (last_first ys) (y ∷ take_out h ys)) + opt p (cond b (some y) (find h ys)) ≡ bit (p y) + count p ys)
      [ true ↦ omega (arith, count_last_first p ys) | false ↦ omega (arith, count_take_out p h ys) ]

  pub count-keep : (p r : A → Bool) (xs : List A) → count p (keep r xs) ≡ count (λ x. r x && p x) xs
  count-keep p r [] = refl
  count-keep p r (x ∷ xs) =
      elim (r x) as (λ b. count p (cond b (x ∷ keep r xs) (keep r xs)) ≡ bit (b && p x) + count (λ y. r y && p y) xs)
      [ true ↦ omega (arith, count-keep p r xs) | false ↦ omega (arith, count-keep p r xs) ]

  pub length-count : (xs : List A) → length xs ≡ count (λ x. true) xs
  length-count [] = refl
  length-count (x ∷ xs) = omega (arith, length-count xs)

  -- the first that passes
  pub find-passes : (h : A → Bool) (xs : List A) (y : A) → find h xs ≡ some y → h y ≡ true
  find-passes h [] y e = absurd (none-ne-some y e)
  find-passes h (x ∷ xs) y e =
      (elim (h x) as (λ b. h x ≡ b → cond b (some x) (find h xs) ≡ some y → h y ≡ true)
      [ true ↦ λ hx e'. ap h (sym (some-injective x y e')) ∙ hx | false ↦ λ hx e'. find-passes h xs y e' ]) refl e

  pub find-counts : (p h : A → Bool) (xs : List A) (y : A) → find h xs ≡ some y → bit (p y) ≤ count p xs
  find-counts p h xs y e = omega (arith, count_take_out p h xs, ap (opt p) e)

  pub find_none : (h : A → Bool) (xs : List A) → find h xs ≡ none → count h xs ≡ 0
  find_none h [] e = refl
  find_none h (x ∷ xs) e =
      (elim (h x) as (λ b. cond b (some x) (find h xs) ≡ none → bit b + count h xs ≡ 0)
      [ true ↦ λ e'. absurd (none-ne-some x (sym e')) | false ↦ λ e'. omega (arith, find_none h xs e') ]) e

  pub none_find : (h : A → Bool) (xs : List A) → count h xs ≡ 0 → find h xs ≡ none
  none_find h [] e = refl
  none_find h (x ∷ xs) e =
      (elim (h x) as (λ b. bit b + count h xs ≡ 0 → cond b (some x) (find h xs) ≡ none)
      [ true ↦ λ e'. absurd (omega arith) | false ↦ λ e'. none_find h xs (omega arith) ]) e

  -- one passes h at most, and one that passes h is y: then y is found
  pub find_one : (h q : A → Bool) (y : A) → ((x : A) → q x ≡ true → x ≡ y) → (xs : List A) → count h xs ≤ 1 → 1 ≤ count (λ x. h x && q x) xs → find h xs ≡ some y
  find_one h q y same [] once one = absurd (omega arith)
  find_one h q y same (x ∷ xs) once one =
      let less : count (λ z. h z && q z) xs ≤ count h xs = count_le (λ z. h z && q z) h (λ z e. (both (h z) (q z) e).0) xs in
      let is : (c : Bool) → q x ≡ c → 1 ≤ bit c → c ≡ true = λ c. elim c as (λ c. q x ≡ c → 1 ≤ bit c → c ≡ true) [ true ↦ λ e l. refl | false ↦ λ e l. absurd (omega arith) ] in
      (elim (h x) as (λ b. bit b + count h xs ≤ 1 → 1 ≤ bit (b && q x) + count (λ z. h z && q z) xs → cond b (some x) (find h xs) ≡ some y)
      [ true ↦ λ o₁ o₂. ap some (same x (is (q x) refl (omega arith))) | false ↦ λ o₁ o₂. find_one h q y same xs (omega arith) (omega arith) ]) once one

  pub find-map : {B : Type 0} (h : B → Bool) (k : A → Bool) (g : A → B) → ((x : A) → h (g x) ≡ k x) → (xs : List A) → find h (map g xs) ≡ Option.map g (find k xs)
  find-map h k g e [] = refl
  find-map h k g e (x ∷ xs) =
      rw (e x) (elim (k x) as (λ b. cond b (some (g x)) (find h (map g xs)) ≡ Option.map g (cond b (some x) (find k xs)))
      [ true ↦ refl | false ↦ find-map h k g e xs ])

  pub count_map : {B : Type 0} (p : B → Bool) (g : A → B) (xs : List A) → count p (map g xs) ≡ count (λ x. p (g x)) xs
  count_map p g [] = refl
  count_map p g (x ∷ xs) = ap (λ (n : ℕ). bit (p (g x)) + n) (count_map p g xs)

  pub has_map : {B : Type 0} (h : B → Bool) (g : A → B) (xs : List A) → has h (map g xs) ≡ has (λ x. h (g x)) xs
  has_map h g [] = refl
  has_map h g (x ∷ xs) =
      elim (h (g x)) as (λ b. found (cond b (some (g x)) (find h (map g xs))) ≡ found (cond b (some x) (find (λ y. h (g y)) xs)))
      [ true ↦ refl | false ↦ has_map h g xs ]

  pub keep-map : {B : Type 0} (r : B → Bool) (g : A → B) (xs : List A) → keep r (map g xs) ≡ map g (keep (λ x. r (g x)) xs)
  keep-map r g [] = refl
  keep-map {B} r g (x ∷ xs) =
      elim (r (g x)) as (λ b. cond b (g x ∷ keep r (map g xs)) (keep r (map g xs)) ≡ map g (cond b (x ∷ keep (λ y. r (g y)) xs) (keep (λ y. r (g y)) xs)))
      [ true ↦ ap (λ (l : List B). g x ∷ l) (keep-map r g xs) | false ↦ keep-map r g xs ]

  pub find-put : (h : A → Bool) (x : A) → h x ≡ true → (ys : List A) → find h (put h x ys) ≡ some x
  find-put h x hx [] = rw hx refl
  find-put h x hx (y ∷ ys) =
      (elim (h y) as (λ b. h y ≡ b → find h (cond b (x ∷ ys) (y ∷ put h x ys)) ≡ some x)
      [ true ↦ λ e. rw hx refl | false ↦ λ e. rw e (find-put h x hx ys) ]) refl

  -- everything that changed passes q: so the length changes as the count of q does
  pub length-put : (q h : A → Bool) (x : A) → q x ≡ true → ((y : A) → h y ≡ true → q y ≡ true) → (ys : List A)
      → length (put h x ys) + count q ys ≡ length ys + count q (put h x ys)
  length-put q h x qx hq [] = rw qx refl
  length-put q h x qx hq (y ∷ ys) =
      (elim (h y) as (λ b. h y ≡ b → length (cond b (x ∷ ys) (y ∷ put h x ys)) + (bit (q y) + count q ys) ≡ suc (length ys) + count q (cond b (x ∷ ys) (y ∷ put h x ys)))
      [ true ↦ λ e. rw (qx, hq y e) refl | false ↦ λ e. omega (arith, length-put q h x qx hq ys) ]) refl

  pub length_take_out : (q h : A → Bool) → ((y : A) → h y ≡ true → q y ≡ true) → (ys : List A)
      → length (take_out h ys) + count q ys ≡ length ys + count q (take_out h ys)
  length_take_out q h hq ys =
      (elim (find h ys) as (λ o. find h ys ≡ o → length (take_out h ys) + count q ys ≡ length ys + count q (take_out h ys)) [
        | none ↦ λ e. omega (arith, length-count (take_out h ys), length-count ys, count_take_out q h ys, count_take_out (λ x. true) h ys, ap (opt q) e, ap (opt (λ x. true)) e)
        | some y ↦ λ e. omega (arith, length-count (take_out h ys), length-count ys, count_take_out q h ys, count_take_out (λ x. true) h ys, ap (opt q) e, ap (opt (λ x. true)) e, ap bit (hq y (find-passes h ys y e)))
      ]) refl

  pub length-keep : (q r : A → Bool) → ((y : A) → r y ≡ false → q y ≡ true) → (ys : List A)
      → length (keep r ys) + count q ys ≡ length ys + count q (keep r ys)
  length-keep q r rq [] = refl
  length-keep q r rq (y ∷ ys) =
      (elim (r y) as (λ b. r y ≡ b → length (cond b (y ∷ keep r ys) (keep r ys)) + (bit (q y) + count q ys) ≡ suc (length ys) + count q (cond b (y ∷ keep r ys) (keep r ys)))
      [ true ↦ λ e. omega (arith, length-keep q r rq ys) | false ↦ λ e. omega (arith, length-keep q r rq ys, ap bit (rq y e)) ]) refl
