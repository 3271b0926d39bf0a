-- The laws of the record words, as the functions' tests and loops go. Assumes nothing.
use Prim.Native.Nat.{ℕ, zero, suc, ◌+◌, ◌-◌, ◌≤◌, ◌<◌}
use mathlib.Core.Path.{◌≡◌, refl, sym, ap, ◌∙◌}
use mathlib.Core.Bool.{Bool, true, false, not, ◌&&◌}
use mathlib.Core.List.{List, [], ◌∷◌, ◌++◌, map, map-append}
use native.Mathlib.Omega.{arith}
use native.Mathlib.Numerals.{add-one}
use native.Mathlib.Nat.{not-suc-le-zero, le_of_suc-le-suc}
use lib.Dec.{eqb}
use lib.ListN.{length, get_or, set, take, drop, length-append, length-map}
use lib.Seq.{drop-cons, set_at, append_snoc, get_or-append-add, get_or-drop}
use borrow.Author.Tests.{lt-ltb, le-ltb, eq-eqb, ne_eqb}
use Rattle.std.specs.Prelude.{Some, None}
use Rattle.words.specs.declared.GroupKey.{GroupKey}
use Rattle.words.specs.declared.SceneKey.{SceneKey}
use Rattle.words.specs.Words.{owns, fabric_of, group_of, scene_of, key_of_record, valid_record}
use Rattle.words.proofs.Below.{kept_none, kept_hit, kept_miss, first_under}
use Rattle.records.specs.declared.Scope.{Scope}
use Rattle.records.specs.declared.Scope.TheVariants.{Scene, Group}
use Rattle.records.specs.Records.{first_owned, records_of, remember_at, remember, in_scope, hits, cleared, map_first, invalidated, others_of, moved}

-- ---- which records are meant

-- by scene, from the tests of the owner and of group and scene
pub by_scene : (scope : Scope) (key : SceneKey) (w : ℕ) (o s : Bool) → scope ≡ Scene key → owns w key.fabric key.endpoint ≡ o
    → (eqb (group_of (key_of_record w)) key.group && eqb (scene_of (key_of_record w)) key.scene) ≡ s → (o && s) ≡ in_scope scope w
unfolding in_scope
by_scene scope key w o s e p q = rw (e, p, q)

-- by group, from the tests of the owner and of the group
pub by_group : (scope : Scope) (key : GroupKey) (w : ℕ) (o g : Bool) → scope ≡ Group key → owns w key.fabric key.endpoint ≡ o
    → eqb (group_of (key_of_record w)) key.group ≡ g → (o && g) ≡ in_scope scope w
unfolding in_scope
by_group scope key w o g e p q = rw (e, p, q)

-- ---- remembering

-- what was found is below n
pub found_under : (l : List ℕ) (n fabric endpoint p : ℕ) → first_owned l n fabric endpoint ≡ Some p → p < n
unfolding first_owned
found_under l n fabric endpoint p e = (first_under _ n p e).0

module _ (key : SceneKey) (size n : ℕ) (l : List ℕ) where
  -- over the record that was found
  pub remember_over : (p : ℕ) → first_owned l n key.fabric key.endpoint ≡ Some p → records_of n (set l p (valid_record key)) ≡ remember key size (records_of n l)
  unfolding remember remember_at
  remember_over p e = rw e

  -- behind the others
  pub remember-behind : first_owned l n key.fabric key.endpoint ≡ None → n < size → records_of (n + 1) (set l n (valid_record key)) ≡ remember key size (records_of n l)
  unfolding remember remember_at
  remember-behind e h = rw (e, lt-ltb n size h)

  -- the others fill the size
  pub remember_dropped : first_owned l n key.fabric key.endpoint ≡ None → size ≤ n → records_of n l ≡ remember key size (records_of n l)
  unfolding remember remember_at
  remember_dropped e h = rw (e, le-ltb n size h)

-- ---- changing the first elements of a list

module _ (f : ℕ → ℕ) where
  map_none : (l : List ℕ) → map_first f 0 l ≡ l
  unfolding map_first
  map_none l = refl

  -- what stands past the first n elements is what stood there
  map-past : (n : ℕ) (l : List ℕ) (k : ℕ) → n ≤ k → get_or (map_first f n l) k 0 ≡ get_or l k 0
  unfolding map_first
  map-past zero l k h = refl
  map-past (suc n) [] k h = refl
  map-past (suc n) (x ∷ l) zero h = absurd (not-suc-le-zero h)
  map-past (suc n) (x ∷ l) (suc k) h = map-past n l k (le_of_suc-le-suc h)

  -- a turn of the loop that stores
  map-store : (i : ℕ) (l : List ℕ) → i < length l → set (map_first f i l) i (f (get_or l i 0)) ≡ map_first f (suc i) l
  unfolding map_first
  map-store zero [] h = absurd (not-suc-le-zero h)
  map-store zero (x ∷ l) h = refl
  map-store (suc i) [] h = absurd (not-suc-le-zero h)
  map-store (suc i) (x ∷ l) h = ap (λ (r : List ℕ). f x ∷ r) (map-store i l (le_of_suc-le-suc h))

  -- a turn of the loop that stores nothing
  map-keep : (i : ℕ) (l : List ℕ) → f (get_or l i 0) ≡ get_or l i 0 → map_first f i l ≡ map_first f (suc i) l
  unfolding map_first
  map-keep zero [] e = refl
  map-keep zero (x ∷ l) e = ap (λ (y : ℕ). y ∷ l) (sym e)
  map-keep (suc i) [] e = refl
  map-keep (suc i) (x ∷ l) e = ap (λ (r : List ℕ). f x ∷ r) (map-keep i l e)

  -- the first n elements, and what stands behind them
  map-front : (n : ℕ) (l : List ℕ) → map_first f n (take n l) ++ drop n l ≡ map_first f n l
  unfolding map_first
  map-front zero l = refl
  map-front (suc n) [] = refl
  map-front (suc n) (x ∷ l) = ap (λ (r : List ℕ). f x ∷ r) (map-front n l)

-- ---- the loop of `clear`

module _ (scope : Scope) (l : List ℕ) where
  pub invalidated_none : invalidated scope 0 l ≡ l
  unfolding invalidated
  invalidated_none = map_none (cleared scope) l

  -- the word at the loop's index is the one that came in
  pub invalidated_here : (i : ℕ) → get_or (invalidated scope i l) i 0 ≡ get_or l i 0
  unfolding invalidated
  invalidated_here i = map-past (cleared scope) i l i (omega arith)

  pub invalidated_hit : (i : ℕ) → i < length l → hits scope (get_or l i 0) ≡ true → set (invalidated scope i l) i (key_of_record (get_or l i 0)) ≡ invalidated scope (i + 1) l
  unfolding invalidated
  invalidated_hit i h e = rw (add-one i, ← map-store (cleared scope) i l h, e)

  pub invalidated_front : (n : ℕ) → invalidated scope n (take n l) ++ drop n l ≡ invalidated scope n l
  unfolding invalidated
  invalidated_front n = map-front (cleared scope) n l

  pub invalidated_miss : (i : ℕ) → hits scope (get_or l i 0) ≡ false → invalidated scope i l ≡ invalidated scope (i + 1) l
  unfolding invalidated
  invalidated_miss i e = rw (add-one i) (map-keep (cleared scope) i l (rw e))

-- ---- the loop of `retain`

module _ (l : List ℕ) (fabric : ℕ) where
  pub others_none : others_of l 0 fabric ≡ []
  unfolding others_of
  others_none = kept_none _

  pub others_keep : (i : ℕ) → (fabric_of (key_of_record (get_or l i 0)) ≡ fabric → ⊥) → others_of l (i + 1) fabric ≡ others_of l i fabric ++ (i ∷ [])
  unfolding others_of
  others_keep i h = kept_hit _ i (ap not (ne_eqb _ fabric h))

  pub others_skip : (i : ℕ) → fabric_of (key_of_record (get_or l i 0)) ≡ fabric → others_of l (i + 1) fabric ≡ others_of l i fabric
  unfolding others_of
  others_skip i e = kept_miss _ i (ap not (eq-eqb _ fabric e))

pub moved_none : (l : List ℕ) → moved [] l ≡ l
unfolding moved
moved_none l = refl

-- what stands past those that moved is what stood there
pub moved-past : (ps l : List ℕ) (k : ℕ) → length ps ≤ k → get_or (moved ps l) k 0 ≡ get_or l k 0
unfolding moved
moved-past ps l k h =
    let front : List ℕ = map (λ i. get_or l i 0) ps in
    let m : length front ≡ length ps = length-map ps (λ i. get_or l i 0) in
    let q : k ≡ length front + (k - length ps) = omega arith in
    let r : length ps + (k - length ps) ≡ k = omega arith in
    ap (λ (j : ℕ). get_or (front ++ drop (length ps) l) j 0) q
    ∙ get_or-append-add front (drop (length ps) l) (k - length ps) 0
    ∙ get_or-drop (length ps) l (k - length ps) 0
    ∙ ap (λ (j : ℕ). get_or l j 0) r

-- one more behind those that moved
pub moved_more : (ps l : List ℕ) (i : ℕ) → length ps < length l → set (moved ps l) (length ps) (get_or l i 0) ≡ moved (ps ++ (i ∷ [])) l
unfolding moved
moved_more ps l i h =
    let front : List ℕ = map (λ k. get_or l k 0) ps in
    let m : length (ps ++ (i ∷ [])) ≡ suc (length ps) = length-append ps (i ∷ []) ∙ add-one (length ps) in
    rw (drop-cons l (length ps) 0 h, set_at front _ _ (get_or l i 0) (length ps) (length-map ps (λ k. get_or l k 0)), m, map-append) (sym (append_snoc front (get_or l i 0) (drop (suc (length ps)) l)))
