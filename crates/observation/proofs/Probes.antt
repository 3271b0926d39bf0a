-- What tells two views apart: what view and info answer of them, and a key that no entry has. Assumes nothing.
use Prim.Native.Nat.{ℕ, zero, suc, ◌+◌, ◌^◌, ◌≤◌, ◌<◌}
use native.Mathlib.Omega.{arith}
use mathlib.Core.Path.{◌≡◌, refl, sym, ap, ◌∙◌, subst}
use mathlib.Core.Bool.{Bool, true, false, cond, not, ◌&&◌, ◌||◌, false≢true}
use mathlib.Core.List.{List, [], ◌∷◌}
use mathlib.Core.Option.{Option, none, some}
use lib.ListN.{length, get_or}
use lib.Dec.{ltb, eqb}
use borrow.Author.Tests.{eqb-true, eqb-false, eq-eqb, ne_eqb}
use Rattle.words.specs.Constants.{max_fields}
use Rattle.words.specs.Words.{word_of, fabric_of, endpoint_of, group_of, scene_of, key_of_record, is_valid, endpoint_keys}
use Rattle.words.proofs.Tests.{and_false}
use Rattle.slots.specs.Slots.{SceneEntry}
use Rattle.requests.specs.Requests.{reserved}
use Rattle.observation.specs.Lists.{bit, count, find, keep}
use Rattle.observation.specs.Calls.{Answer, scene_key}
use Rattle.observation.specs.Equivalence.{key_is, Same, mine, of_fabric}
use Rattle.observation.proofs.Lists.{found, take_out}
use Rattle.observation.proofs.Lookups.{holds}
use Rattle.observation.proofs.Changes.{View, current_in}
use Rattle.observation.proofs.Effects.{viewed, shown, remaining_in, row, info_out}
use Rattle.observation.proofs.Counts.{count_ext, count_le, opt, count_take_out, count-keep, length-count, find-passes, find-counts, find_none, none_find}
use Rattle.observation.proofs.Choices.{cond_elim, or_none, bit_zero}
use Rattle.observation.proofs.Bits.{rebuilt}
use Rattle.observation.proofs.Invariant.{bad_key, bad, bad_record, fine_key, fine_record, Good, Inv, rest_good, take_out_good}
use Rattle.observation.proofs.Simulation.{Within, find-same}

-- ---- view

-- equal answers mean equal entries
pub viewed-same : (k : ℕ) (o o' : Option SceneEntry) → ((x : SceneEntry) → o ≡ some x → x.key ≡ k) → ((x : SceneEntry) → o' ≡ some x → x.key ≡ k)
    → Same (viewed o) (viewed o') → o ≡ o'
viewed-same k none none p p' e = refl
viewed-same k none (some y) p p' e = absurd (omega (arith, e.status))
viewed-same k (some x) none p p' e = absurd (omega (arith, e.status))
viewed-same k (some x) (some y) p p' e =
    let w : x.key ≡ y.key = p x refl ∙ sym (p' y refl) in
    let tm : x.time ≡ y.time = cc e.values in
    let fs : x.fields ≡ y.fields = cc e.values in
    λ i. some (record { key = w i; time = tm i; fields = fs i })

pub key-found : (k : ℕ) (es : List SceneEntry) (x : SceneEntry) → find (key_is k) es ≡ some x → x.key ≡ k
key-found k es x e = eqb-true x.key k (find-passes (key_is k) es x e)

-- no entry has a bad key
pub no_bad : (k : ℕ) (es : List SceneEntry) → Good es → bad_key k ≡ true → find (key_is k) es ≡ none
no_bad k es g b =
    none_find (key_is k) es
    (omega (arith, count_le (key_is k) bad (λ x e. ap (λ (c : Bool). c || ltb max_fields (length x.fields)) (ap bad_key (eqb-true x.key k e) ∙ b)) es, g.fine))

-- the parts of a key of the fabric that is not bad
pub record Parts (f k : ℕ) : Type 0 where
  pub e : ℕ
  pub g : ℕ
  pub s : ℕ
  pub he : e < 2 ^ 16
  pub hg : g < 2 ^ 16
  pub hs : s < 2 ^ 8
  pub plain : reserved s ≡ false
  pub is : k ≡ word_of (scene_key f e g s)

pub parts : (f k : ℕ) → fabric_of k ≡ f → bad_key k ≡ false → Parts f k
parts f k h b = record {
  e = endpoint_of k;
  g = group_of k;
  s = scene_of k;
  he = omega arith;
  hg = omega arith;
  hs = omega arith;
  plain = (fine_key k b).scene;
  is = rebuilt k ∙ ap (λ (n : ℕ). word_of (scene_key n (endpoint_of k) (group_of k) (scene_of k))) h;
}

-- lists of distinct keys in which every key of the fabric finds the same count alike
abbrev pub Finds : ℕ → List SceneEntry → List SceneEntry → Type 0
Finds f es et = (k : ℕ) → fabric_of k ≡ f → find (key_is k) es ≡ find (key_is k) et

pub counts : (f : ℕ) (es et : List SceneEntry) → Good es → Good et → Finds f es et → (q : SceneEntry → Bool) → Within f q → count q es ≡ count q et
counts f [] et g g' same q w =
    (elim (find q et) as (λ o. find q et ≡ o → 0 ≡ count q et) [
      | none ↦ λ e. sym (find_none q et e)
      | some y ↦ λ e.
          let n = find_none (key_is y.key) et (sym (same y.key (eqb-true (fabric_of y.key) f (w y (find-passes q et y e))))) in
          absurd (omega (arith, n, find-counts (key_is y.key) q et y e, ap bit (eq-eqb y.key y.key refl)))
    ]) refl
counts f (x ∷ es) et g g' same q w =
    let k = x.key in
    let rest = rest_good x es g in
    let self = eq-eqb k k refl in
    let skip : (n : ℕ) → eqb k n ≡ false → find (key_is n) (x ∷ es) ≡ find (key_is n) es = λ n d. rw d refl in
    (elim (mine f x) as (λ b. mine f x ≡ b → bit (q x) + count q es ≡ count q et) [
      | true ↦ λ m.
          let own : fabric_of k ≡ f = eqb-true (fabric_of k) f m in
          let here : find (key_is k) et ≡ some x = sym (same k own) ∙ (let y : find (key_is k) (x ∷ es) ≡ some x = rw self refl in y) in
          let et' = take_out (key_is k) et in
          let c : (p : SceneEntry → Bool) → count p et' + bit (p x) ≡ count p et = λ p. sym (ap (λ (o : Option SceneEntry). count p et' + opt p o) here) ∙ count_take_out p (key_is k) et in
          let others : Finds f es et' = λ n h.
          (elim (eqb k n) as (λ b. eqb k n ≡ b → find (key_is n) es ≡ find (key_is n) et') [
            | true ↦ λ d.
                subst (λ (u : ℕ). find (key_is u) es ≡ find (key_is u) et') (eqb-true k n d)
                (none_find (key_is k) es (omega (arith, g.once k, ap bit self)) ∙ sym (none_find (key_is k) et' (omega (arith, c (key_is k), g'.once k, ap bit self))))
            | false ↦ λ d.
                sym (skip n d) ∙ same n h ∙ sym (find-same (key_is n) et' et (g'.once n) (omega (arith, c (key_is n), ap bit d))
                (λ p. omega (arith, c (λ y. key_is n y && p y), ap (λ (b : Bool). bit (b && p x)) d)))
          ]) refl in
          omega (arith, counts f es et' rest (take_out_good (key_is k) et g') others q w, c q)
      | false ↦ λ m.
          let out : (n : ℕ) → fabric_of n ≡ f → eqb k n ≡ false = λ n h. ne_eqb k n (λ e. eqb-false (fabric_of k) f m (ap fabric_of e ∙ h)) in
          let nq : (b : Bool) → q x ≡ b → bit b ≡ 0 = λ b. elim b as (λ b. q x ≡ b → bit b ≡ 0) [ true ↦ λ e. absurd (false≢true (sym m ∙ w x e)) | false ↦ λ _. refl ] in
          omega (arith, nq (q x) refl, counts f es et rest g' (λ n h. sym (skip n (out n h)) ∙ same n h) q w)
    ]) refl

-- ---- one of n tests that no element passes, where there are fewer elements, and none passes two of them

module _ {A : Type 0} where
  without : (p : A → Bool) (xs : List A) → count (λ x. not (p x) && true) xs + count p xs ≡ length xs
  without p [] = refl
  without p (x ∷ xs) =
      elim (p x) as (λ b. bit (not b && true) + count (λ y. not (p y) && true) xs + (bit b + count p xs) ≡ suc (length xs))
      [ true ↦ omega (arith, without p xs) | false ↦ omega (arith, without p xs) ]

  module _ (h : ℕ → A → Bool) (apart : (m e : ℕ) → e < m → (x : A) → h e x ≡ true → h m x ≡ false) where
    differ : (m e : ℕ) → e < m → (x : A) → h e x ≡ (not (h m x) && h e x)
    differ m e l x =
        (elim (h e x) as (λ b. h e x ≡ b → b ≡ (not (h m x) && b)) [
          | true ↦ λ p. sym (rw (apart m e l x p) refl)
          | false ↦ λ p. sym (and_false (not (h m x)))
        ]) refl

    pub fresh : (n : ℕ) (xs : List A) → length xs < n → (e : ℕ) × (e < n) × (count (h e) xs ≡ 0)
    fresh zero xs l = absurd (omega arith)
    fresh (suc n) xs l =
        let hit = h n in
        let ys = keep (λ x. not (hit x)) xs in
        (elim (eqb (count hit xs) 0) as (λ b. eqb (count hit xs) 0 ≡ b → (e : ℕ) × (e < suc n) × (count (h e) xs ≡ 0)) [
          | true ↦ λ z. (n, omega arith, eqb-true (count hit xs) 0 z)
          | false ↦ λ z.
              let less : length ys < n = omega (arith, length-count ys, count-keep (λ _. true) (λ x. not (hit x)) xs, without hit xs, eqb-false (count hit xs) 0 z) in
              let r : (e : ℕ) × (e < n) × (count (h e) ys ≡ 0) = fresh n ys less in (
                r.0,
                omega arith,
                count_ext (h r.0) (λ x. not (hit x) && h r.0 x) (differ n r.0 r.1) xs ∙ sym (count-keep (h r.0) (λ x. not (hit x)) xs) ∙ r.2,
              )
        ]) refl

-- a key of the fabric that no entry has: group 0, scene 1, some endpoint below n
abbrev pub probe : ℕ → ℕ → ℕ
probe f e = word_of (scene_key f e 0 1)

pub fresh_key : (f n : ℕ) (es : List SceneEntry) → length es < n → (e : ℕ) × (e < n) × (count (key_is (probe f e)) es ≡ 0)
fresh_key f = fresh (λ e. key_is (probe f e)) (λ m e l x h. let p = eqb-true x.key (probe f e) h in ne_eqb x.key (probe f m) (λ q. omega arith))

-- ---- info

-- what is told of the record, 0 without one
abbrev pub told : (ℕ → ℕ) → Option ℕ → ℕ
told part none = 0
told part (some w) = part w

module _ (f e : ℕ) (v : View) where
  abbrev n : ℕ
  n = count (holds (endpoint_keys f e)) v.entries

  info_at : (i : ℕ) (part : ℕ → ℕ) → ((m left : ℕ) (o : Option ℕ) → get_or (row m left f o) i 0 ≡ told part o) → get_or (info_out f e v).values i 0 ≡ told part (current_in f v)
  info_at i part h = go (current_in f v)
    where
      go : (o : Option ℕ) → get_or (cond (eqb n 0 && not (found o)) (shown []) (shown (row n (remaining_in f v) f o))).values i 0 ≡ told part o
      go none = cond_elim (λ (a : Answer). get_or a.values i 0 ≡ 0) (eqb n 0 && true) (λ _. refl) (λ _. h n (remaining_in f v) none)
      go (some w) = rw (and_false (eqb n 0)) (h n (remaining_in f v) (some w))

  pub info-group : get_or (info_out f e v).values 1 0 ≡ told (λ w. group_of (key_of_record w)) (current_in f v)
  info-group = info_at 1 (λ w. group_of (key_of_record w)) (λ m left o. elim o as (λ o. get_or (row m left f o) 1 0 ≡ told (λ w. group_of (key_of_record w)) o) [ none ↦ refl | some w ↦ refl ])

  pub info-scene : get_or (info_out f e v).values 2 0 ≡ told (λ w. scene_of (key_of_record w)) (current_in f v)
  info-scene = info_at 2 (λ w. scene_of (key_of_record w)) (λ m left o. elim o as (λ o. get_or (row m left f o) 2 0 ≡ told (λ w. scene_of (key_of_record w)) o) [ none ↦ refl | some w ↦ refl ])

  pub info-valid : get_or (info_out f e v).values 3 0 ≡ told (λ w. bit (is_valid w)) (current_in f v)
  info-valid = info_at 3 (λ w. bit (is_valid w)) (λ m left o. elim o as (λ o. get_or (row m left f o) 3 0 ≡ told (λ w. bit (is_valid w)) o) [ none ↦ refl | some w ↦ refl ])

-- a record has a scene other than 0
pub scene_one : (f : ℕ) (v : View) → Inv v → (w : ℕ) → current_in f v ≡ some w → 1 ≤ scene_of (key_of_record w)
scene_one f v i w c =
    let b : bad_record w ≡ false = bit_zero (bad_record w) (omega (arith, find-counts bad_record (of_fabric f) v.records w c, i.records)) in
    omega (arith, eqb-false (scene_of (key_of_record w)) 0 (or_none _ _ (fine_record w b).scene).0)
