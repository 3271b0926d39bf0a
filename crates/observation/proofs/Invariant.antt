-- What holds of every view that calls reach: each key once, no entry and no record with scene 0 or 255 or with an unsound word, one record
-- of a fabric at most, and no more of them than places. Each change of a view keeps it. Assumes nothing.
use Prim.Native.Nat.{ℕ, ◌+◌, ◌^◌, ◌≤◌, ◌<◌, zero-le}
use native.Mathlib.Omega.{arith}
use mathlib.Core.Path.{◌≡◌, refl, sym, ap, ap₂, ◌∙◌, subst}
use mathlib.Core.Bool.{Bool, true, false, not, ◌||◌}
use mathlib.Core.List.{List, [], ◌∷◌}
use lib.ListN.{length, length-map}
use lib.Dec.{leb, ltb, eqb}
use borrow.Author.Tests.{ltb-true, ltb-false, leb-true, eqb-true, lt-ltb, le-leb, le-ltb, not-false}
use Rattle.words.specs.Constants.{max_scenes, max_fields}
use Rattle.requests.specs.Requests.{reserved}
use Rattle.words.specs.Words.{word_of, fabric_of, scene_of, key_of_record, valid_record}
use Rattle.words.proofs.Tests.{and_left, and_right, and_intro}
use Rattle.words.specs.declared.SceneKey.{SceneKey}
use Rattle.slots.specs.Slots.{SceneEntry, key_sound}
use Rattle.records.specs.declared.Scope.{Scope}
use Rattle.records.specs.Records.{record_sound, hits, cleared}
use Rattle.observation.specs.Lists.{bit, count, keep}
use Rattle.observation.specs.Calls.{scene_key}
use Rattle.observation.specs.Equivalence.{key_is, mine, of_fabric}
use Rattle.observation.proofs.Lists.{has, put, take_out}
use Rattle.observation.proofs.Changes.{View, room_in, places_in, record_fits_in, place_for, entries_set, written, invalidated, remembered, written_all}
use Rattle.observation.proofs.Counts.{count_ext, count-put, count_take_out, count_map}
use Rattle.observation.proofs.Choices.{cond_elim, or_none, or_other, bit_zero, count_less, count_keep_le, length_put_has, less_keep, put-once}
use Rattle.observation.proofs.Places.{room-free}
use Rattle.observation.proofs.Bits.{key-fabric, key-scene, key_small, record_key, low_key, cleared-key}

-- ---- words

abbrev pub bad_key : ℕ → Bool
bad_key k = reserved (scene_of k) || not (key_sound k)

abbrev pub bad : SceneEntry → Bool
bad x = bad_key x.key || ltb max_fields (length x.fields)

abbrev pub bad_record : ℕ → Bool
bad_record w = reserved (scene_of (key_of_record w)) || not (record_sound w)

pub record FineKey (k : ℕ) : Type 0 where
  pub scene : reserved (scene_of k) ≡ false
  pub small : k < 2 ^ 48
  pub fabric : 1 ≤ fabric_of k

pub record FineRecord (w : ℕ) : Type 0 where
  pub scene : reserved (scene_of (key_of_record w)) ≡ false
  pub small : w < 2 ^ 49
  pub fabric : 1 ≤ fabric_of (key_of_record w)

pub fine_key : (k : ℕ) → bad_key k ≡ false → FineKey k
fine_key k e =
    let a = or_none (reserved (scene_of k)) (not (key_sound k)) e in
    let b = not-false (key_sound k) a.1 in
    record {
      scene = a.0;
      small = ltb-true k (2 ^ 48) (and_left (ltb k (2 ^ 48)) (leb 1 (fabric_of k)) b);
      fabric = leb-true 1 (fabric_of k) (and_right (ltb k (2 ^ 48)) (leb 1 (fabric_of k)) b);
    }

pub key_fine : (k : ℕ) → FineKey k → bad_key k ≡ false
key_fine k h = ap₂ (λ (a b : Bool). a || not b) h.scene (and_intro _ _ (lt-ltb k (2 ^ 48) h.small) (le-leb 1 (fabric_of k) h.fabric))

pub fine_record : (w : ℕ) → bad_record w ≡ false → FineRecord w
fine_record w e =
    let a = or_none (reserved (scene_of (key_of_record w))) (not (record_sound w)) e in
    let b = not-false (record_sound w) a.1 in
    record {
      scene = a.0;
      small = ltb-true w (2 ^ 49) (and_left (ltb w (2 ^ 49)) (leb 1 (fabric_of (key_of_record w))) b);
      fabric = leb-true 1 (fabric_of (key_of_record w)) (and_right (ltb w (2 ^ 49)) (leb 1 (fabric_of (key_of_record w))) b);
    }

record_fine : (w : ℕ) → FineRecord w → bad_record w ≡ false
record_fine w h =
    ap₂ (λ (a b : Bool). a || not b) h.scene (and_intro _ _ (lt-ltb w (2 ^ 49) h.small) (le-leb 1 (fabric_of (key_of_record w)) h.fabric))

-- the key word of a fabric other than 0 and of a scene that may be named
pub named_fine : (f e g s : ℕ) → f < 2 ^ 8 → e < 2 ^ 16 → g < 2 ^ 16 → s < 2 ^ 8 → 1 ≤ f → reserved s ≡ false → FineKey (word_of (scene_key f e g s))
named_fine f e g s hf he hg hs nf r = record {
  scene = ap reserved (key-scene f e g s hf he hg hs) ∙ r;
  small = key_small f e g s hf he hg hs;
  fabric = omega (arith, key-fabric f e g s hf he hg hs);
}

pub entry_fine : (x : SceneEntry) → FineKey x.key → length x.fields ≤ max_fields → bad x ≡ false
entry_fine x h l = ap₂ ◌||◌ (key_fine x.key h) (le-ltb max_fields (length x.fields) l)

pub fine_entry : (x : SceneEntry) → bad x ≡ false → FineKey x.key × (length x.fields ≤ max_fields)
fine_entry x e =
    let a = or_none (bad_key x.key) (ltb max_fields (length x.fields)) e in
    (fine_key x.key a.0, ltb-false max_fields (length x.fields) a.1)

-- ---- lists of entries

pub record Good (es : List SceneEntry) : Type 0 where
  pub once : (k : ℕ) → count (key_is k) es ≤ 1
  pub fine : count bad es ≡ 0

pub put_good : (x : SceneEntry) (es : List SceneEntry) → bad x ≡ false → Good es → Good (put (key_is x.key) x es)
put_good x es nb g = record {
  once = λ k.
      (elim (eqb x.key k) as (λ b. eqb x.key k ≡ b → count (key_is k) (put (key_is x.key) x es) ≤ 1) [
        | true ↦ λ e. subst (λ (j : ℕ). count (key_is j) (put (key_is x.key) x es) ≤ 1) (eqb-true x.key k e) (put-once (key_is x.key) x es (g.once x.key))
        | false ↦ λ e. omega (arith, count-put (key_is k) (key_is x.key) x es, ap bit e, g.once k)
      ]) refl;
  fine = omega (arith, count-put bad (key_is x.key) x es, ap bit nb, g.fine);
}

pub take_out_good : (h : SceneEntry → Bool) (es : List SceneEntry) → Good es → Good (take_out h es)
take_out_good h es g = record {
  once = λ k. omega (arith, count_take_out (key_is k) h es, g.once k);
  fine = omega (arith, count_take_out bad h es, g.fine);
}

pub keep_good : (r : SceneEntry → Bool) (es : List SceneEntry) → Good es → Good (keep r es)
keep_good r es g = record { once = λ k. omega (arith, count_keep_le (key_is k) r es, g.once k); fine = omega (arith, count_keep_le bad r es, g.fine) }

pub rest_good : (x : SceneEntry) (es : List SceneEntry) → Good (x ∷ es) → Good es
rest_good x es g = record { once = λ k. omega (arith, g.once k); fine = omega (arith, g.fine) }

-- ---- views

pub record Inv (v : View) : Type 0 where
  pub small : v.size ≤ max_scenes
  pub room : length v.entries ≤ v.size
  pub held : length v.records ≤ v.size
  pub good : Good v.entries
  pub one : (f : ℕ) → count (of_fabric f) v.records ≤ 1
  pub records : count bad_record v.records ≡ 0

pub empty_inv : (n m d : ℕ) → n ≤ max_scenes → Inv (record { size = n; modes = m; dataver = d; entries = []; records = [] })
empty_inv n m d h = record { small = h; room = zero-le; held = zero-le; good = record { once = λ k. zero-le; fine = refl }; one = λ f. zero-le; records = refl }

-- entries that fit
pub entries_inv : (es : List SceneEntry) (v : View) → length es ≤ v.size → Good es → Inv v → Inv (entries_set es v)
entries_inv es v l g i = record { small = i.small; room = l; held = i.held; good = g; one = i.one; records = i.records }

pub shrunk_inv : (es : List SceneEntry) (v : View) → length es ≤ length v.entries → Good es → Inv v → Inv (entries_set es v)
shrunk_inv es v l g i = entries_inv es v (omega (arith, i.room)) g i

-- a write that has a place
pub put-room : (x : SceneEntry) (v : View) → (has (key_is x.key) v.entries ≡ false → length v.entries < v.size)
    → length v.entries ≤ v.size → length (put (key_is x.key) x v.entries) ≤ v.size
put-room x v place r =
    (elim (has (key_is x.key) v.entries) as (λ b. has (key_is x.key) v.entries ≡ b → length (put (key_is x.key) x v.entries) ≤ v.size) [
      | true ↦ λ e. omega (arith, length_put_has (key_is x.key) x v.entries, ap bit e)
      | false ↦ λ e. omega (arith, length_put_has (key_is x.key) x v.entries, ap bit e, place e)
    ]) refl

pub placed : (f k : ℕ) (v : View) → place_for f k v ≡ true → has (key_is k) v.entries ≡ false → 0 < places_in f v
placed f k v e n = ltb-true 0 (places_in f v) (or_other (has (key_is k) v.entries) (ltb 0 (places_in f v)) e n)

pub written_inv : (x : SceneEntry) (v : View) → bad x ≡ false → (has (key_is x.key) v.entries ≡ false → length v.entries < v.size) → Inv v → Inv (written x v)
written_inv x v nb place i = entries_inv (put (key_is x.key) x v.entries) v (put-room x v place i.room) (put_good x v.entries nb i.good) i

cleared_fine : (scope : Scope) (w : ℕ) → bad_record w ≡ false → bad_record (cleared scope w) ≡ false
cleared_fine scope w nb =
    cond_elim (λ (u : ℕ). bad_record u ≡ false) (hits scope w)
    (λ _.
    let h = fine_record w nb in
    record_fine (key_of_record w) (record { scene = ap (λ (k : ℕ). reserved (scene_of k)) (low_key w) ∙ h.scene; small = omega arith; fabric = omega (arith, h.fabric, low_key w) }))
    (λ _. nb)

pub invalidated_inv : (scope : Scope) (v : View) → Inv v → Inv (invalidated scope v)
unfolding invalidated
invalidated_inv scope v i = record {
  small = i.small;
  room = i.room;
  held = omega (arith, length-map v.records (cleared scope), i.held);
  good = i.good;
  one = λ f.
      omega (arith, count_map (of_fabric f) (cleared scope) v.records, count_ext (λ w. of_fabric f (cleared scope w)) (of_fabric f) (λ w. ap (λ (k : ℕ). eqb (fabric_of k) f) (cleared-key scope w)) v.records, i.one f);
  records = count_map bad_record (cleared scope) v.records ∙ count_less bad_record (λ w. bad_record (cleared scope w)) (cleared_fine scope) v.records i.records;
}

-- the record word of a fine key word
pub valid_fine : (k : ℕ) → FineKey k → FineRecord (k + 2 ^ 48)
valid_fine k h =
    let e = record_key k h.small in
    record { scene = ap (λ (n : ℕ). reserved (scene_of n)) e ∙ h.scene; small = omega (arith, h.small); fabric = omega (arith, h.fabric, e) }

module _ (key : SceneKey) (fine : FineKey (word_of key)) (own : fabric_of (word_of key) ≡ key.fabric) where
  pub valid-own : fabric_of (key_of_record (valid_record key)) ≡ key.fabric
  valid-own = ap fabric_of (record_key (word_of key) fine.small) ∙ own

  put_one : (f : ℕ) (rs : List ℕ) → ((n : ℕ) → count (of_fabric n) rs ≤ 1) → count (of_fabric f) (put (of_fabric key.fabric) (valid_record key) rs) ≤ 1
  put_one f rs one =
      (elim (of_fabric f (valid_record key)) as (λ b. of_fabric f (valid_record key) ≡ b → count (of_fabric f) (put (of_fabric key.fabric) (valid_record key) rs) ≤ 1) [
        | true ↦ λ e.
            subst (λ (n : ℕ). count (of_fabric n) (put (of_fabric key.fabric) (valid_record key) rs) ≤ 1) (sym valid-own ∙ eqb-true _ f e)
            (put-once (of_fabric key.fabric) (valid_record key) rs (one key.fabric))
        | false ↦ λ e. omega (arith, count-put (of_fabric f) (of_fabric key.fabric) (valid_record key) rs, ap bit e, one f)
      ]) refl

  pub remembered_inv : (v : View) → Inv v → Inv (remembered key v)
  unfolding remembered
  remembered_inv v i =
      let h = of_fabric key.fabric in
      let w = valid_record key in
      record {
        small = i.small;
        room = i.room;
        held =
            cond_elim (λ (l : List ℕ). length l ≤ v.size) (has h v.records || record_fits_in v)
            (λ e.
            (elim (has h v.records) as (λ b. has h v.records ≡ b → length (put h w v.records) ≤ v.size) [
              | true ↦ λ q. omega (arith, length_put_has h w v.records, ap bit q, i.held)
              | false ↦ λ q. omega (arith, length_put_has h w v.records, ap bit q, ltb-true (length v.records) v.size (or_other (has h v.records) (record_fits_in v) e q))
            ]) refl)
            (λ _. i.held);
        good = i.good;
        one = λ f. cond_elim (λ (l : List ℕ). count (of_fabric f) l ≤ 1) (has h v.records || record_fits_in v) (λ _. put_one f v.records i.one) (λ _. i.one f);
        records =
            cond_elim (λ (l : List ℕ). count bad_record l ≡ 0) (has h v.records || record_fits_in v)
            (λ _. omega (arith, count-put bad_record h w v.records, ap bit (record_fine w (valid_fine (word_of key) fine)), i.records)) (λ _. i.records);
      }

-- ---- writes in turn

pub written_all_inv : (f : ℕ) (xs : List SceneEntry) (v : View) → count bad xs ≡ 0 → Inv v → Inv (written_all f xs v).1
unfolding written_all
written_all_inv f [] v nb i = i
written_all_inv f (x ∷ xs) v nb i =
    let here = has (key_is x.key) v.entries in
    let more = ltb 0 (room_in f v) in
    cond_elim (λ (o : Bool × View). Inv o.1) (here || more)
    (λ e.
    written_all_inv f xs (written x v) (omega arith)
    (written_inv x v (bit_zero (bad x) (omega arith)) (λ n. room-free f v (ltb-true 0 (room_in f v) (or_other here more e n))) i))
    (λ _. i)

-- a fabric's entries and records gone
pub dropped_inv : (d f : ℕ) (v : View) → Inv v
    → Inv (record { size = v.size; modes = v.modes; dataver = d; entries = keep (λ x. not (mine f x)) v.entries; records = keep (λ w. not (of_fabric f w)) v.records })
dropped_inv d f v i = record {
  small = i.small;
  room = omega (arith, less_keep (λ x. not (mine f x)) v.entries, i.room);
  held = omega (arith, less_keep (λ w. not (of_fabric f w)) v.records, i.held);
  good = keep_good (λ x. not (mine f x)) v.entries i.good;
  one = λ n. omega (arith, count_keep_le (of_fabric n) (λ w. not (of_fabric f w)) v.records, i.one n);
  records = omega (arith, count_keep_le bad_record (λ w. not (of_fabric f w)) v.records, i.records);
}
