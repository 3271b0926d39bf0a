-- What a load that nothing refuses leaves has the invariant of reached tables: number 10 is that invariant. Assumes nothing.
use Prim.Native.Nat.{ℕ, zero, suc, ◌+◌, ◌^◌, ◌≤◌, ◌<◌}
use mathlib.Core.Path.{◌≡◌, refl, sym, ap, subst, ◌∙◌}
use mathlib.Core.Bool.{Bool, true, false, cond, false≢true}
use mathlib.Core.List.{List, [], ◌∷◌, map}
use native.Mathlib.Omega.{arith}
use lib.Dec.{eqb, leb}
use lib.ListN.{length, get_or, length-map, get_or-map}
use lib.Seq.{take_all}
use borrow.Author.Tests.{eqb-true, eqb-false, leb-true, leb-false, le-ltb}
use Rattle.std.proofs.Common.{Some}
use Rattle.words.specs.Constants.{max_scenes, max_fields}
use Rattle.words.specs.Words.{fabric_of, scene_of, key_of_record}
use Rattle.words.specs.Below.{positions, any_below, count_below}
use Rattle.std.specs.Prelude.{Option, Some, None, is_some}
use Rattle.words.proofs.Tests.{and_left, and_right, neither_left, neither_right}
use Rattle.words.proofs.Below.{first_nothing}
use Rattle.slots.specs.Slots.{SceneEntry, key_sound, first_key}
use Rattle.records.specs.Records.{record_sound, first_owned}
use Rattle.requests.specs.Requests.{reserved}
use Rattle.image_reader.specs.Image.{Image, image_in}
use Rattle.image_gate.specs.Verdict.{key_clashes, keys_clash, record_clashes, records_clash, keys_of, clashes}
use Rattle.image_load.proofs.Restoring.{each, short}
use Rattle.image_load.proofs.Decoding.{image_decoded}
use Rattle.observation.specs.Lists.{bit, count}
use Rattle.observation.specs.Calls.{Bytes}
use Rattle.observation.specs.Equivalence.{key_is, of_fabric}
use Rattle.observation.proofs.Counts.{count_map}
use Rattle.observation.proofs.Firsts.{count_nowhere}
use Rattle.observation.proofs.Positions.{count-positions, view-list}
use Rattle.observation.proofs.Invariant.{bad, bad_record, Good, Inv}

-- ---- tests at positions

any_at : (p : ℕ → Bool) (n i : ℕ) → i < n → any_below p n ≡ false → p i ≡ false
unfolding any_below
any_at p zero i l e = absurd (omega arith)
any_at p (suc n) i l e =
    (elim (eqb i n) as (λ b. eqb i n ≡ b → p i ≡ false) [
      | true ↦ λ q. ap p (eqb-true i n q) ∙ neither_right (any_below p n) (p n) e
      | false ↦ λ q. let z = eqb-false i n q in any_at p n i (omega arith) (neither_left (any_below p n) (p n) e)
    ]) refl

none_below : (q : ℕ → Bool) (n : ℕ) → ((j : ℕ) → j < n → q j ≡ false) → count_below q n ≡ 0
unfolding count_below
none_below q zero h = refl
none_below q (suc n) h = rw (h n (omega arith)) (none_below q n (λ j l. h j (omega arith)))

-- a test that fails everywhere before a place where it holds holds at most once
once_below : (q : ℕ → Bool) (n : ℕ) → ((i : ℕ) → i < n → q i ≡ true → (j : ℕ) → j < i → q j ≡ false) → count_below q n ≤ 1
unfolding count_below
once_below q zero h = omega arith
once_below q (suc n) h =
    (elim (q n) as (λ b. q n ≡ b → cond b (suc (count_below q n)) (count_below q n) ≤ 1) [
      | true ↦ λ e. omega (arith, none_below q n (h n (omega arith) e))
      | false ↦ λ e. once_below q n (λ i l. h i (omega arith))
    ]) refl

not_found_lem : (f : Option ℕ) → is_some f ≡ false → f ≡ None
not_found_lem (Some p) e = absurd (false≢true (sym e))
not_found_lem None e = refl

-- how often a test holds of a list, by its positions
count-list : (p : ℕ → Bool) (l : List ℕ) → count p l ≡ count_below (λ i. p (get_or l i 0)) (length l)
count-list p l =
    ap (count p) (sym (view-list l (length l) (omega arith) ∙ take_all (length l) l (omega arith)))
    ∙ count_map p (λ i. get_or l i 0) (positions (length l))
    ∙ sym (count-positions (λ i. p (get_or l i 0)) (length l))

module _ {A : Type 0} (d : A) where
  pub each_at : (p : A → Bool) (xs : List A) (i : ℕ) → i < length xs → each p xs ≡ true → p (get_or xs i d) ≡ true
  unfolding each
  each_at p [] i l e = absurd (omega arith)
  each_at p (x ∷ xs) zero l e = and_left (p x) (each p xs) e
  each_at p (x ∷ xs) (suc i) l e = each_at p xs i (omega arith) (and_right (p x) (each p xs) e)

-- bytes are below 256
pub bytes_below : (bs : List ℕ) → Bytes bs → (i : ℕ) → get_or bs i 0 < 2 ^ 8
bytes_below [] h i = omega arith
bytes_below (b ∷ bs) h zero =
    (elim (leb (2 ^ 8) b) as (λ c. leb (2 ^ 8) b ≡ c → bit c + count (λ x. leb (2 ^ 8) x) bs ≡ 0 → b < 2 ^ 8) [
      | true ↦ λ q e. absurd (omega arith)
      | false ↦ λ q e. leb-false (2 ^ 8) b q
    ]) refl h
bytes_below (b ∷ bs) h (suc i) = bytes_below bs (omega (arith, h)) i

-- ---- the lists of an image

abbrev no_entry : SceneEntry
no_entry = record { key = 0; time = 0; fields = [] }

module _ (es : List SceneEntry) (unclashed : keys_clash (map (λ (e : SceneEntry). e.key) es) ≡ false) where
  abbrev keys : List ℕ
  keys = map (λ (e : SceneEntry). e.key) es

  key-unclashed : (i : ℕ) → i < length keys → key_clashes keys i ≡ false
  unfolding keys_clash
  key-unclashed i l = any_at (key_clashes keys) (length keys) i l unclashed

  keys-once : (k : ℕ) → count (λ x. eqb x k) keys ≤ 1
  unfolding first_key
  keys-once k =
      subst (λ (n : ℕ). n ≤ 1) (sym (count-list (λ x. eqb x k) keys))
      (once_below (λ i. eqb (get_or keys i 0) k) (length keys) (λ i l e j m.
      let here = not_found_lem _ (neither_right (reserved (scene_of (get_or keys i 0))) _ (key-unclashed i l)) in
      ap (eqb (get_or keys j 0)) (sym (eqb-true (get_or keys i 0) k e)) ∙ first_nothing _ i here j m))

  entries-once : (k : ℕ) → count (key_is k) es ≤ 1
  entries-once k = subst (λ (n : ℕ). n ≤ 1) (count_map (λ x. eqb x k) (λ (e : SceneEntry). e.key) es) (keys-once k)

  module _ (shorts : each short es ≡ true) (sounds : each (λ (e : SceneEntry). key_sound e.key) es ≡ true) where
    entries_fine : count bad es ≡ 0
    entries_fine = count_nowhere no_entry bad es (λ i l.
        let m : i < length keys = omega (arith, l, length-map es (λ (e : SceneEntry). e.key)) in
        let r = neither_left (reserved (scene_of (get_or keys i 0))) _ (key-unclashed i m) in
        let s = each_at no_entry (λ (e : SceneEntry). key_sound e.key) es i l sounds in
        let f = leb-true (length (get_or es i no_entry).fields) max_fields (each_at no_entry short es i l shorts) in
        let q = get_or-map (λ (e : SceneEntry). e.key) es i no_entry in
        rw (ap (λ (k : ℕ). reserved (scene_of k)) (sym q) ∙ r, s, le-ltb max_fields (length (get_or es i no_entry).fields) f))

    pub entries_good : Good es
    entries_good = record { once = entries-once; fine = entries_fine }

module _ (rs : List ℕ) (unclashed : records_clash rs ≡ false) where
  record_unclashed : (i : ℕ) → i < length rs → record_clashes rs i ≡ false
  unfolding records_clash
  record_unclashed i l = any_at (record_clashes rs) (length rs) i l unclashed

  pub records-once : (f : ℕ) → count (of_fabric f) rs ≤ 1
  unfolding first_owned
  records-once f =
      subst (λ (n : ℕ). n ≤ 1) (sym (count-list (of_fabric f) rs))
      (once_below (λ i. of_fabric f (get_or rs i 0)) (length rs) (λ i l e j m.
      let here = not_found_lem _ (neither_right (reserved (scene_of (key_of_record (get_or rs i 0)))) _ (record_unclashed i l)) in
      ap (eqb (fabric_of (key_of_record (get_or rs j 0)))) (sym (eqb-true (fabric_of (key_of_record (get_or rs i 0))) f e)) ∙ first_nothing _ i here j m))

  pub records_fine : each record_sound rs ≡ true → count bad_record rs ≡ 0
  records_fine sounds = count_nowhere 0 bad_record rs (λ i l.
      let r = neither_left (reserved (scene_of (key_of_record (get_or rs i 0)))) _ (record_unclashed i l) in
      rw (r, each_at 0 record_sound rs i l sounds))

-- ---- the view

pub loaded_inv : (n m d : ℕ) (image : List ℕ) (i : Image) → n ≤ max_scenes → Bytes image → image_in n image ≡ Some i → clashes i ≡ false
    → Inv (record { size = n; modes = m; dataver = d; entries = i.entries; records = i.records })
loaded_inv n m d image i small bytes e c =
    let h = image_decoded image (bytes_below image bytes) n i e in
    let ks = neither_left (keys_clash (keys_of i)) (records_clash i.records) c in
    let ws = neither_right (keys_clash (keys_of i)) (records_clash i.records) c in
    record {
      small = small;
      room = h.entries_few;
      held = h.records_few;
      good = entries_good i.entries ks h.fields-short h.keys-sound;
      one = records-once i.records ws;
      records = records_fine i.records ws h.records-sound;
    }
