-- The simulation: two views alike to a fabric, what follows for its lookups and counts, and which changes keep them alike. Assumes nothing.
use Prim.Native.Nat.{ℕ, ◌+◌, ◌≤◌, ◌<◌}
use native.Mathlib.Omega.{arith}
use native.Mathlib.Decide.{ℕ_discrete}
use mathlib.Core.Path.{◌≡◌, refl, sym, ap, ap₂, ◌∙◌, subst}
use mathlib.Core.Bool.{Bool, true, false, cond, ◌&&◌, ◌||◌, false≢true}
use mathlib.Core.List.{List, List-discrete}
use mathlib.Core.Option.{Option, none, some, map, none-ne-some, some-ne-none, some-injective}
use lib.ListN.{length-map}
use lib.Dec.{ltb, eqb}
use borrow.Author.Tests.{eqb-true, eq-eqb}
use Rattle.words.specs.Words.{word_of, fabric_of, endpoint_of, group_of, scene_of, key_of_record, is_valid, valid_record}
use Rattle.words.specs.declared.SceneKey.{SceneKey}
use Rattle.words.specs.declared.GroupKey.{GroupKey}
use Rattle.slots.specs.Slots.{SceneEntry}
use Rattle.records.specs.declared.Scope.{Scope}
use Rattle.records.specs.declared.Scope.TheVariants.{Scene, Group, Endpoint}
use Rattle.records.specs.Records.{in_scope, cleared}
use Rattle.observation.specs.Lists.{bit, count, find, keep}
use Rattle.observation.specs.Equivalence.{key_is, mine, of_fabric, SeenRecord, seen}
use Rattle.observation.proofs.Lists.{found, has, put, take_out}
use Rattle.observation.proofs.Changes.{View, used_in, room_in, share_in, places_in, current_in, record_fits_in, place_for, entries_set, written, invalidated, remembered}
use Rattle.observation.proofs.Counts.{both, opt, count_le, count-put, count_take_out, count-keep, find-passes, find-counts, find_none, none_find, find_one, find-map, find-put, length-put, length_take_out, length-keep}
use Rattle.observation.proofs.Choices.{lost, count_has, less_take_out, count_keep_le, less_keep}
use Rattle.observation.proofs.Bits.{low_key, low_invalid, cleared-key}
use Rattle.observation.proofs.Places.{room-same, places-free, Changed, changed_places, changed_alive, places-invalidated, places_remembered}
use Rattle.observation.proofs.Invariant.{FineKey, Good, Inv, put-room, valid-own}

-- a test that looks at the fabric's entries only
abbrev pub Within : ℕ → (SceneEntry → Bool) → Type 0
Within f q = (x : SceneEntry) → q x ≡ true → mine f x ≡ true

pub record Sim (f : ℕ) (v w : View) : Type 0 where
  pub size : v.size ≡ w.size
  pub share : share_in v ≡ share_in w
  pub places : places_in f v ≡ places_in f w
  pub scenes : (q : SceneEntry → Bool) → Within f q → count q v.entries ≡ count q w.entries
  pub recorded : map seen (current_in f v) ≡ map seen (current_in f w)
  pub one_more : current_in f v ≡ none → 0 < used_in f v + places_in f v → record_fits_in v ≡ record_fits_in w

-- ---- the same entry

abbrev says : {P : Type 0} → Dec P → Bool
says (yes p) = true
says (no n) = false

says_true : {P : Type 0} (d : Dec P) → says d ≡ true → P
says_true (yes p) e = p
says_true (no n) e = absurd (false≢true e)

true_says : {P : Type 0} (d : Dec P) → P → says d ≡ true
true_says (yes p) q = refl
true_says (no n) q = absurd (n q)

abbrev pub same_entry : SceneEntry → SceneEntry → Bool
same_entry y x = eqb x.key y.key && (eqb x.time y.time && says (List-discrete ℕ_discrete x.fields y.fields))

pub same-entry : (y x : SceneEntry) → same_entry y x ≡ true → x ≡ y
same-entry y x e =
    let a = both (eqb x.key y.key) (eqb x.time y.time && says (List-discrete ℕ_discrete x.fields y.fields)) e in
    let b = both (eqb x.time y.time) (says (List-discrete ℕ_discrete x.fields y.fields)) a.1 in
    let p = eqb-true x.key y.key a.0 in
    let q = eqb-true x.time y.time b.0 in
    let r = says_true (List-discrete ℕ_discrete x.fields y.fields) b.1 in
    λ i. record { key = p i; time = q i; fields = r i }

pub entry-same : (y : SceneEntry) → same_entry y y ≡ true
entry-same y = rw (eq-eqb y.key y.key refl, eq-eqb y.time y.time refl) (true_says (List-discrete ℕ_discrete y.fields y.fields) refl)

-- the entry found, from counts: one passes h at most
pub find-same : (h : SceneEntry → Bool) (es et : List SceneEntry) → count h et ≤ 1 → count h es ≡ count h et
    → ((p : SceneEntry → Bool) → count (λ x. h x && p x) es ≡ count (λ x. h x && p x) et) → find h es ≡ find h et
find-same h es et once n same =
    (elim (find h es) as (λ o. find h es ≡ o → o ≡ find h et) [
      | none ↦ λ e. sym (none_find h et (sym n ∙ find_none h es e))
      | some y ↦ λ e.
          let p : SceneEntry → Bool = λ x. h x && same_entry y x in
          let one : bit (p y) ≡ 1 = ap₂ (λ (b c : Bool). bit (b && c)) (find-passes h es y e) (entry-same y) in
          sym (find_one h (same_entry y) y (same-entry y) et once (omega (arith, same (same_entry y), find-counts p h es y e)))
    ]) refl

pub key-within : (f k : ℕ) → fabric_of k ≡ f → Within f (key_is k)
key-within f k h x e = eq-eqb (fabric_of x.key) f (ap fabric_of (eqb-true x.key k e) ∙ h)

-- a fabric with a scene has it among its entries
pub used-found : (f k : ℕ) (v : View) → fabric_of k ≡ f → has (key_is k) v.entries ≡ true → 1 ≤ used_in f v
used-found f k v h e = omega (arith, count_has (key_is k) v.entries e, count_le (key_is k) (mine f) (key-within f k h) v.entries)

-- ---- what is read

-- a write of the fabric, as a change of its entries
put_changed : {f : ℕ} (x : SceneEntry) (u : View) → fabric_of x.key ≡ f → Inv u → (has (key_is x.key) u.entries ≡ false → 0 < places_in f u)
    → Changed f (put (key_is x.key) x u.entries) u
put_changed {f} x u h s place = record {
  own = length-put (mine f) (key_is x.key) x (eq-eqb (fabric_of x.key) f h) (key-within f x.key h) u.entries;
  before = s.room;
  after = put-room x u (λ n. places-free f u (place n)) s.room;
}

module _ (f : ℕ) (v w : View) (a : Sim f v w) where
  pub sim_find : (k : ℕ) → fabric_of k ≡ f → Good w.entries → find (key_is k) v.entries ≡ find (key_is k) w.entries
  sim_find k h g =
      find-same (key_is k) v.entries w.entries (g.once k) (a.scenes (key_is k) (key-within f k h))
      (λ p. a.scenes (λ x. key_is k x && p x) (λ x e. key-within f k h x (both (key_is k x) (p x) e).0))

  pub sim_used : used_in f v ≡ used_in f w
  sim_used = a.scenes (mine f) (λ x e. e)

  pub sim_room : room_in f v ≡ room_in f w
  sim_room = room-same f v w a.share a.size sim_used a.places

  pub sim_place : (k : ℕ) → fabric_of k ≡ f → Good w.entries → place_for f k v ≡ place_for f k w
  sim_place k h g = λ i. found (sim_find k h g i) || ltb 0 (a.places i)

  pub sim_found : found (current_in f v) ≡ found (current_in f w)
  sim_found = keeps (current_in f v) ∙ ap found a.recorded ∙ sym (keeps (current_in f w))
    where
      keeps : (o : Option ℕ) → found o ≡ found (map seen o)
      keeps none = refl
      keeps (some u) = refl

  -- ---- entries that changed by the fabric's own only, and of which there are none where it has no scene and no place

  pub sim_entries : (es et : List SceneEntry)
      → ((q : SceneEntry → Bool) → Within f q → count q es ≡ count q et)
      → Changed f es v → Changed f et w
      → (0 < count (mine f) es → 0 < used_in f v + places_in f v)
      → Sim f (entries_set es v) (entries_set et w)
  sim_entries es et same cv cw alive =
      let used : count (mine f) es ≡ count (mine f) et = same (mine f) (λ x e. e) in
      record {
        size = a.size;
        share = a.share;
        places = changed_places f v w a.share a.size es et sim_used used cv cw a.places;
        scenes = same;
        recorded = a.recorded;
        one_more = λ n h. a.one_more n (changed_alive f v es cv alive h);
      }

  -- a write has its place: over the entry with its key, or as one more
  pub sim_put : (x : SceneEntry) → fabric_of x.key ≡ f → Inv v → Inv w → (has (key_is x.key) v.entries ≡ false → 0 < places_in f v)
      → Sim f (written x v) (written x w)
  sim_put x h i j place =
      let k = key_is x.key in
      let g = j.good in
      let own : mine f x ≡ true = eq-eqb (fabric_of x.key) f h in
      let place' : has k w.entries ≡ false → 0 < places_in f w =
      λ n. subst (λ (m : ℕ). 0 < m) a.places (place (ap found (sim_find x.key h g) ∙ n)) in
      sim_entries (put k x v.entries) (put k x w.entries)
      (λ q z. omega (arith, count-put q k x v.entries, count-put q k x w.entries, a.scenes q z, ap (opt q) (sim_find x.key h g)))
      (put_changed x v h i place) (put_changed x w h j place')
      (λ _.
      (elim (has k v.entries) as (λ b. has k v.entries ≡ b → 0 < used_in f v + places_in f v) [
        | true ↦ λ e. omega (arith, used-found f x.key v h e)
        | false ↦ λ e. omega (arith, place e)
      ]) refl)

  pub sim_take_out : (k : ℕ) → fabric_of k ≡ f → Inv v → Inv w
      → Sim f (entries_set (take_out (key_is k) v.entries) v) (entries_set (take_out (key_is k) w.entries) w)
  sim_take_out k h i j =
      let changed : (u : View) → Inv u → Changed f (take_out (key_is k) u.entries) u = λ u s.
      record {
        own = length_take_out (mine f) (key_is k) (key-within f k h) u.entries;
        before = s.room;
        after = omega (arith, s.room, less_take_out (key_is k) u.entries);
      } in
      sim_entries (take_out (key_is k) v.entries) (take_out (key_is k) w.entries)
      (λ q z. omega (arith, count_take_out q (key_is k) v.entries, count_take_out q (key_is k) w.entries, a.scenes q z, ap (opt q) (sim_find k h j.good)))
      (changed v i) (changed w j) (λ n. omega (arith, n, count_take_out (mine f) (key_is k) v.entries))

  pub sim_keep : (r : SceneEntry → Bool) → ((x : SceneEntry) → r x ≡ false → mine f x ≡ true) → Inv v → Inv w
      → Sim f (entries_set (keep r v.entries) v) (entries_set (keep r w.entries) w)
  sim_keep r h i j =
      let changed : (u : View) → Inv u → Changed f (keep r u.entries) u = λ u s.
      record { own = length-keep (mine f) r h u.entries; before = s.room; after = omega (arith, s.room, less_keep r u.entries) } in
      sim_entries (keep r v.entries) (keep r w.entries)
      (λ q z. count-keep q r v.entries ∙ a.scenes (λ x. r x && q x) (λ x e. z x (both (r x) (q x) e).1) ∙ sym (count-keep q r w.entries))
      (changed v i) (changed w j) (λ n. omega (arith, n, count_keep_le (mine f) r v.entries))

-- ---- invalidating

-- what an invalidation looks at is seen of a valid record
abbrev pub Looks : Scope → Type 0
Looks scope =
    (u w : ℕ) → fabric_of (key_of_record u) ≡ fabric_of (key_of_record w) → seen u ≡ seen w → is_valid u ≡ true → is_valid w ≡ true → in_scope scope u ≡ in_scope scope w

seen_low : (u w : ℕ) → seen u ≡ seen w → seen (key_of_record u) ≡ seen (key_of_record w)
seen_low u w e =
    let out : (n : ℕ) → seen (key_of_record n) ≡ record { group = group_of (key_of_record n); scene = scene_of (key_of_record n); valid = false; endpoint = 0 } =
    λ n i. record {
      group = group_of (low_key n i);
      scene = scene_of (low_key n i);
      valid = low_invalid n i;
      endpoint = cond (low_invalid n i) (endpoint_of (key_of_record (key_of_record n))) 0;
    } in
    out u ∙ (λ i. record { group = (e i).group; scene = (e i).scene; valid = false; endpoint = 0 }) ∙ sym (out w)

seen-cleared : (scope : Scope) → Looks scope → (u w : ℕ) → fabric_of (key_of_record u) ≡ fabric_of (key_of_record w) → seen u ≡ seen w → seen (cleared scope u) ≡ seen (cleared scope w)
seen-cleared scope look u w hf e =
    let uw : is_valid u ≡ is_valid w = ap (λ (r : SeenRecord). r.valid) e in
    (elim (is_valid u) as (λ b. is_valid u ≡ b → seen (cond (b && in_scope scope u) (key_of_record u) u) ≡ seen (cond (is_valid w && in_scope scope w) (key_of_record w) w)) [
      | true ↦ λ h.
          let h' : is_valid w ≡ true = sym uw ∙ h in
          rw (h', look u w hf e h h') (elim (in_scope scope w) as (λ b. seen (cond b (key_of_record u) u) ≡ seen (cond b (key_of_record w) w)) [ true ↦ seen_low u w e | false ↦ e ])
      | false ↦ λ h. rw (sym uw ∙ h) e
    ]) refl

pub current-invalidated : (f : ℕ) (scope : Scope) (v : View) → current_in f (invalidated scope v) ≡ map (cleared scope) (current_in f v)
unfolding invalidated
current-invalidated f scope v =
    find-map (of_fabric f) (of_fabric f) (cleared scope) (λ w. ap (λ (n : ℕ). eqb (fabric_of n) f) (cleared-key scope w)) v.records

pub fits-invalidated : (scope : Scope) (v : View) → record_fits_in (invalidated scope v) ≡ record_fits_in v
unfolding invalidated
fits-invalidated scope v = ap (λ (n : ℕ). ltb n v.size) (length-map v.records (cleared scope))

pub sim_invalidated : (f : ℕ) (scope : Scope) (v w : View) → Looks scope → Sim f v w → Sim f (invalidated scope v) (invalidated scope w)
unfolding invalidated
sim_invalidated f scope v w look a = record {
  size = a.size;
  share = a.share;
  places = places-invalidated f v scope ∙ a.places ∙ sym (places-invalidated f w scope);
  scenes = a.scenes;
  recorded = ap (map seen) (current-invalidated f scope v) ∙ go (current_in f v) (current_in f w) refl refl a.recorded ∙ sym (ap (map seen) (current-invalidated f scope w));
  one_more = λ n h. fits-invalidated scope v ∙ a.one_more (unmapped (current_in f v) (sym (current-invalidated f scope v) ∙ n)) (omega (arith, h, places-invalidated f v scope)) ∙ sym (fits-invalidated scope w);
}
  where
    unmapped : (o : Option ℕ) → map (cleared scope) o ≡ none → o ≡ none
    unmapped none e = refl
    unmapped (some u) e = absurd (some-ne-none (cleared scope u) e)

    fab : (rs : List ℕ) (u : ℕ) → find (of_fabric f) rs ≡ some u → fabric_of (key_of_record u) ≡ f
    fab rs u e = eqb-true (fabric_of (key_of_record u)) f (find-passes (of_fabric f) rs u e)

    go : (o o' : Option ℕ) → current_in f v ≡ o → current_in f w ≡ o' → map seen o ≡ map seen o' → map seen (map (cleared scope) o) ≡ map seen (map (cleared scope) o')
    go none none c c' e = refl
    go none (some n) c c' e = absurd (none-ne-some (seen n) e)
    go (some m) none c c' e = absurd (some-ne-none (seen m) e)
    go (some m) (some n) c c' e =
        ap some (seen-cleared scope look m n (fab v.records m c ∙ sym (fab w.records n c')) (some-injective (seen m) (seen n) e))

pub scene-seen : (key : SceneKey) → Looks (Scene key)
unfolding in_scope
scene-seen key u w hf e _ _ = λ i. eqb (hf i) key.fabric && (eqb (e i).group key.group && eqb (e i).scene key.scene)

pub group-seen : (key : GroupKey) → Looks (Group key)
unfolding in_scope
group-seen key u w hf e _ _ = λ i. eqb (hf i) key.fabric && eqb (e i).group key.group

pub endpoint-seen : (n : ℕ) → Looks (Endpoint n)
unfolding in_scope
endpoint-seen n u w hf q hu hw =
    let same : endpoint_of (key_of_record u) ≡ endpoint_of (key_of_record w) =
    sym (ap (λ (b : Bool). cond b (endpoint_of (key_of_record u)) 0) hu) ∙ ap (λ (r : SeenRecord). r.endpoint) q ∙ ap (λ (b : Bool). cond b (endpoint_of (key_of_record w)) 0) hw in
    ap (λ (m : ℕ). eqb m n) same

-- ---- remembering

module _ (key : SceneKey) (fine : FineKey (word_of key)) (own : fabric_of (word_of key) ≡ key.fabric) where
  abbrev f : ℕ
  f = key.fabric

  pub put-current : (rs : List ℕ) → find (of_fabric f) (put (of_fabric f) (valid_record key) rs) ≡ some (valid_record key)
  put-current rs = find-put (of_fabric f) (valid_record key) (eq-eqb (fabric_of (key_of_record (valid_record key))) f (valid-own key fine own)) rs

  pub sim_remembered : (v w : View) → 0 < used_in f v + places_in f v → Sim f v w → Sim f (remembered key v) (remembered key w)
  unfolding remembered
  sim_remembered v w alive a = go (has (of_fabric f) v.records || record_fits_in v) refl
    where
      fits : (b : Bool) → has (of_fabric f) v.records ≡ b → (b || record_fits_in v) ≡ (has (of_fabric f) w.records || record_fits_in w)
      fits true e = ap (λ (c : Bool). c || record_fits_in w) (sym e ∙ sim_found f v w a)
      fits false e = a.one_more (lost (current_in f v) e) alive ∙ ap (λ (c : Bool). c || record_fits_in w) (sym e ∙ sim_found f v w a)

      go : (b : Bool) → (has (of_fabric f) v.records || record_fits_in v) ≡ b → Sim f (remembered key v) (remembered key w)
      go true e =
          let e' : (has (of_fabric f) w.records || record_fits_in w) ≡ true = sym (fits (has (of_fabric f) v.records) refl) ∙ e in
          record {
            size = a.size;
            share = a.share;
            places = places_remembered f v key ∙ a.places ∙ sym (places_remembered f w key);
            scenes = a.scenes;
            recorded = rw (e, e') (ap (map seen) (put-current v.records ∙ sym (put-current w.records)));
            one_more = λ n _.
                let c : current_in f (remembered key v) ≡ some (valid_record key) = rw e (put-current v.records) in
                absurd (some-ne-none (valid_record key) (sym c ∙ n));
          }
      go false e =
          let e' : (has (of_fabric f) w.records || record_fits_in w) ≡ false = sym (fits (has (of_fabric f) v.records) refl) ∙ e in
          record {
            size = a.size;
            share = a.share;
            places = places_remembered f v key ∙ a.places ∙ sym (places_remembered f w key);
            scenes = a.scenes;
            recorded = rw (e, e') a.recorded;
            one_more = rw (e, e') (λ n h. a.one_more n (omega (arith, h, places_remembered f v key)));
          }
