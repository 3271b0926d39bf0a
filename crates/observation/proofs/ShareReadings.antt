-- Nearby readings in share mode, each with a counterexample. Of demand 3: places that are all free ones, also in the fourth matter; places that
-- are cut; one more place after every remove. Of the two bounds: a load, a fabric at its share, long fields. Assumes nothing.
use Prim.Native.Nat.{ℕ, zero, suc, ◌+◌, ◌-◌, ◌/◌, ◌%◌, ◌≤◌, ◌<◌, min}
use native.Mathlib.Omega.{arith}
use mathlib.Core.Path.{◌≡◌, refl, sym, ap, ap₂, ◌∙◌, subst₂}
use mathlib.Core.Bool.{true, false, cond, ◌&&◌, ◌||◌}
use mathlib.Core.List.Permᴰ
use mathlib.Core.List.{List, [], ◌∷◌, map, Permᴰ}
use mathlib.Core.Option
use mathlib.Core.Option.{none}
use lib.Dec.{eqb, ltb}
use lib.ListN.{length, replicate}
use borrow.Author.Tests.{lt-ltb, ne_eqb}
use Rattle.words.specs.Constants.{success, insufficient_space, max_remaining}
use Rattle.words.specs.Words.{fabric_of}
use Rattle.words.specs.Below.{positions}
use Rattle.words.proofs.Tests.{and_true}
use Rattle.slots.specs.Slots.{SceneEntry}
use Rattle.records.specs.declared.Scope.TheVariants.{Scene}
use Rattle.records.specs.Records.{cleared}
use Rattle.requests.specs.declared.Membership.TheVariants.{Yes}
use Rattle.state.specs.Table.{Table, empty_table_with, entries_in, records_in}
use Rattle.state.specs.Sound.{sound}
use Rattle.state.specs.Capacity.{share_mode}
use Rattle.state.proofs.Capacity.{places-free}
use Rattle.scenes.proofs.Computing.{soundness}
use Rattle.image_load.proofs.Computing.{loading}
use Rattle.observation.specs.Lists.{bit, count, find, keep}
use Rattle.observation.specs.Calls.{Command, add, remove, command, load, answer, next, scene_key, InRange}
use Rattle.observation.specs.Equivalence.{Reached, empty, after, Equivalent, Agree, key_is, mine, of_fabric, seen, places_of, scenes_of, current_of, record_fits}
use Rattle.observation.specs.Share.{share, scenes_used, long_fields, wants_place}
use Rattle.observation.proofs.Lists.{found, has}
use Rattle.observation.proofs.Lookups.{entry_of}
use Rattle.observation.proofs.Changes.{view_of, free_in, used_in, room_in, places_in, place_for, written, invalidated}
use Rattle.observation.proofs.Effects.{Seen, sees, done}
use Rattle.observation.proofs.Counts.{count_ext, count-keep, count-put, opt, none_find}
use Rattle.observation.proofs.Choices.{bit_zero, length_put_has}
use Rattle.observation.proofs.Bits.{key-fabric}
use Rattle.observation.proofs.Places.{share-places}
use Rattle.observation.proofs.Order.{perm_often}
use Rattle.observation.proofs.Views.{entries-length, records-length}
use Rattle.observation.proofs.ActsReads.{places}
use Rattle.observation.proofs.Calls.{laws}
use Rattle.observation.proofs.Probes.{probe, fresh_key}
use Rattle.observation.proofs.Reach.{reached_standing}
use Rattle.observation.proofs.Backward as backward
use Rattle.observation.proofs.Readings.{running, adds, removes, added, OneKind, one_kind, same, told}

-- free places, whatever the mode
abbrev pub free : Table → ℕ
free t = t.state.size - t.state.entries

-- an empty table in share mode
abbrev shared : ℕ → Table
shared n = empty_table_with n 1

shared_sound : (sound (shared 1) ≡ true) × (sound (shared 3) ≡ true) × (sound (shared 509) ≡ true)
unfolding soundness
shared_sound = (refl, refl, refl)

one_reached : Reached (shared 1)
one_reached = empty (shared 1) shared_sound.0 refl refl

three_reached : Reached (shared 3)
three_reached = empty (shared 3) shared_sound.1 refl refl

-- ---- free places in place of the smaller of share left and free places

-- of three places the fabric has one, its share; the other fabric has none or one
abbrev alone : Table
alone = next (adds 1 1 5) (shared 3)

abbrev beside : Table
beside = next (adds 2 1 3) alone

alone_reached : Reached alone
alone_reached = added 1 1 0 5 (omega arith) (omega arith) (omega arith) (omega arith) three_reached

beside_reached : Reached beside
beside_reached = added 2 1 0 3 (omega arith) (omega arith) (omega arith) (omega arith) alone_reached

alone_agree : Agree 1 alone beside
unfolding running
alone_agree = record { places = refl; scenes = Permᴰ.refl _; recorded = refl; one_more = λ n h. refl }

alone_kind : OneKind alone beside
unfolding running
alone_kind = one_kind refl refl

alone_free : (free alone ≡ 2) × (free beside ≡ 1)
unfolding running
alone_free = (refl, refl)

-- "free places, in share mode too": two tables are equivalent and differ in free places
pub places_not_free : Equivalent 1 alone beside × (free alone ≡ 2) × (free beside ≡ 1)
places_not_free = (same alone beside alone_reached beside_reached alone_kind alone_agree, alone_free.0, alone_free.1)

-- the other way this reading holds: free places, with the fabric's own scenes, say how many places it has
pub record AgreeByFree (f : ℕ) (s t : Table) : Type 0 where
  pub places : free s ≡ free t
  pub scenes : Permᴰ (scenes_of f s) (scenes_of f t)
  pub recorded : Option.map seen (current_of f s) ≡ Option.map seen (current_of f t)
  pub one_more : current_of f s ≡ none → 0 < count (mine f) (entries_in s) + free s → record_fits s ≡ record_fits t

used-same : (f : ℕ) (s t : Table) → Permᴰ (scenes_of f s) (scenes_of f t) → used_in f (view_of s) ≡ used_in f (view_of t)
unfolding view_of
used-same f s t p =
    let all : (u : Table) → count (mine f) (entries_in u) ≡ count (λ _. true) (scenes_of f u) = λ u.
    count_ext (mine f) (λ x. mine f x && true) (λ x. sym (and_true (mine f x))) (entries_in u) ∙ sym (count-keep (λ _. true) (mine f) (entries_in u)) in
    all s ∙ perm_often p (λ _. true) ∙ sym (all t)

places_by_free : (f : ℕ) (s t : Table) → OneKind s t → free s ≡ free t → used_in f (view_of s) ≡ used_in f (view_of t) → places_of f s ≡ places_of f t
unfolding view_of places_in room_in
places_by_free f s t z e u =
    let at : (r : Table) → free_in (view_of r) ≡ free r = λ r. ap (λ (n : ℕ). r.state.size - n) (entries-length r) in
    let free_in_lem : free_in (view_of s) ≡ free_in (view_of t) = at s ∙ e ∙ sym (at t) in
    places f s ∙ (λ i. cond (z.mode i) (min ((z.size i - 1) / 2 - u i) (free_in_lem i)) (free_in_lem i)) ∙ sym (places f t)

pub free_enough : (s t : Table) → Reached s → Reached t → OneKind s t → AgreeByFree 1 s t → Equivalent 1 s t
free_enough s t r q z a =
    same s t r q z
    (record {
      places = places_by_free 1 s t z a.places (used-same 1 s t a.scenes);
      scenes = a.scenes;
      recorded = a.recorded;
      one_more = λ n h. a.one_more n (omega (arith, h, places-free s.state s.slots.keys 1));
    })

-- ---- free places in the fourth matter

-- an image of no scene and a record of the other fabric
abbrev record_image : List ℕ
record_image =
    0x15 ∷ 0x36 ∷ 0x00 ∷ 0x18 ∷ 0x36 ∷ 0x01 ∷ 0x15 ∷ 0x24 ∷ 0x00 ∷ 0x02 ∷ 0x24 ∷ 0x01 ∷ 0x01 ∷ 0x24 ∷ 0x02 ∷ 0x00 ∷ 0x24 ∷ 0x03 ∷ 0x03 ∷ 0x29 ∷ 0x04
    ∷ 0x18 ∷ 0x18 ∷ 0x18 ∷ []

-- a table of one place has share 0: the place is free for good
abbrev recorded : Table
recorded = next (load record_image) (shared 1)

recorded_reached : Reached recorded
recorded_reached = after (load record_image) refl one_reached

recorded_kind : OneKind (shared 1) recorded
unfolding running loading
recorded_kind = one_kind refl refl

recorded_agree : Agree 1 (shared 1) recorded
unfolding running loading
recorded_agree = record { places = refl; scenes = Permᴰ.nil; recorded = refl; one_more = λ n h. absurd (omega arith) }

recorded-fits : (record_fits (shared 1) ≡ true) × (record_fits recorded ≡ false) × (current_of 1 (shared 1) ≡ none) × (free (shared 1) ≡ 1)
unfolding running loading
recorded-fits = (refl, refl, refl, refl)

-- "whether one more record fits is compared if a place is free": a fabric without share does not see it
pub fit_not_by_free :
    Equivalent 1 (shared 1) recorded
    × (record_fits (shared 1) ≡ true) × (record_fits recorded ≡ false) × (current_of 1 (shared 1) ≡ none) × (free (shared 1) ≡ 1)
fit_not_by_free = (
  same (shared 1) recorded one_reached recorded_reached recorded_kind recorded_agree,
  recorded-fits.0,
  recorded-fits.1,
  recorded-fits.2,
  recorded-fits.3,
)

-- ---- one more place after a remove

-- an image of two scenes of the fabric, 1 and 2 of group 0 on endpoint 1
abbrev scene_image : List ℕ
scene_image =
    0x15 ∷ 0x36 ∷ 0x00
    ∷ 0x15 ∷ 0x24 ∷ 0x00 ∷ 0x01 ∷ 0x24 ∷ 0x01 ∷ 0x01 ∷ 0x24 ∷ 0x02 ∷ 0x00 ∷ 0x24 ∷ 0x03 ∷ 0x01 ∷ 0x24 ∷ 0x04 ∷ 0x05 ∷ 0x30 ∷ 0x05 ∷ 0x00 ∷ 0x18
    ∷ 0x15 ∷ 0x24 ∷ 0x00 ∷ 0x01 ∷ 0x24 ∷ 0x01 ∷ 0x01 ∷ 0x24 ∷ 0x02 ∷ 0x00 ∷ 0x24 ∷ 0x03 ∷ 0x02 ∷ 0x24 ∷ 0x04 ∷ 0x05 ∷ 0x30 ∷ 0x05 ∷ 0x00 ∷ 0x18
    ∷ 0x18 ∷ 0x36 ∷ 0x01 ∷ 0x18 ∷ 0x18 ∷ []

-- above its share, which is 1 of three places
abbrev above_share : Table
above_share = next (load scene_image) (shared 3)

above_reached : Reached above_share
above_reached = after (load scene_image) refl three_reached

removed_above :
    ((answer (removes 1 1 2) above_share).status ≡ success)
    × (places_of 1 above_share ≡ 0)
    × (places_of 1 (next (removes 1 1 2) above_share) ≡ 0)
unfolding running loading
removed_above = (refl, refl, refl)

above_bound : (share_mode above_share.state ≡ true) × (scenes_used 1 above_share ≡ 2) × (share above_share ≡ 1)
unfolding running loading
above_bound = (refl, refl, refl)

abbrev OneMorePlace : Type 0
OneMorePlace =
    (f e g s : ℕ) (t : Table) → Reached t → (answer (command f e (remove g s Yes)) t).status ≡ success
    → places_of f (next (command f e (remove g s Yes)) t) ≡ places_of f t + 1

-- "a remove gives one more place": not above the share
pub remove_not_one_more : OneMorePlace → ⊥
remove_not_one_more every =
    omega (arith, every 1 1 0 2 above_share above_reached removed_above.0, removed_above.1, removed_above.2)

-- ---- what the two bounds ask for is needed

-- "no fabric has more than its share", a load or not: here it has two scenes, and its share is one
pub bound_not_loaded : Reached above_share × (share_mode above_share.state ≡ true) × (scenes_used 1 above_share ≡ 2) × (share above_share ≡ 1)
bound_not_loaded = (above_reached, above_bound.0, above_bound.1, above_bound.2)

-- "a place is wanting in a full table alone", below the share or not: at its share the fabric is refused, with two places free
abbrev sixth : Command
sixth = add 0 6 5 Yes [] []

pub full_not_at_share : (wants_place sixth (answer (command 1 1 sixth) alone) ≡ true) × (free alone ≡ 2)
unfolding running
full_not_at_share = (refl, refl)

-- "0x89 below the share means a full table", long fields or not: an empty table answers it to 129 field bytes
abbrev long : Command
long = add 0 6 5 Yes [] (replicate 129 0)

pub full_not_by_fields : ((answer (command 1 1 long) (shared 3)).status ≡ insufficient_space) × (long_fields long ≡ true) × (free (shared 3) ≡ 3)
unfolding running
full_not_by_fields = (refl, refl, refl)

-- ---- places that are cut as a remaining capacity is

-- u is t with n more scenes of a fabric, and no records
record Fills (g n : ℕ) (t u : Table) : Type 0 where
  reached : Reached u
  kind : OneKind t u
  entries : length (view_of u).entries ≡ length (view_of t).entries + n
  own : places_in g (view_of u) + n ≡ places_in g (view_of t)
  others : (f : ℕ) → (f ≡ g → ⊥) → used_in f (view_of u) ≡ used_in f (view_of t)
  records : (view_of u).records ≡ []

kind_of_lem : (t u : Table) → (view_of u).size ≡ (view_of t).size → (view_of u).modes ≡ (view_of t).modes → OneKind t u
unfolding view_of
kind_of_lem t u z m = one_kind (sym z) (sym (ap (λ (n : ℕ). eqb (n % 2) 1) m))

module _ (g : ℕ) (g1 : 1 ≤ g) (g255 : g ≤ 255) where
  -- one add of a fresh key
  fill_one : (t : Table) → Reached t → (view_of t).records ≡ [] → 0 < places_in g (view_of t) → (u : Table) × Fills g 1 t u
  unfolding invalidated
  fill_one t r none_kept more =
      let i = reached_standing laws r in
      let v = view_of t in
      let k = fresh_key g 1025 v.entries (omega (arith, i.inv.room, i.inv.small)) in
      let e = k.0 in
      let c = command g e (backward.adding Yes) in
      let fits : InRange c = (omega arith, omega (arith, k.1), (omega arith, omega arith, omega arith, refl, refl)) in
      let x = entry_of (scene_key g e 0 1) 0 [] in
      let key = key_is (probe g e) in
      let lost : find key v.entries ≡ none = none_find key v.entries k.2 in
      let new : has key v.entries ≡ false = ap found lost in
      let q : place_for g (probe g e) v ≡ true = ap₂ ◌||◌ new (lt-ltb 0 (places_in g v) more) in
      let a : sees c t ≡ (done true, invalidated (Scene (scene_key g e 0 1)) (written x v)) = rw q at (backward.adds laws g g1 g255 Yes t i e fits.1) in
      let u = next c t in (
        u,
        record {
          reached = after c fits r;
          kind = kind_of_lem t u (ap (λ (o : Seen). o.1.size) a) (ap (λ (o : Seen). o.1.modes) a);
          entries = ap (λ (o : Seen). length o.1.entries) a ∙ omega (arith, length_put_has key x v.entries, ap bit new);
          own = omega (arith, backward.added laws g g1 g255 Yes t i e fits.1 new (lt-ltb 0 (places_in g v) more));
          others = λ f n.
              let its : fabric_of x.key ≡ g = key-fabric g e 0 1 (omega arith) fits.1 (omega arith) (omega arith) in
              let out : mine f x ≡ false = ne_eqb (fabric_of x.key) f (λ z. n (sym z ∙ its)) in
              ap (λ (o : Seen). used_in f o.1) a ∙ omega (arith, count-put (mine f) key x v.entries, ap (opt (mine f)) lost, ap bit out);
          records = ap (λ (o : Seen). o.1.records) a ∙ ap (map (cleared (Scene (scene_key g e 0 1)))) none_kept;
        },
      )

  fill : (n : ℕ) (t : Table) → Reached t → (view_of t).records ≡ [] → n ≤ places_in g (view_of t) → (u : Table) × Fills g n t u
  fill zero t r none_kept h =
      (t, record { reached = r; kind = one_kind refl refl; entries = omega arith; own = omega arith; others = λ f n. refl; records = none_kept })
  fill (suc n) t r none_kept h =
      let a = fill_one t r none_kept (omega arith) in
      let b = fill n a.0 a.1.reached a.1.records (omega (arith, a.1.own)) in (
        b.0,
        record {
          reached = b.1.reached;
          kind = one_kind (a.1.kind.size ∙ b.1.kind.size) (a.1.kind.mode ∙ b.1.kind.mode);
          entries = omega (arith, a.1.entries, b.1.entries);
          own = omega (arith, a.1.own, b.1.own);
          others = λ f m. b.1.others f m ∙ a.1.others f m;
          records = b.1.records;
        },
      )

-- two tables in share mode that agree on all but the places, and on these once they are cut
pub record CutAlike (s t : Table) : Type 0 where
  pub reached : Reached s × Reached t
  pub kind : OneKind s t
  pub shared : share_mode s.state ≡ true
  pub places : min (places_of 1 s) max_remaining ≡ min (places_of 1 t) max_remaining
  pub scenes : Permᴰ (scenes_of 1 s) (scenes_of 1 t)
  pub recorded : Option.map seen (current_of 1 s) ≡ Option.map seen (current_of 1 t)
  pub fits : record_fits s ≡ record_fits t

-- a reached table of 509 places in share mode with n entries, of which some fabrics have none, and no records; a share is 254
record Taken (n : ℕ) (t : Table) : Type 0 where
  reached : Reached t
  size : t.state.size ≡ 509
  shared : share_mode t.state ≡ true
  entries : length (view_of t).entries ≡ n
  records : (view_of t).records ≡ []

-- what is left of it for a fabric without scenes
left_for : (n f : ℕ) (t : Table) → Taken n t → used_in f (view_of t) ≡ 0 → places_in f (view_of t) ≡ min 254 (509 - n)
unfolding view_of room_in
left_for n f t k u = share-places f (view_of t) k.shared ∙ (λ i. min ((k.size i - 1) / 2 - u i) (k.size i - k.entries i))

taken_more : (g m n : ℕ) (t u : Table) → Taken n t → Fills g m t u → Taken (n + m) u
taken_more g m n t u k a = record {
  reached = a.reached;
  size = sym a.kind.size ∙ k.size;
  shared = sym a.kind.mode ∙ k.shared;
  entries = omega (arith, a.entries, k.entries);
  records = a.records;
}

none_taken : Taken 0 (shared 509)
unfolding view_of entries_in records_in positions
none_taken = record { reached = empty (shared 509) shared_sound.2 refl refl; size = refl; shared = refl; entries = refl; records = refl }

start-used : (f : ℕ) → used_in f (view_of (shared 509)) ≡ 0
unfolding view_of entries_in positions
start-used f = refl

-- two of them, of which the fabric has nothing
no_scenes : (t : Table) → used_in 1 (view_of t) ≡ 0 → scenes_of 1 t ≡ []
unfolding view_of
no_scenes t z = go (entries_in t) z
  where
    go : (es : List SceneEntry) → count (mine 1) es ≡ 0 → keep (mine 1) es ≡ []
    go [] e = refl
    go (x ∷ es) e = rw (bit_zero (mine 1 x) (omega arith)) (go es (omega arith))

no_records_lem : (t : Table) → Reached t → (view_of t).records ≡ [] → (records_in t ≡ []) × (t.state.recorded ≡ 0)
unfolding view_of
no_records_lem t r e = (e, sym (records-length t (reached_standing laws r).intact) ∙ ap length e)

cut_alike : (m n : ℕ) (s t : Table) → Taken m s → Taken n t → used_in 1 (view_of s) ≡ 0 → used_in 1 (view_of t) ≡ 0
    → min (min 254 (509 - m)) max_remaining ≡ min (min 254 (509 - n)) max_remaining → CutAlike s t
cut_alike m n s t j k u w e =
    let cut : ℕ → ℕ = λ l. min l max_remaining in
    let rs = no_records_lem s j.reached j.records in
    let rt = no_records_lem t k.reached k.records in
    record {
      reached = (j.reached, k.reached);
      kind = one_kind (j.size ∙ sym k.size) (j.shared ∙ sym k.shared);
      shared = j.shared;
      places = ap cut (places 1 s ∙ left_for m 1 s j u) ∙ e ∙ sym (ap cut (places 1 t ∙ left_for n 1 t k w));
      scenes = subst₂ Permᴰ (sym (no_scenes s u)) (sym (no_scenes t w)) Permᴰ.nil;
      recorded = ap (λ (l : List ℕ). Option.map seen (find (of_fabric 1) l)) (rs.0 ∙ sym rt.0);
      fits = ap₂ ltb (rs.1 ∙ sym rt.1) (j.size ∙ sym k.size);
    }

-- others take 254 and 1 places, then one more: the fabric has 254 left, then 253
pub places_not_cut_shared : (s : Table) × (t : Table) × CutAlike s t × (Equivalent 1 s t → ⊥)
places_not_cut_shared =
    let ps = left_for 0 2 (shared 509) none_taken (start-used 2) in
    let a = fill 2 (omega arith) (omega arith) 254 (shared 509) none_taken.reached none_taken.records (omega (arith, ps)) in
    let ka = taken_more 2 254 0 (shared 509) a.0 none_taken a.1 in
    let ua : (f : ℕ) → (f ≡ 2 → ⊥) → used_in f (view_of a.0) ≡ 0 = λ f n. a.1.others f n ∙ start-used f in
    let pa : places_in 3 (view_of a.0) ≡ 254 = left_for 254 3 a.0 ka (ua 3 (λ z. omega arith)) in
    let b = fill 3 (omega arith) (omega arith) 1 a.0 ka.reached ka.records (omega arith) in
    let kb = taken_more 3 1 254 a.0 b.0 ka b.1 in
    let ub : used_in 1 (view_of b.0) ≡ 0 = b.1.others 1 (λ z. omega arith) ∙ ua 1 (λ z. omega arith) in
    let c = fill 3 (omega arith) (omega arith) 1 b.0 kb.reached kb.records (omega (arith, b.1.own)) in
    let kc = taken_more 3 1 255 b.0 c.0 kb c.1 in
    let uc : used_in 1 (view_of c.0) ≡ 0 = c.1.others 1 (λ z. omega arith) ∙ ub in
    let alike = cut_alike 255 256 b.0 c.0 kb kc ub uc refl in (
      b.0,
      c.0,
      alike,
      (λ e.
          omega (
            arith,
            (told b.0 c.0 kb.reached kc.reached alike.kind e).places,
            places 1 b.0 ∙ left_for 255 1 b.0 kb ub,
            places 1 c.0 ∙ left_for 256 1 c.0 kc uc,
          )),
    )
