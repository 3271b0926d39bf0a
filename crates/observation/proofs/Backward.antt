-- To the four matters, by lists that tell two tables apart: a view of each key; info, and info after a notice; adds of fresh keys until one is
-- refused; a store, then info. Assumes the laws, as an argument.
use Prim.Native.Nat.{ℕ, zero, suc, ◌+◌, ◌^◌, ◌≤◌, ◌<◌}
use native.Mathlib.Omega.{arith}
use mathlib.Core.Path.{◌≡◌, refl, sym, ap, ap₂, ◌∙◌, subst}
use mathlib.Core.Bool.{Bool, true, false, cond, ◌&&◌, ◌||◌}
use mathlib.Core.List.{List, [], ◌∷◌, ◌++◌}
use mathlib.Core.Logic.{◌⊎◌, inl, inr}
use mathlib.Core.Option.{Option, none, some, map, none-ne-some}
use lib.ListN.{length, get_or}
use lib.Dec.{ltb, eqb}
use borrow.Author.Tests.{ltb-true, ltb-false, lt-ltb, le-ltb, eqb-true, eqb-false, eq-eqb}
use Rattle.words.specs.Constants.{insufficient_space, max_fields, end_of_container}
use Rattle.words.specs.Words.{word_of, fabric_of, endpoint_of, group_of, scene_of, key_of_record, is_valid, valid_record}
use Rattle.words.specs.declared.SceneKey.{SceneKey}
use Rattle.records.specs.declared.Scope.TheVariants.{Scene, Endpoint}
use Rattle.records.specs.Records.{in_scope, cleared}
use Rattle.requests.specs.declared.Membership.{Membership}
use Rattle.state.specs.Table.{Table, entries_in}
use Rattle.state.specs.Sound.{sound}
use Rattle.requests.specs.Requests.{reserved, member_gate}
use Rattle.observation.specs.Lists.{bit, find, keep}
use Rattle.observation.specs.Calls.{Command, add, store, info, command, notice, Answer, answer, next, scene_key}
use Rattle.observation.specs.Equivalence.{key_is, Same, mine, of_fabric, seen, Agree}
use Rattle.observation.proofs.Lists.{found, has, put}
use Rattle.observation.proofs.Lookups.{entry_of}
use Rattle.observation.proofs.Changes.{View, view_of, used_in, places_in, current_in, record_fits_in, place_for, written, invalidated, remembered}
use Rattle.observation.proofs.Effects.{Seen, sees, done, refuse, time_of, info_out}
use Rattle.observation.proofs.Laws.{Laws}
use Rattle.observation.proofs.Counts.{both, count-keep, find-passes, find-counts, find_none, none_find}
use Rattle.observation.proofs.Choices.{or_none, bit_zero, bit-same, has_count, length_put_has}
use Rattle.observation.proofs.Bits.{key-fabric, key-scene, record_key, low_invalid}
use Rattle.observation.proofs.Views.{records-length}
use Rattle.observation.proofs.ActsReads.{places}
use Rattle.observation.proofs.Places.{places_less, places-invalidated}
use Rattle.observation.proofs.CopyViews.{used-put}
use Rattle.observation.proofs.Invariant.{bad, FineKey, fine_entry, named_fine, key_fine}
use Rattle.observation.proofs.Simulation.{current-invalidated, fits-invalidated, put-current}
use Rattle.observation.proofs.Order.{scenes_perm}
use Rattle.observation.proofs.Passed.{free_let, add_let, store_let, info_let}
use Rattle.observation.proofs.Probes.{parts, counts, probe, fresh_key, told, info-group, info-scene, info-valid, scene_one}
use Rattle.observation.proofs.Reach.{Standing}

-- an add of nothing to group 0, which is let through whatever is said of the membership
abbrev pub adding : Membership → Command
adding m = add 0 1 0 m [] []

-- a fabric's lists of one kind, by what they tell of two tables that they cannot tell apart, a `Pair`: all that this file uses of them
pub record Telling (f : ℕ) (Pair : Table → Table → Type 0) : Type 0 where
  pub left : {s t : Table} → Pair s t → Standing s
  pub right : {s t : Table} → Pair s t → Standing t
  -- views
  pub finds : {s t : Table} → Pair s t → (k : ℕ) → fabric_of k ≡ f → find (key_is k) (view_of s).entries ≡ find (key_is k) (view_of t).entries
  -- info, and a notice
  pub reads : {s t : Table} → Pair s t → Same (answer (command f 0 (info false)) s) (answer (command f 0 (info false)) t)
  pub hears : {s t : Table} → Pair s t → (e : ℕ) → e < 2 ^ 16 → Pair (next (notice e) s) (next (notice e) t)
  -- adds to group 0
  pub member : Membership
  pub adds : {s t : Table} → Pair s t → (e : ℕ) → e < 2 ^ 16
      → Same (answer (command f e (adding member)) s) (answer (command f e (adding member)) t)
  pub added : {s t : Table} → Pair s t → (e : ℕ) → e < 2 ^ 16 → Pair (next (command f e (adding member)) s) (next (command f e (adding member)) t)
  -- stores to group 0, or over a scene
  pub stores : {s t : Table} → Pair s t → (e g sc : ℕ) → e < 2 ^ 16 → g < 2 ^ 16 → sc < 2 ^ 8 → reserved sc ≡ false
      → (g ≡ 0) ⊎ (has (key_is (word_of (scene_key f e g sc))) (view_of s).entries ≡ true)
      → (m : Membership) × (member_gate g m ≡ 0) × Pair (next (command f e (store g sc m [])) s) (next (command f e (store g sc m [])) t)

told_by : (part : ℕ → ℕ) (o : Option ℕ) (w : ℕ) → o ≡ some w → told part o ≡ part w
told_by part o w e = ap (told part) e

codes : (b c : Bool) → cond b 0 insufficient_space ≡ cond c 0 insufficient_space → b ≡ c
codes true true e = refl
codes true false e = absurd (omega arith)
codes false true e = absurd (omega arith)
codes false false e = refl

code_place : (b : Bool) (x y : View) → (cond {A = Seen} b (done true, x) (refuse insufficient_space, y)).0.status ≡ cond b 0 insufficient_space
code_place true x y = refl
code_place false x y = refl

no_record_lem : (o o' : Option ℕ) → map seen o ≡ map seen o' → o ≡ none → o' ≡ none
no_record_lem o none e n = refl
no_record_lem o (some w) e n = absurd (none-ne-some (seen w) (sym (ap (map seen) n) ∙ e))

-- what an add of nothing to group 0 does
module _ (laws : Laws) (f : ℕ) (f1 : 1 ≤ f) (f255 : f ≤ 255) (m : Membership) (t : Table) (i : Standing t) (e : ℕ) (h : e < 2 ^ 16) where
  hf : f < 2 ^ 8
  hf = omega arith

  pub adds : sees (command f e (adding m)) t
      ≡ cond (place_for f (probe f e) (view_of t)) (done true, invalidated (Scene (scene_key f e 0 1)) (written (entry_of (scene_key f e 0 1) 0 []) (view_of t))) (refuse insufficient_space, view_of t)
  adds = (laws.commands f e t i.intact hf h).add_acts 0 1 0 m [] [] (omega arith, omega arith, omega arith, refl, refl) (add_let (scene_key f e 0 1) (record { fabric = f1; scene = refl }) m (free_let m) max_fields)

  pub add_code : (answer (command f e (adding m)) t).status ≡ cond (place_for f (probe f e) (view_of t)) 0 insufficient_space
  add_code = ap (λ (o : Seen). o.0.status) adds ∙ code_place (place_for f (probe f e) (view_of t)) _ (view_of t)

  -- an add of a fresh key takes one of the fabric's places
  pub added : has (key_is (probe f e)) (view_of t).entries ≡ false → ltb 0 (places_in f (view_of t)) ≡ true
      → suc (places_in f (view_of (next (command f e (adding m)) t))) ≡ places_in f (view_of t)
  unfolding invalidated
  added n l =
      let x = entry_of (scene_key f e 0 1) 0 [] in
      let own = key-fabric f e 0 1 hf h (omega arith) (omega arith) in
      let q : place_for f (probe f e) (view_of t) ≡ true = ap₂ ◌||◌ n l in
      let a : sees (command f e (adding m)) t ≡ (done true, invalidated (Scene (scene_key f e 0 1)) (written x (view_of t))) = rw q at adds in
      let longer : length (put (key_is (probe f e)) x (view_of t).entries) ≡ length (view_of t).entries + 1 =
      omega (arith, length_put_has (key_is (probe f e)) x (view_of t).entries, ap bit n) in
      ap (λ (o : Seen). suc (places_in f o.1)) a
      ∙ ap suc (places-invalidated f (written x (view_of t)) (Scene (scene_key f e 0 1)))
      ∙ places_less f (view_of t) (written x (view_of t)) refl refl (omega (arith, used-put f x (view_of t) own, ap bit n)) longer (ltb-true 0 (places_in f (view_of t)) l)

module _ (laws : Laws) (f : ℕ) (f1 : 1 ≤ f) (f255 : f ≤ 255) (Pair : Table → Table → Type 0) (lists : Telling f Pair) where
  lt : f < 2 ^ 8
  lt = omega arith

  -- ---- info, and info after a notice

  record Tells (o o' : Option ℕ) : Type 0 where
    group : told (λ w. group_of (key_of_record w)) o ≡ told (λ w. group_of (key_of_record w)) o'
    scene : told (λ w. scene_of (key_of_record w)) o ≡ told (λ w. scene_of (key_of_record w)) o'
    valid : told (λ w. bit (is_valid w)) o ≡ told (λ w. bit (is_valid w)) o'

  records : (s t : Table) → Pair s t → Tells (current_in f (view_of s)) (current_in f (view_of t))
  records s t p =
      let at : (u : Table) → Standing u → answer (command f 0 (info false)) u ≡ info_out f 0 (view_of u) =
      λ u i. ap (λ (o : Seen). o.0) ((laws.commands f 0 u i.intact lt (omega arith)).info_acts false (info_let f f1)) in
      let a : (info_out f 0 (view_of s)).values ≡ (info_out f 0 (view_of t)).values =
      sym (ap (λ (o : Answer). o.values) (at s (lists.left p))) ∙ (lists.reads p).values ∙ ap (λ (o : Answer). o.values) (at t (lists.right p)) in
      record {
        group = sym (info-group f 0 (view_of s)) ∙ ap (λ (l : List ℕ). get_or l 1 0) a ∙ info-group f 0 (view_of t);
        scene = sym (info-scene f 0 (view_of s)) ∙ ap (λ (l : List ℕ). get_or l 2 0) a ∙ info-scene f 0 (view_of t);
        valid = sym (info-valid f 0 (view_of s)) ∙ ap (λ (l : List ℕ). get_or l 3 0) a ∙ info-valid f 0 (view_of t);
      }

  -- the record after a notice
  current_heard : (t : Table) → Standing t → (e : ℕ) → e < 2 ^ 16 → (w : ℕ) → current_in f (view_of t) ≡ some w → current_in f (view_of (next (notice e) t)) ≡ some (cleared (Endpoint e) w)
  current_heard t i e he w c =
      ap (λ (o : Seen). current_in f o.1) ((laws.events t i.intact).notice_acts e he)
      ∙ current-invalidated f (Endpoint e) (view_of t) ∙ ap (map (cleared (Endpoint e))) c

  endpoints : (s t : Table) → Pair s t → (v w : ℕ) → current_in f (view_of s) ≡ some v → current_in f (view_of t) ≡ some w → is_valid v ≡ true → is_valid w ≡ true
      → endpoint_of (key_of_record v) ≡ endpoint_of (key_of_record w)
  unfolding in_scope
  endpoints s t p v w cs ct hv hw =
      let e = endpoint_of (key_of_record v) in
      let he : e < 2 ^ 16 = omega arith in
      let r : bit (is_valid (cleared (Endpoint e) v)) ≡ bit (is_valid (cleared (Endpoint e) w)) =
      sym (told_by (λ u. bit (is_valid u)) _ _ (current_heard s (lists.left p) e he v cs))
      ∙ (records (next (notice e) s) (next (notice e) t) (lists.hears p e he)).valid
      ∙ told_by (λ u. bit (is_valid u)) _ _ (current_heard t (lists.right p) e he w ct) in
      let off : bit (is_valid (cleared (Endpoint e) v)) ≡ 0 = rw (hv, eq-eqb e e refl) (ap bit (low_invalid v)) in
      (elim (eqb (endpoint_of (key_of_record w)) e) as (λ b. eqb (endpoint_of (key_of_record w)) e ≡ b → e ≡ endpoint_of (key_of_record w)) [
        | true ↦ λ h. sym (eqb-true (endpoint_of (key_of_record w)) e h)
        | false ↦ λ h.
            let on : bit (is_valid (cleared (Endpoint e) w)) ≡ 1 = rw (hw, h) (ap bit hw) in
            absurd (omega arith)
      ]) refl

  recorded : (s t : Table) → Pair s t → map seen (current_in f (view_of s)) ≡ map seen (current_in f (view_of t))
  recorded s t p = go (current_in f (view_of s)) (current_in f (view_of t)) refl refl (records s t p)
    where
      ends_same : (v w : ℕ) → current_in f (view_of s) ≡ some v → current_in f (view_of t) ≡ some w → (b c : Bool) → is_valid v ≡ b → is_valid w ≡ c → b ≡ c
          → cond b (endpoint_of (key_of_record v)) 0 ≡ cond c (endpoint_of (key_of_record w)) 0
      ends_same v w cs ct true true hv hw e = endpoints s t p v w cs ct hv hw
      ends_same v w cs ct true false hv hw e = absurd (omega (arith, ap bit e))
      ends_same v w cs ct false true hv hw e = absurd (omega (arith, ap bit e))
      ends_same v w cs ct false false hv hw e = refl

      go : (o o' : Option ℕ) → current_in f (view_of s) ≡ o → current_in f (view_of t) ≡ o' → Tells o o' → map seen o ≡ map seen o'
      go none none cs ct r = refl
      go none (some w) cs ct r = absurd (omega (arith, r.scene, scene_one f (view_of t) (lists.right p).inv w ct))
      go (some v) none cs ct r = absurd (omega (arith, r.scene, scene_one f (view_of s) (lists.left p).inv v cs))
      go (some v) (some w) cs ct r =
          let b : is_valid v ≡ is_valid w = bit-same (is_valid v) (is_valid w) r.valid in
          let e = ends_same v w cs ct (is_valid v) (is_valid w) refl refl b in
          λ k. some (record { group = r.group k; scene = r.scene k; valid = b k; endpoint = e k })

  -- ---- adds of fresh keys

  abbrev probing : Command
  probing = adding lists.member

  -- a fresh key of one is fresh in the other
  record Unused (s t : Table) : Type 0 where
    e : ℕ
    fits : e < 2 ^ 16
    here : has (key_is (probe f e)) (view_of s).entries ≡ false
    there : has (key_is (probe f e)) (view_of t).entries ≡ false

  unused : (s t : Table) → Pair s t → Unused s t
  unused s t p =
      let i = (lists.left p).inv in
      let r = fresh_key f 1025 (view_of s).entries (omega (arith, i.room, i.small)) in
      let k = probe f r.0 in
      let n : find (key_is k) (view_of s).entries ≡ none = none_find (key_is k) (view_of s).entries r.2 in
      let m = lists.finds p k (key-fabric f r.0 0 1 lt (omega (arith, r.1)) (omega arith) (omega arith)) in
      record { e = r.0; fits = omega (arith, r.1); here = ap found n; there = ap found (sym m ∙ n) }

  place_same : (s t : Table) → Pair s t → ltb 0 (places_in f (view_of s)) ≡ ltb 0 (places_in f (view_of t))
  place_same s t p =
      let u = unused s t p in
      let q : place_for f (probe f u.e) (view_of s) ≡ place_for f (probe f u.e) (view_of t) =
      codes (place_for f (probe f u.e) (view_of s)) (place_for f (probe f u.e) (view_of t))
      (sym (add_code laws f f1 f255 lists.member s (lists.left p) u.e u.fits) ∙ (lists.adds p u.e u.fits).status ∙ add_code laws f f1 f255 lists.member t (lists.right p) u.e u.fits) in
      sym (ap (λ (b : Bool). b || ltb 0 (places_in f (view_of s))) u.here) ∙ q ∙ ap (λ (b : Bool). b || ltb 0 (places_in f (view_of t))) u.there

  same-places : (n : ℕ) (s t : Table) → Pair s t → places_in f (view_of s) ≡ n → places_in f (view_of s) ≡ places_in f (view_of t)
  same-places zero s t p h =
      let none_left : ltb 0 (places_in f (view_of t)) ≡ false = sym (place_same s t p) ∙ le-ltb 0 (places_in f (view_of s)) (omega arith) in
      omega (arith, ltb-false 0 (places_in f (view_of t)) none_left)
  same-places (suc n) s t p h =
      let more : ltb 0 (places_in f (view_of s)) ≡ true = lt-ltb 0 (places_in f (view_of s)) (omega arith) in
      let u = unused s t p in
      let gs = added laws f f1 f255 lists.member s (lists.left p) u.e u.fits u.here more in
      let gt = added laws f f1 f255 lists.member t (lists.right p) u.e u.fits u.there (sym (place_same s t p) ∙ more) in
      let ih = same-places n (next (command f u.e probing) s) (next (command f u.e probing) t) (lists.added p u.e u.fits) (omega (arith, gs)) in
      sym gs ∙ ap suc ih ∙ gt

  -- ---- a store, then info: where there is a place, it tells whether a record fits

  module _ (e g sc : ℕ) (he : e < 2 ^ 16) (hg : g < 2 ^ 16) (hs : sc < 2 ^ 8) (plain : reserved sc ≡ false) where
    abbrev key : SceneKey
    key = scene_key f e g sc

    abbrev storing : Membership → Command
    storing m = store g sc m []

    fine : FineKey (word_of key)
    fine = named_fine f e g sc lt he hg hs f1 plain

    own_key : fabric_of (word_of key) ≡ f
    own_key = key-fabric f e g sc lt he hg hs

    current_remembered : (v : View) → current_in f v ≡ none → current_in f (remembered key v) ≡ cond (record_fits_in v) (some (valid_record key)) none
    unfolding remembered
    current_remembered v n =
        let go : (b : Bool) → find (of_fabric f) (cond b (put (of_fabric f) (valid_record key) v.records) v.records) ≡ cond b (some (valid_record key)) none =
        λ b. elim b as (λ b. find (of_fabric f) (cond b (put (of_fabric f) (valid_record key) v.records) v.records) ≡ cond b (some (valid_record key)) none)
        [ true ↦ put-current key fine own_key v.records | false ↦ n ] in
        ap (λ (b : Bool). find (of_fabric f) (cond (b || record_fits_in v) (put (of_fabric f) (valid_record key) v.records) v.records)) (ap found n) ∙ go (record_fits_in v)

    stored : (t : Table) → Standing t → (m : Membership) → member_gate g m ≡ 0 → current_in f (view_of t) ≡ none → place_for f (word_of key) (view_of t) ≡ true
        → current_in f (view_of (next (command f e (storing m)) t)) ≡ cond (record_fits_in (view_of t)) (some (valid_record key)) none
    stored t i m z n q =
        let x = entry_of key (time_of (find (key_is (word_of key)) (view_of t).entries)) ([] ++ (end_of_container ∷ [])) in
        let u = invalidated (Scene key) (written x (view_of t)) in
        let c : current_in f u ≡ none = current-invalidated f (Scene key) (written x (view_of t)) ∙ ap (map (cleared (Scene key))) n in
        let a : sees (command f e (storing m)) t ≡ (done true, remembered key u) =
        rw q at ((laws.commands f e t i.intact lt he).store_acts g sc m [] (hg, hs, refl) (store_let key (record { fabric = f1; scene = plain }) m z max_fields (omega arith))) in
        ap (λ (o : Seen). current_in f o.1) a ∙ current_remembered u c ∙ ap (λ (b : Bool). cond b (some (valid_record key)) none) (fits-invalidated (Scene key) (written x (view_of t)))

    tells : (s t : Table) → Pair s t → (g ≡ 0) ⊎ (has (key_is (word_of key)) (view_of s).entries ≡ true) → current_in f (view_of s) ≡ none → current_in f (view_of t) ≡ none
        → place_for f (word_of key) (view_of s) ≡ true → place_for f (word_of key) (view_of t) ≡ true → record_fits_in (view_of s) ≡ record_fits_in (view_of t)
    tells s t p known ns nt ps pt =
        let o = lists.stores p e g sc he hg hs plain known in
        let m : Membership = o.0 in
        let r = (records (next (command f e (storing m)) s) (next (command f e (storing m)) t) o.2).scene in
        let part : Option ℕ → ℕ = told (λ w. scene_of (key_of_record w)) in
        let scene : (b : Bool) → part (cond b (some (valid_record key)) none) ≡ cond b sc 0 =
        λ b. elim b as (λ b. part (cond b (some (valid_record key)) none) ≡ cond b sc 0) [ true ↦ ap scene_of (record_key (word_of key) fine.small) ∙ key-scene f e g sc lt he hg hs | false ↦ refl ] in
        let one : 1 ≤ sc = omega (arith, eqb-false sc 0 (or_none (eqb sc 0) (eqb sc 255) plain).0) in
        let same : (b c : Bool) → cond b sc 0 ≡ cond c sc 0 → b ≡ c =
        λ b. elim b as (λ b. (c : Bool) → cond b sc 0 ≡ cond c sc 0 → b ≡ c) [
          | true ↦ λ c. elim c as (λ c. sc ≡ cond c sc 0 → true ≡ c) [ true ↦ λ _. refl | false ↦ λ q. absurd (omega arith) ]
          | false ↦ λ c. elim c as (λ c. 0 ≡ cond c sc 0 → false ≡ c) [ true ↦ λ q. absurd (omega arith) | false ↦ λ _. refl ]
        ] in
        same (record_fits_in (view_of s)) (record_fits_in (view_of t))
        (sym (scene (record_fits_in (view_of s))) ∙ ap part (sym (stored s (lists.left p) m o.1 ns ps)) ∙ r ∙ ap part (stored t (lists.right p) m o.1 nt pt) ∙ scene (record_fits_in (view_of t)))

  one_more : (s t : Table) → Pair s t → current_in f (view_of s) ≡ none → 0 < used_in f (view_of s) + places_in f (view_of s) → record_fits_in (view_of s) ≡ record_fits_in (view_of t)
  one_more s t p n alive =
      let es = (view_of s).entries in
      let m : current_in f (view_of t) ≡ none = no_record_lem (current_in f (view_of s)) (current_in f (view_of t)) (recorded s t p) n in
      (elim (find (mine f) es) as (λ o. find (mine f) es ≡ o → record_fits_in (view_of s) ≡ record_fits_in (view_of t)) [
        | none ↦ λ z.
            let u = unused s t p in
            let more : ltb 0 (places_in f (view_of s)) ≡ true = lt-ltb 0 (places_in f (view_of s)) (omega (arith, find_none (mine f) es z)) in
            tells u.e 0 1 u.fits (omega arith) (omega arith) refl s t p (inl refl) n m (ap₂ ◌||◌ u.here more) (ap₂ ◌||◌ u.there (sym (place_same s t p) ∙ more))
        | some x ↦ λ z.
            let k = x.key in
            let mineX : fabric_of k ≡ f = eqb-true (fabric_of k) f (find-passes (mine f) es x z) in
            let q = parts f k mineX (key_fine k (fine_entry x (bit_zero (bad x) (omega (arith, find-counts bad (mine f) es x z, (lists.left p).inv.good.fine)))).0) in
            let here : has (key_is k) es ≡ true = has_count (key_is k) es (omega (arith, find-counts (key_is k) (mine f) es x z, ap bit (eq-eqb k k refl))) in
            let there : has (key_is k) (view_of t).entries ≡ true = sym (ap found (lists.finds p k mineX)) ∙ here in
            tells q.e q.g q.s q.he q.hg q.hs q.plain s t p (inr (subst (λ (w : ℕ). has (key_is w) es ≡ true) q.is here)) n m
            (subst (λ (w : ℕ). place_for f w (view_of s) ≡ true) q.is (ap (λ (b : Bool). b || ltb 0 (places_in f (view_of s))) here))
            (subst (λ (w : ℕ). place_for f w (view_of t) ≡ true) q.is (ap (λ (b : Bool). b || ltb 0 (places_in f (view_of t))) there))
      ]) refl

  -- ---- the four matters

  pub agree : (s t : Table) → Pair s t → Agree f s t
  unfolding view_of
  agree s t p =
      let i = lists.left p in
      let j = lists.right p in
      let fits : (u : Table) → sound u ≡ true → record_fits_in (view_of u) ≡ ltb u.state.recorded u.state.size =
      λ u S. ap (λ (n : ℕ). ltb n u.state.size) (records-length u S) in
      record {
        places = places f s ∙ same-places (places_in f (view_of s)) s t p refl ∙ sym (places f t);
        scenes = scenes_perm (keep (mine f) (entries_in s)) (keep (mine f) (entries_in t)) (λ q.
            count-keep q (mine f) (entries_in s)
            ∙ counts f (entries_in s) (entries_in t) i.inv.good j.inv.good (lists.finds p) (λ x. mine f x && q x) (λ x e. (both (mine f x) (q x) e).0)
            ∙ sym (count-keep q (mine f) (entries_in t)));
        recorded = recorded s t p;
        one_more = λ n h. sym (fits s i.intact) ∙ one_more s t p n (omega (arith, h, places f s)) ∙ fits t j.intact;
      }
