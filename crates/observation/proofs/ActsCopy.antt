-- What a copy lets be seen of a sound table, once its gate lets it pass: the walk over the positions writes what the list of the sources
-- says, since no write changes a source that the walk has yet to meet. Assumes nothing.
use Prim.Native.Nat.{ℕ, zero, suc, ◌+◌, ◌*◌, ◌^◌, ◌≤◌, ◌<◌}
use mathlib.Core.Path.{◌≡◌, refl, sym, ap, ap₂, ◌∙◌, subst}
use mathlib.Core.Bool.{Bool, true, false, cond, ◌||◌, false≢true}
use mathlib.Core.List.{List, [], ◌∷◌, map}
use native.Mathlib.Omega.{arith}
use native.Mathlib.Nat.{not-suc-le-zero, le_of_suc-le-suc}
use lib.Dec.{eqb, ltb}
use lib.ListN.{length, get_or, drop, length-take, drop_of_length-le}
use lib.Seq.{drop-cons}
use borrow.Author.Tests.{eqb-true, eqb-false, eq-eqb, ne_eqb, ltb-true, ltb-false}
use Rattle.words.specs.Constants.{success, insufficient_space, not_found, max_fields, stride}
use Rattle.words.specs.Words.{word_of, scene_of, within, group_keys}
use Rattle.std.specs.Prelude.{Option, Some, None, is_some}
use Rattle.words.specs.declared.SceneKey.{SceneKey}
use Rattle.words.proofs.Ranges.{group_upper}
use Rattle.slots.specs.Slots.{SceneEntry, entry_at, fields_at, length_at, first_key, key_sound}
use Rattle.records.specs.declared.Scope.{Scope}
use Rattle.requests.specs.declared.Membership.{Membership}
use Rattle.requests.specs.declared.CopyRequest.{CopyRequest}
use Rattle.requests.specs.Requests.{whole_group}
use Rattle.state.specs.Table.{Table, Entries, entries_in, with_current}
use Rattle.state.specs.Sound.{sound}
use Rattle.state.specs.Capacity.{room_for}
use Rattle.state.specs.Current.{invalidate_current}
use Rattle.state.specs.Change.{find_scene}
use Rattle.copies.specs.Copy as scenes
use Rattle.copies.specs.Copy.{Copied, copied_of, copy_to, copy_entry, copy_found, copy_single, copy_walk, copy_sources, target_scope, copy_scenes_inner, copy_scene}
use Rattle.state.specs.Answer.{result_of, refused}
use Rattle.state.proofs.Laws.{found_under}
use Rattle.copies.proofs.Laws.{room-free}
use Rattle.observation.specs.Lists.{find, keep}
use Rattle.observation.specs.Calls.{copy, command, step, does, of_result, CommandInRange, scene_key, group_key, copy_request}
use Rattle.observation.specs.Equivalence.{key_is}
use Rattle.observation.proofs.Lists.{has, put}
use Rattle.observation.proofs.Lookups.{holds, found_at, entry_of}
use Rattle.observation.proofs.Changes.{View, view_of, room_in, written, invalidated, written_all}
use Rattle.observation.proofs.Effects.{Seen, gate_of, refuse, done, first, sources, target, scope_of, copied, copy_out}
use Rattle.observation.proofs.Positions.{view_at, view-length}
use Rattle.observation.proofs.Sound.{to_each, word_sound}
use Rattle.observation.proofs.Views.{entries_has, entries-find, entries-length}
use Rattle.observation.proofs.Acts.{Shows, itself, invalidates, writes_over, writes-new, Acts, results, acts_passed}
use Rattle.requests.proofs.Passed.{copy_passed}
use Rattle.observation.proofs.ActsReads.{room}

-- ---- lists

module _ {A : Type 0} where
  put_longer : (h : A → Bool) (x : A) (ys : List A) → length ys ≤ length (put h x ys)
  put_longer h x [] = omega arith
  put_longer h x (y ∷ ys) =
      elim (h y) as (λ b. suc (length ys) ≤ length (cond b (x ∷ ys) (y ∷ put h x ys))) [ true ↦ omega arith | false ↦ omega (arith, put_longer h x ys) ]

  -- a write of what is no source, over what is none, leaves the sources from any position on
  no_source : (r h : A → Bool) (x : A) → r x ≡ false → ((y : A) → h y ≡ true → r y ≡ false) → (ys : List A) (j : ℕ) → keep r (drop j (put h x ys)) ≡ keep r (drop j ys)
  no_source r h x rx hr [] zero = rw rx refl
  no_source r h x rx hr [] (suc j) = ap (keep r) (drop_of_length-le [] {i = j} (omega arith))
  no_source r h x rx hr (y ∷ ys) zero =
      (elim (h y) as (λ b. h y ≡ b → keep r (cond b (x ∷ ys) (y ∷ put h x ys)) ≡ keep r (y ∷ ys)) [
        | true ↦ λ e. rw (rx, hr y e) refl
        | false ↦ λ e. elim (r y) as (λ b. cond b (y ∷ keep r (put h x ys)) (keep r (put h x ys)) ≡ cond b (y ∷ keep r ys) (keep r ys))
            [ true ↦ ap (λ (l : List A). y ∷ l) (no_source r h x rx hr ys 0) | false ↦ no_source r h x rx hr ys 0 ]
      ]) refl
  no_source r h x rx hr (y ∷ ys) (suc j) =
      elim (h y) as (λ b. keep r (drop (suc j) (cond b (x ∷ ys) (y ∷ put h x ys))) ≡ keep r (drop j ys)) [ true ↦ refl | false ↦ no_source r h x rx hr ys j ]

  -- a write at i or before it leaves what stands behind i
  no_later : (d : A) (h : A → Bool) (x : A) (ys : List A) (i : ℕ) → i < length ys → h (get_or ys i d) ≡ true → (j : ℕ) → i < j → drop j (put h x ys) ≡ drop j ys
  no_later d h x [] i l e j m = absurd (not-suc-le-zero l)
  no_later d h x (y ∷ ys) i l e zero m = absurd (not-suc-le-zero m)
  no_later d h x (y ∷ ys) zero l e (suc j) m = rw e refl
  no_later d h x (y ∷ ys) (suc i) l e (suc j) m =
      elim (h y) as (λ b. drop (suc j) (cond b (x ∷ ys) (y ∷ put h x ys)) ≡ drop j ys) [ true ↦ refl | false ↦ no_later d h x ys i (le_of_suc-le-suc l) e j (le_of_suc-le-suc m) ]

-- ---- one entry

-- the entries of a table, and a table with other entries
abbrev its_entries : Table → Entries
its_entries t = record { state = t.state; slots = t.slots }

abbrev with_all : Entries → List ℕ → Table
with_all e r = record { state = e.state; slots = e.slots; records = r }

-- what a copy of the entry at i to a key writes
abbrev copy_of : Table → ℕ → SceneKey → SceneEntry
copy_of t i key = entry_of key (get_or t.slots.times i 0) (fields_at t.slots.fields i)

-- whether it may
abbrev may_copy : Table → SceneKey → Bool
may_copy t key = has (key_is (word_of key)) (view_of t).entries || ltb 0 (room_in key.fabric (view_of t))

-- the status and the entries that a copy leaves, with the records that it is not lent
record Walked (records : List ℕ) (o : Copied) (y : ℕ × View) : Type 0 where
  status : o.status ≡ y.0
  shows : Shows (with_all o.entries records) y.1

module _ (t : Table) (sd : sound t ≡ true) (i : ℕ) (l : i < t.state.entries) (key : SceneKey) (k : key_sound (word_of key) ≡ true) where
  copy-short : length (fields_at t.slots.fields i) ≤ max_fields
  copy-short = omega (arith, (to_each t sd).length_at_lem i l, length-take (length_at t.slots.fields i) (drop (i * stride + 1) t.slots.fields))

  may_is : may_copy t key ≡ (is_some (find_scene key t) || ltb 0 (room_for t.state t.slots.keys key.fabric))
  unfolding view_of
  may_is = ap₂ (λ (b : Bool) (n : ℕ). b || ltb 0 n) (entries_has t (word_of key)) (sym (room key.fabric t))

  copies : may_copy t key ≡ true → Walked t.records (copy_entry i key (its_entries t)) (success, written (copy_of t i key) (view_of t))
  unfolding copy_entry copy_to
  copies e =
      (elim (find_scene key t) as (λ x. find_scene key t ≡ x → (is_some x || ltb 0 (room_for t.state t.slots.keys key.fabric)) ≡ true → Walked t.records (copy_to x i key (its_entries t)) (success, written (copy_of t i key) (view_of t))) [
        | Some p ↦ λ q m. record { status = refl; shows = writes_over key _ _ copy-short k t sd p q }
        | None ↦ λ q m.
            let h = ltb-true 0 (room_for t.state t.slots.keys key.fabric) m in
            let some : room_for t.state t.slots.keys key.fabric ≡ 0 → ⊥ = λ z. omega arith in
            rw (ne_eqb (room_for t.state t.slots.keys key.fabric) 0 some)
            (record { status = refl; shows = writes-new key _ _ copy-short k t sd q (room-free t.state t.slots.keys key.fabric some) })
      ]) refl (sym may_is ∙ e)

  stuck : may_copy t key ≡ false → copy_entry i key (its_entries t) ≡ copied_of insufficient_space (its_entries t)
  unfolding copy_entry copy_to
  stuck e =
      (elim (find_scene key t) as (λ x. (is_some x || ltb 0 (room_for t.state t.slots.keys key.fabric)) ≡ false → copy_to x i key (its_entries t) ≡ copied_of insufficient_space (its_entries t)) [
        | Some p ↦ λ m. absurd (false≢true (sym m))
        | None ↦ λ m. let h = ltb-false 0 (room_for t.state t.slots.keys key.fabric) m in rw (eq-eqb (room_for t.state t.slots.keys key.fabric) 0 (omega arith))
      ]) (sym may_is ∙ e)

-- ---- the walk

-- the status that says whether all were written
abbrev ended : Bool × View → ℕ × View
ended o = (cond o.0 success insufficient_space, o.1)

-- the status that was so far, if there is nothing more to write
abbrev walk_out : ℕ → ℕ → List SceneEntry → View → ℕ × View
walk_out f status [] v = (status, v)
walk_out f status (x ∷ xs) v = ended (written_all f (x ∷ xs) v)

walk_on : (f : ℕ) (xs : List SceneEntry) (v : View) → walk_out f success xs v ≡ ended (written_all f xs v)
unfolding written_all
walk_on f [] v = refl
walk_on f (x ∷ xs) v = refl

-- a write that may be done, and one that may not
all_may : (f : ℕ) (x : SceneEntry) (xs : List SceneEntry) (v : View) → (has (key_is x.key) v.entries || ltb 0 (room_in f v)) ≡ true → written_all f (x ∷ xs) v ≡ written_all f xs (written x v)
unfolding written_all
all_may f x xs v e = rw e

all_stuck : (f : ℕ) (x : SceneEntry) (xs : List SceneEntry) (v : View) → (has (key_is x.key) v.entries || ltb 0 (room_in f v)) ≡ false → written_all f (x ∷ xs) v ≡ (false, v)
unfolding written_all
all_stuck f x xs v e = rw e

written-entries : (u t : Table) (x : SceneEntry) → view_of u ≡ written x (view_of t) → entries_in u ≡ put (key_is x.key) x (entries_in t)
unfolding view_of
written-entries u t x e = ap (λ (v : View). v.entries) e

-- the rest of the entries, from a position on
rest_at : (t : Table) (i : ℕ) → i < t.state.entries → drop i (entries_in t) ≡ entry_at t.slots i ∷ drop (suc i) (entries_in t)
unfolding entries_in
rest_at t i l =
    let d = entry_at t.slots 0 in
    drop-cons (entries_in t) i d (omega (arith, view-length (entry_at t.slots) t.state.entries))
    ∙ ap (λ (x : SceneEntry). x ∷ drop (suc i) (entries_in t)) (view_at (entry_at t.slots) d t.state.entries i l)

module _ (f e g h : ℕ) (f₁ : 1 ≤ f) (hf : f < 2 ^ 8) (he : e < 2 ^ 16) (hg : g < 2 ^ 16) (hh : h < 2 ^ 16) where
  abbrev source : SceneEntry → Bool
  source = holds (group_keys f e g)

  abbrev into : SceneEntry → SceneEntry
  into x = record { key = word_of (scene_key f e h (scene_of x.key)); time = x.time; fields = x.fields }

  -- a key of the target group is no source, unless the groups are one
  other-group : (g ≡ h → ⊥) → (s : ℕ) → s < 2 ^ 8 → within (group_keys f e g) (word_of (scene_key f e h s)) ≡ false
  other-group n s hs =
      (elim (within (group_keys f e g) (word_of (scene_key f e h s))) as (λ b. within (group_keys f e g) (word_of (scene_key f e h s)) ≡ b → b ≡ false) [
        | true ↦ λ q.
            let a = group_upper f e g (word_of (scene_key f e h s)) q in
            absurd (n (omega arith))
        | false ↦ λ _. refl
      ]) refl

  -- a source's key in its own group is its key
  own_key : g ≡ h → (w : ℕ) → within (group_keys f e g) w ≡ true → w ≡ word_of (scene_key f e h (scene_of w))
  own_key z w q = let a = group_upper f e g w q in omega arith

  -- the sources behind i stay as they are
  sources_stay : (es : List SceneEntry) (d : SceneEntry) (i : ℕ) (y : SceneEntry) → i < length es → get_or es i d ≡ y → source y ≡ true → (j : ℕ) → i < j
      → keep source (drop j (put (key_is (into y).key) (into y) es)) ≡ keep source (drop j es)
  sources_stay es d i y l a q j m =
      (elim (eqb g h) as (λ b. eqb g h ≡ b → keep source (drop j (put (key_is (into y).key) (into y) es)) ≡ keep source (drop j es)) [
        | true ↦ λ z.
            let k = ap (key_is (into y).key) a ∙ eq-eqb y.key (into y).key (own_key (eqb-true g h z) y.key q) in
            ap (keep source) (no_later d (key_is (into y).key) (into y) es i l k j m)
        | false ↦ λ z.
            let o = other-group (eqb-false g h z) (scene_of y.key) (omega arith) in
            no_source source (key_is (into y).key) (into y) o (λ x k. ap (within (group_keys f e g)) (eqb-true x.key (into y).key k) ∙ o) es j
      ]) refl

  -- what the walk leaves from i on
  abbrev walks : ℕ → ℕ → ℕ → Entries → Copied
  walks k i status o = copy_walk (group_key f e g) (group_key f e h) k i status o

  abbrev Walks : ℕ → ℕ → ℕ → Table → Type 0
  Walks k i status t = Walked t.records (walks k i status (its_entries t)) (walk_out f status (map into (keep source (drop i (entries_in t)))) (view_of t))

  -- a source that may be copied, and the walk behind it
  module _ (k i : ℕ) (t : Table) (sd : sound t ≡ true) (l : suc i + k ≤ t.state.entries) (z : keep source (drop (suc i + k) (entries_in t)) ≡ [])
      (more : (u : Table) → sound u ≡ true → suc i + k ≤ u.state.entries → keep source (drop (suc i + k) (entries_in u)) ≡ [] → Walks k (suc i) success u)
      (q : source (entry_at t.slots i) ≡ true) where
    abbrev its : SceneEntry
    its = entry_at t.slots i

    abbrev at : SceneKey
    at = scene_key f e h (scene_of its.key)

    abbrev rest : List SceneEntry
    rest = map into (keep source (drop (suc i) (entries_in t)))

    at_sound : key_sound (word_of at) ≡ true
    at_sound = word_sound at f₁ hf he hh (omega arith)

    stay : (j : ℕ) → i < j → keep source (drop j (put (key_is (into its).key) (into its) (entries_in t))) ≡ keep source (drop j (entries_in t))
    unfolding entries_in
    stay j m =
        let d = entry_at t.slots 0 in
        sources_stay (entries_in t) d i its (omega (arith, entries-length t)) (view_at (entry_at t.slots) d t.state.entries i (omega arith)) q j m

    behind : may_copy t at ≡ true → Walked t.records (walks k (suc i) success (copy_entry i at (its_entries t)).entries) (ended (written_all f rest (written (into its) (view_of t))))
    behind m =
        let c = copies t sd i (omega arith) at at_sound m in
        let u = with_all (copy_entry i at (its_entries t)).entries t.records in
        let es = written-entries u t (into its) c.shows.view in
        let longer : suc i + k ≤ u.state.entries =
        omega (arith, entries-length u, ap length es, put_longer (key_is (into its).key) (into its) (entries_in t), entries-length t) in
        let kept : (j : ℕ) → i < j → keep source (drop j (entries_in u)) ≡ keep source (drop j (entries_in t)) =
        λ j n. ap (λ (ys : List SceneEntry). keep source (drop j ys)) es ∙ stay j n in
        subst (Walked t.records (walks k (suc i) success (copy_entry i at (its_entries t)).entries))
        (ap₂ (λ (ys : List SceneEntry) (v : View). walk_out f success (map into ys) v) (kept (suc i) (omega arith)) c.shows.view ∙ walk_on f rest (written (into its) (view_of t)))
        (more u c.shows.stays longer (kept (suc i + k) (omega arith) ∙ z))

    from-source : Walked t.records
        (cond (eqb (copy_entry i at (its_entries t)).status success) (walks k (suc i) success (copy_entry i at (its_entries t)).entries) (copy_entry i at (its_entries t)))
        (ended (written_all f (into its ∷ rest) (view_of t)))
    from-source =
        let o = copy_entry i at (its_entries t) in
        (elim (may_copy t at) as (λ b. may_copy t at ≡ b
        → Walked t.records (cond (eqb o.status success) (walks k (suc i) success o.entries) o) (ended (written_all f (into its ∷ rest) (view_of t)))) [
          | true ↦ λ m. rw (eq-eqb o.status success (copies t sd i (omega arith) at at_sound m).status, all_may f (into its) rest (view_of t) m) (behind m)
          | false ↦ λ m. rw (stuck t sd i (omega arith) at at_sound m, all_stuck f (into its) rest (view_of t) m) (record { status = refl; shows = itself t sd })
        ]) refl

  walk : (k i status : ℕ) (t : Table) → sound t ≡ true → i + k ≤ t.state.entries → keep source (drop (i + k) (entries_in t)) ≡ [] → Walks k i status t
  unfolding copy_walk
  walk zero i status t sd l z =
      let n : i + 0 ≡ i = omega arith in
      let y : keep source (drop i (entries_in t)) ≡ [] = ap (λ (j : ℕ). keep source (drop j (entries_in t))) (sym n) ∙ z in
      rw y (record { status = refl; shows = itself t sd })
  walk (suc k) i status t sd l z =
      let x = entry_at t.slots i in
      let key = scene_key f e h (scene_of x.key) in
      let xs = keep source (drop (suc i) (entries_in t)) in
      let o = copy_entry i key (its_entries t) in
      let n : i + suc k ≡ suc i + k = omega arith in
      let y : keep source (drop (suc i + k) (entries_in t)) ≡ [] = ap (λ (j : ℕ). keep source (drop j (entries_in t))) (sym n) ∙ z in
      rw (rest_at t i (omega arith))
      ((elim (source x) as (λ b. source x ≡ b
      → Walked t.records (cond b (cond (eqb o.status success) (walks k (suc i) success o.entries) o) (walks k (suc i) status (its_entries t))) (walk_out f status (map into (cond b (x ∷ xs) xs)) (view_of t))) [
        | true ↦ λ q. from-source k i t sd (omega arith) y (walk k (suc i) success) q
        | false ↦ λ q. walk k (suc i) status t sd (omega arith) y
      ]) refl)

-- ---- one scene

module _ (f e h r : ℕ) (f₁ : 1 ≤ f) (hf : f < 2 ^ 8) (he : e < 2 ^ 16) (hh : h < 2 ^ 16) (hr : r < 2 ^ 8) (t : Table) (sd : sound t ≡ true) where
  one_scene_lem : (w : ℕ) (x : Option ℕ) → first_key t.slots.keys t.state.entries w ≡ x
      → Walked t.records (copy_found x (scene_key f e h r) (its_entries t))
      (walk_out f not_found (map (λ y. record { key = word_of (scene_key f e h r); time = y.time; fields = y.fields }) (first (found_at (entry_at t.slots) x))) (view_of t))
  unfolding copy_found written_all
  one_scene_lem w None q = record { status = refl; shows = itself t sd }
  one_scene_lem w (Some i) q =
      let key = scene_key f e h r in
      let l = found_under t.slots.keys t.state.entries w i q in
      let k = word_sound key f₁ hf he hh hr in
      (elim (may_copy t key) as (λ b. may_copy t key ≡ b
      → Walked t.records (copy_entry i key (its_entries t)) (ended (cond b (true, written (copy_of t i key) (view_of t)) (false, view_of t)))) [
        | true ↦ λ m. copies t sd i l key k m
        | false ↦ λ m. rw (stuck t sd i l key k m) (record { status = refl; shows = itself t sd })
      ]) refl

-- ---- the call

-- the answer and the invalidation by the status
abbrev settled : Scope → ℕ × View → Seen
settled scope y = cond (eqb y.0 success) (done true, invalidated scope y.1) (refuse y.0, y.1)

settles : (c : CopyRequest) (t : Table) (o : Copied) (y : ℕ × View) → Walked t.records o y → Acts (of_result (scenes.copied c t o)) (settled (target_scope c) y)
unfolding scenes.copied
settles c t o y w =
    let u = with_all o.entries t.records in
    rw w.status
    (elim (eqb y.0 success) as (λ b. Acts
    (of_result (cond b (result_of success true (with_current (invalidate_current (target_scope c)) u)) (result_of y.0 false u)))
    (cond b (done true, invalidated (target_scope c) y.1) (refuse y.0, y.1))) [
      | true ↦ results success true _ _ (invalidates (target_scope c) u y.1 w.shows)
      | false ↦ results y.0 false u y.1 w.shows
    ])

settled_out : (f : ℕ) (scope : Scope) (xs : List SceneEntry) (v : View) → settled scope (walk_out f not_found xs v) ≡ copy_out f scope xs v
settled_out f scope [] v = refl
settled_out f scope (x ∷ xs) v =
    let o = written_all f (x ∷ xs) v in
    elim o.0 as (λ b. settled scope (ended (b, o.1)) ≡ copied scope (b, o.1)) [ true ↦ refl | false ↦ refl ]

module _ (f e : ℕ) (t : Table) (sd : sound t ≡ true) (hf : f < 2 ^ 8) (he : e < 2 ^ 16) where
  all_sources : (mode g s h r : ℕ) → 1 ≤ f → g < 2 ^ 16 → h < 2 ^ 16 → r < 2 ^ 8
      → Walked t.records (copy_sources (copy_request f e mode g s h r) (its_entries t)) (walk_out f not_found (map (target f e mode h r) (sources f e mode g s (view_of t))) (view_of t))
  unfolding copy_sources copy_single view_of
  all_sources mode g s h r f₁ hg hh hr =
      let n = t.state.entries in
      let from = scene_key f e g s in
      let here = keep (holds (group_keys f e g)) (entries_in t) in
      elim (whole_group mode) as (λ b. Walked t.records
      (cond b (copy_walk (group_key f e g) (group_key f e h) n 0 not_found (its_entries t)) (copy_single from (scene_key f e h r) (its_entries t)))
      (walk_out f not_found
      (map (λ x. record { key = word_of (scene_key f e h (cond b (scene_of x.key) r)); time = x.time; fields = x.fields }) (cond b here (first (find (key_is (word_of from)) (entries_in t)))))
      (view_of t))) [
        | true ↦ walk f e g h f₁ hf he hg hh n 0 not_found t sd (omega arith) (ap (keep (holds (group_keys f e g))) (drop_of_length-le (entries_in t) {i = 0 + n} (omega (arith, entries-length t))))
        | false ↦ rw (entries-find t (word_of from)) (one_scene_lem f e h r f₁ hf he hh hr t sd (word_of from) (first_key t.slots.keys n (word_of from)) refl)
      ]

  pub copy_acts : (mode g s h r : ℕ) (m n : Membership) → CommandInRange (copy mode g s h r m n) → gate_of f e (copy mode g s h r m n) ≡ success
      → Acts (step (command f e (copy mode g s h r m n)) t)
      (cond (eqb (room_in f (view_of t)) 0) (refuse insufficient_space, view_of t)
      (copy_out f (scope_of f e mode h r) (map (target f e mode h r) (sources f e mode g s (view_of t))) (view_of t)))
  unfolding step does copy_scene copy_scenes_inner
  copy_acts mode g s h r m n w p =
      let c = copy_request f e mode g s h r in
      let o = copy_sources c (its_entries t) in
      let xs = map (target f e mode h r) (sources f e mode g s (view_of t)) in
      let a = settles c t o _ (all_sources mode g s h r (copy_passed c m n p).0 w.1 w.3 w.4) in
      acts_passed (refused t) t sd _ _ of_result _ p
      (rw (room f t)
      (elim (eqb (room_in f (view_of t)) 0) as (λ b. Acts (of_result (cond b (refused t insufficient_space) (scenes.copied c t o)))
      (cond b (refuse insufficient_space, view_of t) (copy_out f (scope_of f e mode h r) xs (view_of t)))) [
        | true ↦ results insufficient_space false t (view_of t) (itself t sd)
        | false ↦ subst (Acts (of_result (scenes.copied c t o))) (settled_out f (scope_of f e mode h r) xs (view_of t)) a
      ]))
