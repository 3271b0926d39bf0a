-- What the share mode promises: from an empty table no fabric gets past its share, and below it only a full table is short of a place.
-- Assumes nothing.
use Prim.Native.Nat.{ℕ, ◌-◌, ◌/◌, ◌%◌, ◌^◌, ◌≤◌, ◌<◌, zero-le}
use native.Mathlib.Omega.{arith}
use mathlib.Core.Path.{◌≡◌, refl, sym, ap, ◌∙◌, subst}
use mathlib.Core.Bool.{Bool, true, false, cond, not, ◌&&◌, ◌||◌, false≢true}
use mathlib.Core.List.{List, [], ◌∷◌, ◌++◌, map}
use lib.Dec.{eqb, ltb}
use lib.ListN.{length}
use borrow.Author.Tests.{ltb-true, ltb-false, eqb-true, eqb-false, not-true}
use Rattle.words.specs.Constants.{success, insufficient_space, max_fields, end_of_container}
use Rattle.words.specs.Words.{word_of, fabric_of, group_keys}
use Rattle.words.specs.Below.{positions}
use Rattle.words.proofs.Tests.{and_left, and_right}
use Rattle.slots.specs.Slots.{SceneEntry}
use Rattle.records.specs.declared.Scope.{Scope}
use Rattle.records.specs.declared.Scope.TheVariants.{Scene, Group, Endpoint}
use Rattle.requests.specs.Requests.{fields_gate}
use Rattle.reads.specs.Reads.{recall_lookup}
use Rattle.state.specs.Table.{Table, entries_in}
use Rattle.state.specs.Sound.{sound}
use Rattle.state.specs.Capacity.{share_mode}
use Rattle.state.proofs.Laws.{sound_bounds}
use Rattle.observation.specs.Lists.{bit, count, find, keep}
use Rattle.observation.specs.Calls.{Command, add, add_read, view, remove, remove_all, store, recall, copy, membership, info, Call, command, notice, removal, reset, start, failSafeEvent, load, answer, next, step, does, with_state, scene_key, group_key, copy_request, CommandInRange, InRange}
use Rattle.observation.specs.Equivalence.{Reached, empty, after, key_is, mine}
use Rattle.requests.specs.declared.Membership.{Membership}
use Rattle.requests.specs.declared.Membership.TheVariants.{Yes, No, Failed}
use Rattle.observation.specs.Numbers.{one_of, Among, failing}
use Rattle.observation.specs.Share.{brings, NoneSince, WithinShare, long_fields, OnlyWhenFull}
use Rattle.observation.proofs.Lists.{has, take_out}
use Rattle.observation.proofs.Lookups.{holds, entry_of}
use Rattle.observation.proofs.Changes.{View, view_of, used_in, room_in, share_in, places_in, place_for, entries_set, written, invalidated, remembered, written_all}
use Rattle.observation.proofs.Effects.{Seen, sees, refuse, done, gate_of, time_of, applied, add_out, sources, target, scope_of, copy_out, ids_in}
use Rattle.observation.proofs.Counts.{count-put, count_take_out}
use Rattle.observation.proofs.Choices.{cond_elim, or_none, or_other, count_keep_le}
use Rattle.observation.proofs.Bits.{key-fabric}
use Rattle.observation.proofs.Places.{by_mode, share-places}
use Rattle.observation.proofs.Views.{entries-length}
use Rattle.observation.proofs.Invariant.{placed}
use Rattle.observation.proofs.CopyViews.{AllMine, mine_of, used-put}
use Rattle.observation.proofs.RespondCopy.{own_targets}
use Rattle.observation.proofs.Calls.{laws, step-sound}
use Rattle.observation.proofs.Reach.{reached_standing}
use Rattle.observation.proofs.Numbers.{add_gate_is, add_read_gate_is, store_gate_is, copy_gate_is, view-numbers, remove-numbers, remove_all-numbers, recall-numbers, membership-numbers, info-numbers}
use Rattle.observation.proofs.Modes.{modes_stay_run}

-- ---- within the share

-- no fabric has more than its share
abbrev Bounded : View → Type 0
Bounded v = (f : ℕ) → used_in f v ≤ (v.size - 1) / 2

-- other entries, of which no fabric has more than before
bounded_fewer : (es : List SceneEntry) (v : View) → ((f : ℕ) → count (mine f) es ≤ used_in f v) → Bounded v → Bounded (entries_set es v)
bounded_fewer es v less b f = omega (arith, less f, b f)

bounded_invalidated : (scope : Scope) (v : View) → Bounded v → Bounded (invalidated scope v)
unfolding invalidated
bounded_invalidated scope v b = b

module _ (f : ℕ) where
  room-left : (v : View) → 0 < room_in f v → used_in f v < (v.size - 1) / 2
  unfolding room_in
  room-left v h = omega arith

  -- a write of the fabric that has its place
  bounded_put : (x : SceneEntry) (v : View) → fabric_of x.key ≡ f → (has (key_is x.key) v.entries ≡ false → 0 < room_in f v) → Bounded v
      → Bounded (written x v)
  bounded_put x v own room b g =
      let k = key_is x.key in
      (elim (eqb f g) as (λ c. eqb f g ≡ c → used_in g (written x v) ≤ (v.size - 1) / 2) [
        | true ↦ λ e. subst (λ (h : ℕ). used_in h (written x v) ≤ (v.size - 1) / 2) (eqb-true f g e)
            ((elim (has k v.entries) as (λ c. has k v.entries ≡ c → used_in f (written x v) ≤ (v.size - 1) / 2) [
              | true ↦ λ q. omega (arith, used-put f x v own, ap bit q, b f)
              | false ↦ λ q. omega (arith, used-put f x v own, ap bit q, room-left v (room q))
            ]) refl)
        | false ↦ λ e. omega (arith, count-put (mine g) k x v.entries, ap (λ (h : ℕ). bit (eqb h g)) own, ap bit e, b g)
      ]) refl

  bounded_all : (xs : List SceneEntry) (v : View) → AllMine f xs → Bounded v → Bounded (written_all f xs v).1
  unfolding written_all
  bounded_all [] v m b = b
  bounded_all (x ∷ xs) v m b =
      let here = has (key_is x.key) v.entries in
      let more = ltb 0 (room_in f v) in
      cond_elim (λ (o : Bool × View). Bounded o.1) (here || more)
      (λ e.
      bounded_all xs (written x v) (omega arith)
      (bounded_put x v (mine_of f x (count (λ y. not (mine f y)) xs) m) (λ n. ltb-true 0 (room_in f v) (or_other here more e n)) b))
      (λ _. b)

  bounded_copy : (scope : Scope) (xs : List SceneEntry) (v : View) → AllMine f xs → Bounded v → Bounded (copy_out f scope xs v).1
  bounded_copy scope [] v m b = b
  bounded_copy scope (x ∷ xs) v m b =
      let o = written_all f (x ∷ xs) v in
      let c = bounded_all (x ∷ xs) v m b in
      cond_elim (λ (s : Seen). Bounded s.1) o.0 (λ _. bounded_invalidated scope o.1 c) (λ _. c)

  -- an upsert in share mode
  bounded_upsert : (x : SceneEntry) (v : View) → fabric_of x.key ≡ f → share_in v ≡ true → place_for f x.key v ≡ true → Bounded v
      → Bounded (written x v)
  bounded_upsert x v own share q =
      bounded_put x v own (λ n. subst (λ (m : ℕ). 0 < m) (share-places f v share) (placed f x.key v q n))

-- what a command that its gate lets pass leaves
module _ (f e : ℕ) (t : Table) (sd : sound t ≡ true) (hf : f < 2 ^ 8) (he : e < 2 ^ 16)
    (share : share_in (view_of t) ≡ true) (b : Bounded (view_of t)) where
  abbrev v : View
  v = view_of t

  abbrev Leaves : Seen → Type 0
  Leaves o = Bounded o.1

  bounded_add : (g s time : ℕ) (ext : List ℕ) → g < 2 ^ 16 → s < 2 ^ 8 → Leaves (add_out (scene_key f e g s) time ext v)
  bounded_add g s time ext hg hs =
      let key = scene_key f e g s in
      let x = entry_of key time ext in
      cond_elim Leaves (place_for f (word_of key) v)
      (λ q. bounded_invalidated (Scene key) (written x v) (bounded_upsert f x v (key-fabric f e g s hf he hg hs) share q b)) (λ _. b)

  passed_bounded : (c : Command) → CommandInRange c → gate_of f e c ≡ success → Leaves (sees (command f e c) t)
  unfolding remembered
  passed_bounded (add g s time m pairs ext) h z =
      subst Leaves (sym ((laws.commands f e t sd hf he).add_acts g s time m pairs ext h z)) (bounded_add g s time ext h.0 h.1)
  passed_bounded (add_read g s time m pairs ext) h z =
      subst Leaves (sym ((laws.commands f e t sd hf he).add_read_acts g s time m pairs ext h z)) (bounded_add g s time ext h.0 h.1)
  passed_bounded (view g s m) h z = subst Leaves (sym ((laws.commands f e t sd hf he).view_acts g s m h z)) b
  passed_bounded (remove g s m) h z =
      let key = scene_key f e g s in
      subst Leaves (sym ((laws.commands f e t sd hf he).remove_acts g s m h z))
      (cond_elim Leaves (has (key_is (word_of key)) v.entries)
      (λ _.
      bounded_invalidated (Scene key) (entries_set (take_out (key_is (word_of key)) v.entries) v)
      (bounded_fewer (take_out (key_is (word_of key)) v.entries) v (λ n. omega (arith, count_take_out (mine n) (key_is (word_of key)) v.entries)) b))
      (λ _. b))
  passed_bounded (remove_all g m) h z =
      let inside = holds (group_keys f e g) in
      let outside : SceneEntry → Bool = λ x. not (inside x) in
      subst Leaves (sym ((laws.commands f e t sd hf he).remove_all_acts g m h z))
      (cond_elim Leaves (has inside v.entries)
      (λ _.
      bounded_invalidated (Group (group_key f e g)) (entries_set (keep outside v.entries) v)
      (bounded_fewer (keep outside v.entries) v (λ n. count_keep_le (mine n) outside v.entries) b))
      (λ _. b))
  passed_bounded (store g s m captured) h z =
      let key = scene_key f e g s in
      let x = entry_of key (time_of (find (key_is (word_of key)) v.entries)) (captured ++ (end_of_container ∷ [])) in
      subst Leaves (sym ((laws.commands f e t sd hf he).store_acts g s m captured h z))
      (cond_elim Leaves (place_for f (word_of key) v)
      (λ q. bounded_invalidated (Scene key) (written x v) (bounded_upsert f x v (key-fabric f e g s hf he h.0 h.1) share q b)) (λ _. b))
  passed_bounded (recall g s m o a) h z =
      subst Leaves (sym ((laws.commands f e t sd hf he).recall_acts g s m o a h z))
      (cond_elim Bounded (has (key_is (word_of (scene_key f e g s))) v.entries && applied a) (λ _. b) (λ _. b))
  passed_bounded (copy mode g s k r m n) h z =
      subst Leaves (sym ((laws.commands f e t sd hf he).copy_acts mode g s k r m n h z))
      (cond_elim Leaves (eqb (room_in f v) 0) (λ _. b)
      (λ _.
      bounded_copy f (scope_of f e mode k r) (map (target f e mode k r) (sources f e mode g s v)) v
      (own_targets f e mode g k r hf he h.1 h.3 h.4 (sources f e mode g s v)) b))
  passed_bounded (membership g m buffer) h z =
      subst Leaves (sym ((laws.commands f e t sd hf he).membership_acts g m buffer h z))
      (cond_elim Leaves (ltb (length buffer) (length (ids_in f e g v))) (λ _. b) (λ _. b))
  passed_bounded (info single) h z = subst Leaves (sym ((laws.commands f e t sd hf he).info_acts single z)) b

  command_bounded : (c : Command) → CommandInRange c → Leaves (sees (command f e c) t)
  command_bounded c h =
      (elim (eqb (gate_of f e c) 0) as (λ x. eqb (gate_of f e c) 0 ≡ x → Leaves (sees (command f e c) t)) [
        | true ↦ λ z. passed_bounded c h (eqb-true (gate_of f e c) 0 z)
        | false ↦ λ z. subst Leaves (sym ((laws.commands f e t sd hf he).refused_acts c h (eqb-false (gate_of f e c) 0 z))) b
      ]) refl

-- what any call but a load leaves
step_bounded : (c : Call) (t : Table) → InRange c → brings c ≡ false → sound t ≡ true → share_in (view_of t) ≡ true → Bounded (view_of t)
    → Bounded (sees c t).1
step_bounded (command f e c) t h n sd share b = command_bounded f e t sd h.0 h.1 share b c h.2
step_bounded (notice e) t h n sd share b =
    subst (λ (o : Seen). Bounded o.1) (sym ((laws.events t sd).notice_acts e h)) (bounded_invalidated (Endpoint e) (view_of t) b)
step_bounded (removal f) t h n sd share b =
    (elim (eqb f 0) as (λ x. eqb f 0 ≡ x → Bounded (sees (removal f) t).1) [
      | true ↦ λ z.
          subst (λ (k : ℕ). Bounded (sees (removal k) t).1) (sym (eqb-true f 0 z))
          (subst (λ (o : Seen). Bounded o.1) (sym (laws.events t sd).removal-refused) b)
      | false ↦ λ z.
          subst (λ (o : Seen). Bounded o.1) (sym ((laws.events t sd).removal_acts f h (eqb-false f 0 z)))
          (λ g. omega (arith, count_keep_le (mine g) (λ x. not (mine f x)) (view_of t).entries, b g))
    ]) refl
step_bounded reset t h n sd share b = subst (λ (o : Seen). Bounded o.1) (sym (laws.events t sd).reset_acts) (λ g. zero-le)
step_bounded start t h n sd share b = subst (λ (o : Seen). Bounded o.1) (sym (laws.events t sd).start_acts) (λ g. zero-le)
step_bounded failSafeEvent t h n sd share b = subst (λ (o : Seen). Bounded o.1) (sym (laws.events t sd).fail_safe_acts) b
step_bounded (load image) t h n sd share b = absurd (false≢true (sym n))

empty_bounded : (t : Table) → t.state.entries ≡ 0 → Bounded (view_of t)
unfolding view_of entries_in positions
empty_bounded t e f = rw e zero-le

shared_before : (c : Call) (t : Table) → share_mode (next c t).state ≡ true → share_mode t.state ≡ true
shared_before c t e = subst (λ (m : ℕ). eqb (m % 2) 1 ≡ true) (modes_stay_run c t) e

reached_bounded : {t : Table} (r : Reached t) → NoneSince brings r → share_mode t.state ≡ true → Bounded (view_of t)
unfolding view_of
reached_bounded (empty t s e r) n share = empty_bounded t e
reached_bounded (after c {t} h r) n share =
    let before = shared_before c t share in
    step_bounded c t h n.0 (reached_standing laws r).intact before (reached_bounded r n.1 before)

pub within-share : WithinShare
unfolding view_of
within-share t r n share f = reached_bounded r n share f

-- ---- only when full

module _ (f : ℕ) where
  -- 0x89 to a fabric below its share, then a full table
  abbrev Full : Seen → Type 0
  Full o = o.0.status ≡ insufficient_space → used_in f o.1 < (o.1.size - 1) / 2 → o.1.size ≤ length o.1.entries

  room_full : (v : View) → room_in f v ≡ 0 → used_in f v < (v.size - 1) / 2 → v.size ≤ length v.entries
  unfolding room_in
  room_full v e h = omega arith

  places_full : (v : View) → places_in f v ≡ 0 → used_in f v < (v.size - 1) / 2 → v.size ≤ length v.entries
  places_full v = by_mode f v (λ n. n ≡ 0 → used_in f v < (v.size - 1) / 2 → v.size ≤ length v.entries) (λ _. room_full v) (λ _ e h. omega arith)

  -- an upsert that finds no place
  upsert_full : (k : ℕ) (v w : View) → Full (cond (place_for f k v) (done true, w) (refuse insufficient_space, v))
  upsert_full k v w =
      let here = has (key_is k) v.entries in
      cond_elim Full (place_for f k v) (λ _ z. absurd (omega arith))
      (λ q _. places_full v (omega (arith, ltb-false 0 (places_in f v) (or_none here (ltb 0 (places_in f v)) q).1)))

  all_full : (xs : List SceneEntry) (v : View) → (written_all f xs v).0 ≡ false → room_in f (written_all f xs v).1 ≡ 0
  unfolding written_all
  all_full [] v e = absurd (false≢true (sym e))
  all_full (x ∷ xs) v e =
      let here = has (key_is x.key) v.entries in
      let more = ltb 0 (room_in f v) in
      cond_elim (λ (o : Bool × View). o.0 ≡ false → room_in f o.1 ≡ 0) (here || more) (λ _. all_full xs (written x v))
      (λ q _. omega (arith, ltb-false 0 (room_in f v) (or_none here more q).1)) e

  copy_full : (scope : Scope) (xs : List SceneEntry) (v : View) → Full (copy_out f scope xs v)
  copy_full scope [] v z = absurd (omega arith)
  copy_full scope (x ∷ xs) v z =
      let o = written_all f (x ∷ xs) v in
      cond_elim Full o.0 (λ _ n. absurd (omega arith)) (λ q _. room_full o.1 (all_full (x ∷ xs) v q)) z

-- a number that is not 0x89
abbrev Other : ℕ → Type 0
Other n = n ≡ insufficient_space → ⊥

no : (n : ℕ) → eqb n insufficient_space ≡ false → Other n
no n e = eqb-false n insufficient_space e

-- one of a list without 0x89
among_other : (ms : List ℕ) (n : ℕ) → Among ms n → one_of ms insufficient_space ≡ false → Other n
among_other ms n a e z = false≢true (sym e ∙ subst (λ (k : ℕ). one_of ms k ≡ true) z a)

one_append : (ms ns : List ℕ) (n : ℕ) → one_of (ms ++ ns) n ≡ (one_of ms n || one_of ns n)
one_append [] ns n = refl
one_append (m ∷ ms) ns n = elim (eqb m n) as (λ b. (b || one_of (ms ++ ns) n) ≡ ((b || one_of ms n) || one_of ns n)) [ true ↦ refl | false ↦ one_append ms ns n ]

-- the same of a call that is told a membership
among_told : (ms : List ℕ) (m : Membership) (n : ℕ) → Among (ms ++ failing m) n → one_of ms insufficient_space ≡ false → Other n
among_told ms m n a e =
    among_other (ms ++ failing m) n a
    (one_append ms (failing m) insufficient_space
    ∙ (λ i. e i || elim m as (λ x. one_of (failing x) insufficient_space ≡ false) [ Yes ↦ refl | No ↦ refl | Failed ↦ refl ] i))

-- fields that are not long are no reason
short : (len : ℕ) → ltb max_fields len ≡ false → Other (fields_gate max_fields len)
short len e z = absurd (omega (arith, ap (λ (b : Bool). cond b insufficient_space success) e))

module _ (f e : ℕ) (t : Table) (sd : sound t ≡ true) (hf : f < 2 ^ 8) (he : e < 2 ^ 16) where
  -- refused by the request alone, or by the table
  gated : (c : Command) → CommandInRange c → Other (gate_of f e c) → (gate_of f e c ≡ success → Full f (sees (command f e c) t))
      → Full f (sees (command f e c) t)
  gated c h n y =
      (elim (eqb (gate_of f e c) 0) as (λ x. eqb (gate_of f e c) 0 ≡ x → Full f (sees (command f e c) t)) [
        | true ↦ λ z. y (eqb-true (gate_of f e c) 0 z)
        | false ↦ λ z. subst (Full f) (sym ((laws.commands f e t sd hf he).refused_acts c h (eqb-false (gate_of f e c) 0 z))) (λ q. absurd (n q))
      ]) refl

  never : (c : Command) → Other (answer (command f e c) t).status → Full f (sees (command f e c) t)
  never c n z = absurd (n z)

  full : (c : Command) → CommandInRange c → long_fields c ≡ false → Full f (sees (command f e c) t)
  unfolding step does
  full (add g s time m pairs ext) h n =
      gated (add g s time m pairs ext) h
      (add_gate_is Other (no 0 refl) (no 1 refl) (no 0x87 refl) (no 0x85 refl) m (λ _. no 2 refl) (no 7 refl) (scene_key f e g s) time pairs (length ext) (short (length ext) n))
      (λ z.
      subst (Full f) (sym ((laws.commands f e t sd hf he).add_acts g s time m pairs ext h z))
      (upsert_full f (word_of (scene_key f e g s)) (view_of t) _))
  full (add_read g s time m pairs ext) h n =
      gated (add_read g s time m pairs ext) h
      (add_read_gate_is Other (no 0 refl) (no 1 refl) (no 0x87 refl) (no 0x85 refl) m (λ _. no 2 refl) (no 7 refl) (no 11 refl) (scene_key f e g s) time pairs ext (short (length ext) n))
      (λ z.
      subst (Full f) (sym ((laws.commands f e t sd hf he).add_read_acts g s time m pairs ext h z))
      (upsert_full f (word_of (scene_key f e g s)) (view_of t) _))
  full (store g s m captured) h n =
      gated (store g s m captured) h
      (store_gate_is Other (no 0 refl) (no 1 refl) (no 0x87 refl) (no 0x85 refl) m (λ _. no 2 refl) (no 3 refl) (scene_key f e g s) (length captured))
      (λ z.
      subst (Full f) (sym ((laws.commands f e t sd hf he).store_acts g s m captured h z))
      (upsert_full f (word_of (scene_key f e g s)) (view_of t) _))
  full (copy mode g s k r m n') h n =
      gated (copy mode g s k r m n') h
      (copy_gate_is Other (no 0 refl) (no 1 refl) (no 0x87 refl) (no 0x85 refl) m (λ _. no 2 refl) (copy_request f e mode g s k r) n' (λ _. no 2 refl))
      (λ z.
      subst (Full f) (sym ((laws.commands f e t sd hf he).copy_acts mode g s k r m n' h z))
      (cond_elim (Full f) (eqb (room_in f (view_of t)) 0) (λ q _. room_full f (view_of t) (eqb-true (room_in f (view_of t)) 0 q))
      (λ _. copy_full f (scope_of f e mode k r) (map (target f e mode k r) (sources f e mode g s (view_of t))) (view_of t))))
  full (view g s m) h n =
      never (view g s m) (among_told (0 ∷ 1 ∷ 6 ∷ 0x85 ∷ 0x87 ∷ 0x8B ∷ []) m _ (view-numbers (scene_key f e g s) m t) refl)
  full (remove g s m) h n =
      never (remove g s m) (among_told (0 ∷ 1 ∷ 6 ∷ 0x85 ∷ 0x87 ∷ 0x8B ∷ []) m _ (remove-numbers (scene_key f e g s) m t) refl)
  full (remove_all g m) h n = never (remove_all g m) (among_told (0 ∷ 1 ∷ 6 ∷ 0x85 ∷ []) m _ (remove_all-numbers (group_key f e g) m t) refl)
  full (recall g s m o a) h n =
      let key = scene_key f e g s in
      never (recall g s m o a)
      (among_told (0 ∷ 1 ∷ 4 ∷ 6 ∷ 0x85 ∷ 0x87 ∷ 0x8B ∷ []) m _ (recall-numbers key m (with_state (recall_lookup key m o t).state t) a) refl)
  full (membership g m buffer) h n =
      never (membership g m buffer) (among_told (0 ∷ 1 ∷ 6 ∷ 8 ∷ 0x85 ∷ []) m _ (membership-numbers (group_key f e g) m t buffer) refl)
  full (info single) h n = never (info single) (among_other (0 ∷ 1 ∷ 5 ∷ 6 ∷ []) _ (info-numbers f e single t) refl)

pub only_when_full : OnlyWhenFull
unfolding view_of
only_when_full f e c t h sd want below =
    let u = next (command f e c) t in
    let space = eqb (answer (command f e c) t).status insufficient_space in
    let z = eqb-true (answer (command f e c) t).status insufficient_space (and_left space (not (long_fields c)) want) in
    let n = not-true (long_fields c) (and_right space (not (long_fields c)) want) in
    let most = full f e t sd h.0 h.1 c h.2 n z below in
    omega (arith, most, entries-length u, (sound_bounds u (step-sound (command f e c) t h sd)).entries)
