-- The laws of the definitions, as their callers meet them. Assumes nothing.
use Rattle.std.proofs.Common.{◌≡◌, ℕ, ◌+◌, ◌*◌, ◌<◌, ◌≤◌, Bool, true, false, cond, eqb, List, length, sym, refl, ap, ◌∙◌, subst, ⊎_elim, arith, eq-eqb, ne_eqb, leb-true}
use mathlib.Core.Path.{subst⁻¹}
use Rattle.words.specs.Constants.{max_scenes, max_fields, stride, success, insufficient_space}
use Rattle.words.specs.Words.{word_of}
use Rattle.std.specs.Prelude.{Option, Some, None}
use Rattle.words.specs.declared.SceneKey.{SceneKey}
use Rattle.words.proofs.Tests.{all_head, all_tail}
use Rattle.words.proofs.Below.{every_at, first_under}
use Rattle.slots.specs.Slots.{slots_of, first_key, put_slot, lengths_sound, length_at}
use Rattle.records.specs.declared.Scope.TheVariants.{Scene}
use Rattle.state.specs.declared.ScenesState.{ScenesState}
use Rattle.state.specs.Table.{Table, table_of, current_of, Room, with_entries, with_entry_count}
use Rattle.state.specs.Sound.{in_bounds, sound}
use Rattle.state.specs.Capacity.{share_mode, may_append, place_for}
use Rattle.state.specs.Current.{invalidate_current}
use Rattle.state.specs.Change.{find_scene, put_at, append, Upserted, upserted_of, written, upsert_at, upsert, plain_at, UpsertByShare}
use Rattle.state.proofs.Capacity.{may_free, may_fits, placed}

-- ---- soundness

pub record InBounds (s : ScenesState) (ks ts fs rs : ℕ) : Type 0 where
  pub most : s.size ≤ max_scenes
  pub entries : s.entries ≤ s.size
  pub recorded : s.recorded ≤ s.size
  pub keys : s.size ≤ ks
  pub times : s.size ≤ ts
  pub fields : s.size * stride ≤ fs
  pub records : s.size ≤ rs

pub in_bounds_lem : (s : ScenesState) (ks ts fs rs : ℕ) → in_bounds s ks ts fs rs ≡ true → InBounds s ks ts fs rs
unfolding in_bounds
in_bounds_lem s ks ts fs rs e =
    let e1 = all_tail _ _ e in
    let e2 = all_tail _ _ e1 in
    let e3 = all_tail _ _ e2 in
    let e4 = all_tail _ _ e3 in
    let e5 = all_tail _ _ e4 in
    let e6 = all_tail _ _ e5 in
    record {
      most = leb-true _ _ (all_head _ _ e);
      entries = leb-true _ _ (all_head _ _ e1);
      recorded = leb-true _ _ (all_head _ _ e2);
      keys = leb-true _ _ (all_head _ _ e3);
      times = leb-true _ _ (all_head _ _ e4);
      fields = leb-true _ _ (all_head _ _ e5);
      records = leb-true _ _ (all_head _ _ e6);
    }

pub sound_bounds : (t : Table) → sound t ≡ true → InBounds t.state (length t.slots.keys) (length t.slots.times) (length t.slots.fields) (length t.records)
unfolding sound
sound_bounds t e = in_bounds_lem t.state _ _ _ _ (all_head _ _ e)

-- a sound table has room for its operations
pub sound-room : (t : Table) → sound t ≡ true → Room t
sound-room t e =
    let f = sound_bounds t e in
    record { entries = f.entries; recorded = f.recorded; keys = f.keys; times = f.times; fields = f.fields; records = f.records }

-- the length byte of an entry of a sound table
pub sound-length : (t : Table) (at : ℕ) → sound t ≡ true → at < t.state.entries → length_at t.slots.fields at ≤ max_fields
unfolding sound lengths_sound
sound-length t at e h = leb-true _ _ (every_at _ t.state.entries at h (all_head _ _ (all_tail _ _ (all_tail _ _ e))))

-- what was found is an entry
pub found_under : (keys : List ℕ) (n key p : ℕ) → first_key keys n key ≡ Some p → p < n
unfolding first_key
found_under keys n key p e = (first_under _ n p e).0

-- a scene's place is one of the table's
pub placed_within : (key : SceneKey) (t : Table) (p : ℕ)
    → t.state.entries ≤ t.state.size
    → place_for t.state t.slots.keys key.fabric (find_scene key t) ≡ Some p
    → p < t.state.size
placed_within key t p h e =
    ⊎_elim
    (λ known. let under = found_under t.slots.keys t.state.entries _ p known in omega arith)
    (λ new. let fits = may_fits t.state t.slots.keys key.fabric new.1 in omega (arith, new.2))
    (placed t.state t.slots.keys key.fabric (find_scene key t) p e)

-- ---- upsert

-- what was not found, by whether one more entry fits
pub may_decide : (key : SceneKey) (time : ℕ) (ext : List ℕ) (t : Table) {b : Bool}
    → find_scene key t ≡ None
    → may_append t.state t.slots.keys key.fabric ≡ b
    → cond b (written key (with_entries (append key time ext) t)) (upserted_of insufficient_space t) ≡ upsert key time ext t
unfolding upsert upsert_at
may_decide key time ext t e m =
    ap (λ (b : Bool). cond b (written key (with_entries (append key time ext) t)) (upserted_of insufficient_space t)) (sym m)
    ∙ ap (λ (f : Option ℕ). upsert_at f key time ext t) (sym e)

-- without the share mode
plain_at_lem : (f : Option ℕ) (key : SceneKey) (time : ℕ) (ext : List ℕ) (t : Table) → share_mode t.state ≡ false → upsert_at f key time ext t ≡ plain_at f key time ext t
unfolding upsert_at
plain_at_lem (Some p) key time ext t e = refl
plain_at_lem None key time ext t e =
    ap (λ (b : Bool). cond b (written key (with_entries (append key time ext) t)) (upserted_of insufficient_space t)) (may_free t.state t.slots.keys key.fabric e)

pub upsert_by_share : UpsertByShare
unfolding upsert upsert_at
upsert_by_share = record {
  without = λ key time ext t e. plain_at_lem (find_scene key t) key time ext t e;
  known = λ key time ext t p e. ap (λ (f : Option ℕ). upsert_at f key time ext t) e;
}

-- the slots and the records that the code leaves are the definition's; w is the key's word

module _ (key : SceneKey) (time : ℕ) (ext : List ℕ) (t : Table) (s : ScenesState) (k tm f r : List ℕ) (w : ℕ) (word : w ≡ word_of key) where
  upsert-known : (p : ℕ)
      → find_scene key t ≡ Some p
      → slots_of k tm f ≡ put_slot p w time ext t.slots
      → current_of s r ≡ invalidate_current (Scene key) (current_of t.state t.records)
      → upserted_of success (table_of s k tm f r) ≡ upsert key time ext t
  unfolding upsert upsert_at put_at
  upsert-known p e e1 e2 =
      let put : slots_of k tm f ≡ put_slot p (word_of key) time ext t.slots = rw (← word) e1 in
      rw e (λ i. upserted_of success (record { state = (e2 i).state; slots = put i; records = (e2 i).records }))

  upsert-new :
      find_scene key t ≡ None
      → may_append t.state t.slots.keys key.fabric ≡ true
      → slots_of k tm f ≡ put_slot t.state.entries w time ext t.slots
      → current_of s r ≡ invalidate_current (Scene key) (current_of (with_entry_count (t.state.entries + 1) t.state) t.records)
      → upserted_of success (table_of s k tm f r) ≡ upsert key time ext t
  unfolding upsert upsert_at append
  upsert-new e m e1 e2 =
      let put : slots_of k tm f ≡ put_slot t.state.entries (word_of key) time ext t.slots = rw (← word) e1 in
      (λ i. upserted_of success (record { state = (e2 i).state; slots = put i; records = (e2 i).records }))
      ∙ may_decide key time ext t e m

  -- what an upsert at a position leaves of head and records, by whether it is behind the last entry
  abbrev left : Bool → ℕ → Type 0
  left b p =
      current_of s r ≡ invalidate_current (Scene key) (current_of (with_entry_count (cond b (p + 1) t.state.entries) t.state) t.records)

  -- at its place, wherever that is
  pub upsert_placed : (p : ℕ)
      → place_for t.state t.slots.keys key.fabric (find_scene key t) ≡ Some p
      → slots_of k tm f ≡ put_slot p w time ext t.slots
      → left (eqb p t.state.entries) p
      → upserted_of success (table_of s k tm f r) ≡ upsert key time ext t
  upsert_placed p e e1 e2 =
      ⊎_elim
      (λ h.
      let under = found_under t.slots.keys t.state.entries _ p h in
      upsert-known p h e1 (subst (λ (b : Bool). left b p) (ne_eqb p t.state.entries (λ q. omega (arith, q, under))) e2))
      (λ h.
      let last : p ≡ t.state.entries = sym h.2 in
      upsert-new h.0 h.1 (subst (λ (q : ℕ). slots_of k tm f ≡ put_slot q w time ext t.slots) last e1)
      (subst (left true) last (subst (λ (b : Bool). left b p) (eq-eqb _ _ last) e2)))
      (placed t.state t.slots.keys key.fabric (find_scene key t) p e)

-- an upsert keeps the size, the modes and how many records there are
pub record SameHead (t : Table) (u : Upserted) : Type 0 where
  pub recorded : u.table.state.recorded ≡ t.state.recorded
  pub size : u.table.state.size ≡ t.state.size
  pub modes : u.table.state.modes ≡ t.state.modes

at_head : (f : Option ℕ) (key : SceneKey) (time : ℕ) (ext : List ℕ) (t : Table) → SameHead t (upsert_at f key time ext t)
unfolding upsert_at put_at append invalidate_current
at_head (Some p) key time ext t = record { recorded = refl; size = refl; modes = refl }
at_head None key time ext t =
    elim (may_append t.state t.slots.keys key.fabric) as (λ b. SameHead t (cond b (written key (with_entries (append key time ext) t)) (upserted_of insufficient_space t))) [
      | true ↦ record { recorded = refl; size = refl; modes = refl }
      | false ↦ record { recorded = refl; size = refl; modes = refl }
    ]

pub upserted_head : (key : SceneKey) (time : ℕ) (ext : List ℕ) (t : Table) (u : Upserted) → u ≡ upsert key time ext t → SameHead t u
unfolding upsert
upserted_head key time ext t u e = subst⁻¹ (SameHead t) e (at_head (find_scene key t) key time ext t)
