-- A table by what it shows: each change of a sound table leaves a sound table that shows the change of its view. A call by what it lets
-- be seen, and what a request alone decides. Assumes nothing.
use Prim.Native.Nat.{ℕ, ◌≤◌, ◌<◌}
use mathlib.Core.Path.{◌≡◌, refl, sym, ap, ◌∙◌, subst}
use mathlib.Core.Bool.{Bool, true, cond, ◌||◌}
use mathlib.Core.List.{List, []}
use lib.Dec.{ltb}
use lib.ListN.{length}
use Rattle.words.specs.Constants.{success, max_fields}
use Rattle.words.specs.Words.{word_of, valid_record}
use Rattle.std.specs.Prelude.{Some, None}
use Rattle.words.specs.declared.SceneKey.{SceneKey}
use Rattle.slots.specs.Slots.{SceneEntry, key_sound}
use Rattle.records.specs.declared.Scope.{Scope}
use Rattle.records.specs.Records.{record_sound}
use Rattle.state.specs.Table.{Table, entries_in, records_in, with_entries, with_current}
use Rattle.state.specs.Sound.{sound}
use Rattle.state.specs.Current.{remember_current, invalidate_current}
use Rattle.state.specs.Change.{find_scene, put_at, append}
use Rattle.state.specs.Answer.{refusal_of, guarded, result_of}
use Rattle.state.proofs.Guard.{when_refused, when_passed, refusal_sound}
use Rattle.observation.specs.Calls.{Out, of_result}
use Rattle.observation.specs.Equivalence.{of_fabric}
use Rattle.observation.proofs.Lists.{has, put}
use Rattle.observation.proofs.Lookups.{entry_of}
use Rattle.observation.proofs.Changes.{View, view_of, entries_set, written, invalidated, remembered}
use Rattle.observation.proofs.Effects.{Seen}
use Rattle.observation.proofs.Views.{records-length}
use Rattle.observation.proofs.Entries.{EntriesOnly, put-known, put-known-sound, put_only, put-new, put-new-sound, append-only}
use Rattle.observation.proofs.Records.{invalidated-records, invalidated-only, invalidated-dataver, invalidated-sound, remembered_records, remembered_only, remembered_dataver, remembered_sound}

-- ---- tables

-- a sound table and its view
pub record Shows (u : Table) (v : View) : Type 0 where
  pub view : view_of u ≡ v
  pub stays : sound u ≡ true

pub itself : (t : Table) → sound t ≡ true → Shows t (view_of t)
itself t sd = record { view = refl; stays = sd }

-- other entries, and the rest as it was
pub with_entries_lem : (t u : Table) (es : List SceneEntry) → EntriesOnly u t → entries_in u ≡ es → view_of u ≡ entries_set es (view_of t)
unfolding view_of
with_entries_lem t u es o e = λ i. record { size = o.size i; modes = o.modes i; dataver = o.dataver i; entries = e i; records = o.records i }

module _ (scope : Scope) where
  invalidated-view : (t : Table) → sound t ≡ true → view_of (with_current (invalidate_current scope) t) ≡ invalidated scope (view_of t)
  unfolding view_of invalidated
  invalidated-view t sd =
      let o = invalidated-only t scope in
      let d = invalidated-dataver t scope sd in
      let r = invalidated-records t scope in
      λ i. record { size = o.size i; modes = o.modes i; dataver = d i; entries = o.entries i; records = r i }

  pub invalidates : (t : Table) (v : View) → Shows t v → Shows (with_current (invalidate_current scope) t) (invalidated scope v)
  invalidates t v s = record { view = invalidated-view t s.stays ∙ ap (invalidated scope) s.view; stays = invalidated-sound t scope s.stays }

module _ (key : SceneKey) where
  remembered_view : (t : Table) → sound t ≡ true → view_of (with_current (remember_current key) t) ≡ remembered key (view_of t)
  unfolding view_of remembered
  remembered_view t sd =
      let own = of_fabric key.fabric in
      let o = remembered_only t key in
      let d = remembered_dataver t key in
      let r : records_in (with_current (remember_current key) t) ≡ cond (has own (records_in t) || ltb (length (records_in t)) t.state.size) (put own (valid_record key) (records_in t)) (records_in t) =
      remembered_records t sd key
      ∙ ap (λ (n : ℕ). cond (has own (records_in t) || ltb n t.state.size) (put own (valid_record key) (records_in t)) (records_in t)) (sym (records-length t sd)) in
      λ i. record { size = o.size i; modes = o.modes i; dataver = d i; entries = o.entries i; records = r i }

  pub remembers : record_sound (valid_record key) ≡ true → (t : Table) (v : View) → Shows t v → Shows (with_current (remember_current key) t) (remembered key v)
  remembers k t v s = record { view = remembered_view t s.stays ∙ ap (remembered key) s.view; stays = remembered_sound t s.stays key k }

  -- a write, over the key's entry or behind the last
  module _ (time : ℕ) (ext : List ℕ) (short : length ext ≤ max_fields) (k : key_sound (word_of key) ≡ true) (t : Table) (sd : sound t ≡ true) where
    pub writes_over : (p : ℕ) → find_scene key t ≡ Some p → Shows (with_entries (put_at p key time ext) t) (written (entry_of key time ext) (view_of t))
    unfolding view_of
    writes_over p e = record {
      view = with_entries_lem t (with_entries (put_at p key time ext) t) _ (put_only t p key time ext) (put-known t sd key time ext short p e);
      stays = put-known-sound t sd key time ext short p e k;
    }

    pub writes-new : find_scene key t ≡ None → t.state.entries < t.state.size → Shows (with_entries (append key time ext) t) (written (entry_of key time ext) (view_of t))
    unfolding view_of
    writes-new e h = record {
      view = with_entries_lem t (with_entries (append key time ext) t) _ (append-only t key time ext) (put-new t sd key time ext short h e);
      stays = put-new-sound t sd key time ext short h k;
    }

-- ---- calls

-- what a call lets be seen, and that it leaves a sound table
pub record Acts (o : Out) (s : Seen) : Type 0 where
  pub seen : (o.0, view_of o.1) ≡ s
  pub stays : sound o.1 ≡ true

pub results : (n : ℕ) (save : Bool) (u : Table) (v : View) → Shows u v → Acts (of_result (result_of n save u)) (record { status = n; save = save; values = []; ids = [] }, v)
results n save u v s = record { seen = ap (λ (w : View). (record { status = n; save = save; values = []; ids = [] }, w)) s.view; stays = s.stays }

-- ---- what the request decides

module _ {A : Type 0} (refuse : ℕ → A) (t : Table) (sd : sound t ≡ true) (gate : ℕ) (o : A) where
  pub passes : gate ≡ success → guarded refuse (refusal_of t gate) o ≡ o
  passes e = sym (when_passed refuse (refusal_of t gate) o (sym (refusal_sound t gate sd) ∙ e))

  pub refuses : (gate ≡ success → ⊥) → guarded refuse (refusal_of t gate) o ≡ refuse gate
  refuses n = ap (λ (m : ℕ). guarded refuse m o) (sym (refusal_sound t gate sd)) ∙ sym (when_refused refuse gate o n)

  pub acts_passed : (g : A → Out) (s : Seen) → gate ≡ success → Acts (g o) s → Acts (g (guarded refuse (refusal_of t gate) o)) s
  acts_passed g s e a = subst (λ (x : A). Acts (g x) s) (sym (passes e)) a

  pub acts_refused : (g : A → Out) (s : Seen) → (gate ≡ success → ⊥) → Acts (g (refuse gate)) s → Acts (g (guarded refuse (refusal_of t gate) o)) s
  acts_refused g s n a = subst (λ (x : A). Acts (g x) s) (sym (refuses n)) a
