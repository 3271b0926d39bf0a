-- What both adds, store, remove and remove all let be seen of a sound table, once their gates let them pass. Assumes nothing.
use Prim.Native.Nat.{ℕ, ◌^◌, ◌≤◌, ◌<◌}
use mathlib.Core.Path.{◌≡◌, refl, sym, ap, ap₂, ◌∙◌, subst}
use mathlib.Core.Bool.{Bool, true, false, cond, not, ◌||◌}
use mathlib.Core.List.{List, [], ◌∷◌, ◌++◌}
use native.Mathlib.Omega.{arith}
use lib.Dec.{eqb, ltb}
use lib.ListN.{length, length-append}
use borrow.Author.Tests.{ltb-true, ltb-false, eq-eqb, ne_eqb}
use Rattle.words.specs.Constants.{success, insufficient_space, not_found, max_fields, end_of_container}
use Rattle.words.specs.Words.{word_of, group_keys}
use Rattle.std.specs.Prelude.{Some, None, is_some}
use Rattle.words.specs.declared.KeyRange.{KeyRange}
use Rattle.words.specs.declared.SceneKey.{SceneKey}
use Rattle.slots.specs.Slots.{SceneEntry, entry_at, first_key, key_sound}
use Rattle.records.specs.declared.Scope.TheVariants.{Scene, Group}
use Rattle.records.proofs.View.{sound-valid}
use Rattle.requests.specs.declared.Membership.{Membership}
use Rattle.state.specs.Table.{Table, entries_in, with_entries, with_current}
use Rattle.state.specs.Sound.{sound}
use Rattle.state.specs.Capacity.{may_append}
use Rattle.state.specs.Current.{invalidate_current}
use Rattle.state.specs.Change.{saved, find_scene, append, Upserted, upserted_of, written, upsert_at, upsert, swap_remove, retain_outside}
use Rattle.state.specs.Answer.{Result, result_of, refused, refusal_of, guarded}
use Rattle.state.proofs.Capacity.{may_fits}
use Rattle.commands.specs.Commands.{add_scene, prior_time, stored, store_captured, store_scene, remove_found, remove_scene, removed_all, remove_all_scenes}
use Rattle.add_read.specs.Adding.{add_scene_read}
use Rattle.observation.specs.Lists.{count, find, keep}
use Rattle.observation.specs.Calls.{add, add_read, store, remove, remove_all, command, step, does, of_result, CommandInRange, scene_key, group_key}
use Rattle.observation.specs.Equivalence.{key_is}
use Rattle.observation.proofs.Lists.{has, take_out}
use Rattle.observation.proofs.Lookups.{holds, found_at, entry_of}
use Rattle.observation.proofs.Changes as changes
use Rattle.observation.proofs.Changes.{view_of, place_for, entries_set, invalidated, remembered}
use Rattle.observation.proofs.Effects.{Seen, gate_of, done, refuse, time_of, add_out}
use Rattle.observation.proofs.Views.{entries_has, entries-find, entries-length}
use Rattle.observation.proofs.Entries.{removed, removed-sound, removed-only, retained, retained_count, retained_sound, retained_only}
use Rattle.observation.proofs.Losses.{lost, none_lost, has_count}
use Rattle.observation.proofs.Sound.{word_sound}
use Rattle.observation.proofs.Acts.{Shows, itself, with_entries_lem, invalidates, remembers, writes_over, writes-new, Acts, results, acts_passed}
use Rattle.observation.proofs.ActsReads.{places}
use Rattle.requests.proofs.Passed.{Named, add-passed, store-passed}
use Rattle.observation.proofs.Passed.{add_read-passed}

-- ---- upsert

module _ (key : SceneKey) (time : ℕ) (ext : List ℕ) (short : length ext ≤ max_fields) (k : key_sound (word_of key) ≡ true) (t : Table) (sd : sound t ≡ true) where
  -- one more entry of the key's fabric fits
  abbrev may : Bool
  may = may_append t.state t.slots.keys key.fabric

  place : place_for key.fabric (word_of key) (view_of t) ≡ (is_some (find_scene key t) || may)
  unfolding view_of
  place = ap₂ (λ (b : Bool) (n : ℕ). b || ltb 0 n) (entries_has t (word_of key)) (sym (places key.fabric t))

  -- where there is a place the changed table goes on, else the table as it is
  module _ (after : Upserted → Result) (x y : Seen)
      (placed : (u : Table) → Shows u (invalidated (Scene key) (changes.written (entry_of key time ext) (view_of t))) → Acts (of_result (after (upserted_of success u))) x)
      (full : Acts (of_result (after (upserted_of insufficient_space t))) y) where
    over : (p : ℕ) → find_scene key t ≡ Some p → Acts (of_result (after (upsert_at (Some p) key time ext t))) x
    unfolding upsert_at
    over p e = placed _ (invalidates (Scene key) _ _ (writes_over key time ext short k t sd p e))

    behind : find_scene key t ≡ None → Acts (of_result (after (upsert_at None key time ext t))) (cond may x y)
    unfolding upsert_at
    behind e =
        (elim may as (λ b. may ≡ b
        → Acts (of_result (after (cond b (written key (with_entries (append key time ext) t)) (upserted_of insufficient_space t)))) (cond b x y)) [
          | true ↦ λ q. placed _ (invalidates (Scene key) _ _ (writes-new key time ext short k t sd e (may_fits t.state t.slots.keys key.fabric q)))
          | false ↦ λ q. full
        ]) refl

    pub upserts : Acts (of_result (after (upsert key time ext t))) (cond (place_for key.fabric (word_of key) (view_of t)) x y)
    unfolding upsert
    upserts =
        subst (λ (b : Bool). Acts (of_result (after (upsert key time ext t))) (cond b x y)) (sym place)
        ((elim (find_scene key t) as (λ f. find_scene key t ≡ f → Acts (of_result (after (upsert_at f key time ext t))) (cond (is_some f || may) x y))
        [ Some p ↦ λ e. over p e | None ↦ λ e. behind e ]) refl)

-- ---- the other changes

module _ (t : Table) (sd : sound t ≡ true) where
  prior_time_lem : (key : SceneKey) → prior_time (find_scene key t) t.slots.times ≡ time_of (find (key_is (word_of key)) (entries_in t))
  prior_time_lem key =
      elim (find_scene key t) as (λ f. prior_time f t.slots.times ≡ time_of (found_at (entry_at t.slots) f)) [ Some p ↦ refl | None ↦ refl ]
      ∙ ap time_of (sym (entries-find t (word_of key)))

  removes : (k p : ℕ) → first_key t.slots.keys t.state.entries k ≡ Some p → Shows (with_entries (swap_remove p) t) (entries_set (take_out (key_is k) (view_of t).entries) (view_of t))
  unfolding view_of
  removes k p e = record { view = with_entries_lem t (with_entries (swap_remove p) t) _ (removed-only t p) (removed t sd k p e); stays = removed-sound t sd k p e }

  retains : (r : KeyRange) → Shows (with_entries (retain_outside r) t) (entries_set (keep (λ x. not (holds r x)) (view_of t).entries) (view_of t))
  unfolding view_of
  retains r = record { view = with_entries_lem t (with_entries (retain_outside r) t) _ (retained_only t r) (retained t sd r); stays = retained_sound t sd r }

  -- whether something went, by the counts
  same_count : (r : KeyRange) → eqb (with_entries (retain_outside r) t).state.entries t.state.entries ≡ not (has (holds r) (entries_in t))
  same_count r =
      let n = (with_entries (retain_outside r) t).state.entries in
      let m = retained_count t sd r in
      let l = lost (holds r) (entries_in t) in
      let a = entries-length t in
      let c = has_count (holds r) (entries_in t) in
      (elim (has (holds r) (entries_in t)) as (λ b. has (holds r) (entries_in t) ≡ b → eqb n t.state.entries ≡ not b) [
        | true ↦ λ q. let k = ltb-true 0 (count (holds r) (entries_in t)) (sym c ∙ q) in ne_eqb n t.state.entries (λ z. omega arith)
        | false ↦ λ q. let k = ltb-false 0 (count (holds r) (entries_in t)) (sym c ∙ q) in eq-eqb n t.state.entries (omega arith)
      ]) refl

-- ---- the calls

module _ (f e : ℕ) (t : Table) (sd : sound t ≡ true) (hf : f < 2 ^ 8) (he : e < 2 ^ 16) where
  -- an add, behind whatever gate
  adds : (g s time : ℕ) (ext : List ℕ) → g < 2 ^ 16 → s < 2 ^ 8 → (gate : ℕ) → gate ≡ success → Named (scene_key f e g s) × (length ext ≤ max_fields)
      → Acts (of_result (guarded (refused t) (refusal_of t gate) (saved (upsert (scene_key f e g s) time ext t))))
      (add_out (scene_key f e g s) time ext (view_of t))
  adds g s time ext hg hs gate p passed =
      let key = scene_key f e g s in
      let k = word_sound key passed.0.fabric hf he hg hs in
      acts_passed (refused t) t sd _ _ of_result _ p
      (upserts key time ext passed.1 k t sd saved _ _ (λ u h. results success true u _ h) (results insufficient_space false t (view_of t) (itself t sd)))

  pub add_acts : (g s time : ℕ) (m : Membership) (pairs ext : List ℕ) → CommandInRange (add g s time m pairs ext) → gate_of f e (add g s time m pairs ext) ≡ success
      → Acts (step (command f e (add g s time m pairs ext)) t) (add_out (scene_key f e g s) time ext (view_of t))
  unfolding step does add_scene
  add_acts g s time m pairs ext w p = adds g s time ext w.0 w.1 _ p (add-passed (scene_key f e g s) m time pairs max_fields (length ext) p)

  pub add_read_acts : (g s time : ℕ) (m : Membership) (pairs ext : List ℕ) → CommandInRange (add_read g s time m pairs ext)
      → gate_of f e (add_read g s time m pairs ext) ≡ success
      → Acts (step (command f e (add_read g s time m pairs ext)) t) (add_out (scene_key f e g s) time ext (view_of t))
  unfolding step does add_scene_read
  add_read_acts g s time m pairs ext w p = adds g s time ext w.0 w.1 _ p (add_read-passed (scene_key f e g s) m time pairs max_fields ext p)

  pub store_acts : (g s : ℕ) (m : Membership) (captured : List ℕ) → CommandInRange (store g s m captured) → gate_of f e (store g s m captured) ≡ success
      → Acts (step (command f e (store g s m captured)) t)
      (cond (place_for f (word_of (scene_key f e g s)) (view_of t)) (
        done true,
        remembered (scene_key f e g s)
            (invalidated (Scene (scene_key f e g s))
            (changes.written (entry_of (scene_key f e g s) (time_of (find (key_is (word_of (scene_key f e g s))) (view_of t).entries)) (captured ++ (end_of_container ∷ []))) (view_of t))),
      )
      (refuse insufficient_space, view_of t))
  unfolding step does store_scene store_captured stored view_of
  store_acts g s m captured w p =
      let key = scene_key f e g s in
      let ext = captured ++ (end_of_container ∷ []) in
      let short : length ext ≤ max_fields = omega (arith, (store-passed key m max_fields (length captured) p).1, length-append captured (end_of_container ∷ [])) in
      let f₁ = (store-passed key m max_fields (length captured) p).0.fabric in
      let k = word_sound key f₁ hf he w.0 w.1 in
      let r = sound-valid key f₁ hf he w.0 w.1 in
      acts_passed (refused t) t sd _ _ of_result _ p
      (rw (← prior_time_lem t sd key)
      (upserts key (prior_time (find_scene key t) t.slots.times) ext short k t sd (stored key) _ _
      (λ u h. results success true _ _ (remembers key r u _ h)) (results insufficient_space false t (view_of t) (itself t sd))))

  pub remove_acts : (g s : ℕ) (m : Membership) → gate_of f e (remove g s m) ≡ success
      → Acts (step (command f e (remove g s m)) t)
      (cond (has (key_is (word_of (scene_key f e g s))) (view_of t).entries)
      (done true, invalidated (Scene (scene_key f e g s)) (entries_set (take_out (key_is (word_of (scene_key f e g s))) (view_of t).entries) (view_of t)))
      (refuse not_found, view_of t))
  unfolding step does remove_scene remove_found view_of
  remove_acts g s m p =
      let key = scene_key f e g s in
      acts_passed (refused t) t sd _ _ of_result _ p
      (rw (entries_has t (word_of key))
      ((elim (find_scene key t) as (λ x. find_scene key t ≡ x
      → Acts (of_result (remove_found x key t)) (cond (is_some x) (done true, invalidated (Scene key) (entries_set (take_out (key_is (word_of key)) (view_of t).entries) (view_of t))) (refuse not_found, view_of t))) [
        | Some i ↦ λ q. results success true _ _ (invalidates (Scene key) _ _ (removes t sd (word_of key) i q))
        | None ↦ λ q. results not_found false t (view_of t) (itself t sd)
      ]) refl))

  pub remove_all_acts : (g : ℕ) (m : Membership) → gate_of f e (remove_all g m) ≡ success
      → Acts (step (command f e (remove_all g m)) t)
      (cond (has (holds (group_keys f e g)) (view_of t).entries)
      (done true, invalidated (Group (group_key f e g)) (entries_set (keep (λ x. not (holds (group_keys f e g) x)) (view_of t).entries) (view_of t)))
      (done false, view_of t))
  unfolding step does remove_all_scenes removed_all view_of
  remove_all_acts g m p =
      let r = group_keys f e g in
      let scope = Group (group_key f e g) in
      let u = with_entries (retain_outside r) t in
      acts_passed (refused t) t sd _ _ of_result _ p
      (rw (same_count t sd r)
      ((elim (has (holds r) (entries_in t)) as (λ b. has (holds r) (entries_in t) ≡ b
      → Acts (of_result (cond (not b) (result_of success false u) (result_of success true (with_current (invalidate_current scope) u))))
      (cond b (done true, invalidated scope (entries_set (keep (λ x. not (holds r x)) (view_of t).entries) (view_of t))) (done false, view_of t))) [
        | true ↦ λ q. results success true _ _ (invalidates scope _ _ (retains t sd r))
        | false ↦ λ q. results success false _ _ (subst (λ (l : List SceneEntry). Shows u (entries_set l (view_of t))) (none_lost (holds r) (entries_in t) q) (retains t sd r))
      ]) refl))
