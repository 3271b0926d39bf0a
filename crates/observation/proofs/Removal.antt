-- What a fabric's removal leaves: nothing of the fabric, and everything of the others, in order. So a table in which one fabric stored a
-- scene is empty again once that fabric is removed. Assumes nothing.
use Prim.Native.Nat.{ℕ, ◌^◌, ◌≤◌, ◌<◌}
use mathlib.Core.Path.{◌≡◌, refl, sym, ap, ◌∙◌, subst}
use mathlib.Core.Bool.{true, false, not, cond}
use mathlib.Core.List.{List, [], ◌∷◌, ◌++◌}
use native.Mathlib.Omega.{arith}
use lib.Dec.{eqb, ltb}
use lib.ListN.{length}
use borrow.Author.Tests.{eq-eqb, eqb-true, eqb-false}
use Rattle.words.specs.Constants.{success, insufficient_space, end_of_container}
use Rattle.words.specs.Words.{word_of, fabric_of, valid_record}
use Rattle.words.specs.Below.{positions}
use Rattle.records.specs.declared.Scope.TheVariants.{Scene}
use Rattle.requests.specs.declared.Membership.{Membership}
use Rattle.state.specs.Table.{Table, entries_in, records_in}
use Rattle.state.specs.Sound.{sound}
use Rattle.commands.specs.Commands.{store_scene}
use Rattle.lifecycle.specs.Lifecycle.{remove_for_fabric}
use Rattle.observation.specs.Lists.{find, keep}
use Rattle.observation.specs.Calls.{Command, store, command, removal, does, step, scene_key, CommandInRange}
use Rattle.observation.specs.Equivalence.{key_is, mine, of_fabric}
use Rattle.observation.proofs.Lookups.{entry_of}
use Rattle.observation.proofs.Changes.{View, view_of, places_in, place_for, written, invalidated, remembered}
use Rattle.observation.proofs.Bits.{key-fabric, key_small, record_key}
use Rattle.observation.proofs.Choices.{cond_elim}
use Rattle.observation.proofs.Effects.{Seen, sees, gate_of, refuse, done, time_of}
use Rattle.observation.proofs.Views.{entries-length, records-length}
use Rattle.observation.proofs.Calls.{laws, step-sound}

module _ (t : Table) (sd : sound t ≡ true) (f : ℕ) (f1 : 1 ≤ f) (f255 : f ≤ 255) where
  -- the entries of the other fabrics, in order
  pub removal-entries : entries_in (remove_for_fabric f t).table ≡ keep (λ x. not (mine f x)) (entries_in t)
  unfolding view_of step
  removal-entries = ap (λ (s : Seen). s.1.entries) ((laws.events t sd).removal_acts f (omega arith) (λ z. omega arith))

  -- the records of the other fabrics, in order
  pub removal-records : records_in (remove_for_fabric f t).table ≡ keep (λ w. not (of_fabric f w)) (records_in t)
  unfolding view_of step
  removal-records = ap (λ (s : Seen). s.1.records) ((laws.events t sd).removal_acts f (omega arith) (λ z. omega arith))

  removal-sound : sound (remove_for_fabric f t).table ≡ true
  unfolding step
  removal-sound = step-sound (removal f) t (omega arith) sd

-- nothing but the fabric's own
record Only (f : ℕ) (v : View) : Type 0 where
  entries : keep (λ x. not (mine f x)) v.entries ≡ []
  records : keep (λ w. not (of_fabric f w)) v.records ≡ []

module _ (t : Table) (sd : sound t ≡ true) (no-entries : t.state.entries ≡ 0) (no_records_lem : t.state.recorded ≡ 0)
    (f e g s : ℕ) (m : Membership) (captured : List ℕ) (f1 : 1 ≤ f) (f255 : f ≤ 255) (he : e < 2 ^ 16) (fit : CommandInRange (store g s m captured)) where
  abbrev bare : View
  bare = record { size = t.state.size; modes = t.state.modes; dataver = t.state.dataver; entries = []; records = [] }

  empty-view : view_of t ≡ bare
  unfolding view_of entries_in records_in positions
  empty-view = rw (no-entries, no_records_lem)

  -- an entry and a record of the stored scene are the fabric's
  own-entry : (time : ℕ) (ext : List ℕ) → mine f (entry_of (scene_key f e g s) time ext) ≡ true
  own-entry time ext = eq-eqb (fabric_of (word_of (scene_key f e g s))) f (key-fabric f e g s (omega arith) he fit.0 fit.1)

  own_record : of_fabric f (valid_record (scene_key f e g s)) ≡ true
  own_record =
      eq-eqb _ f (ap fabric_of (record_key (word_of (scene_key f e g s)) (key_small f e g s (omega arith) he fit.0 fit.1)) ∙ key-fabric f e g s (omega arith) he fit.0 fit.1)

  -- what is seen after a store that passes its gate, of the view before it
  abbrev stores : View → Seen
  stores v =
      cond (place_for f (word_of (scene_key f e g s)) v) (
        done true,
        remembered (scene_key f e g s)
            (invalidated (Scene (scene_key f e g s))
            (written (entry_of (scene_key f e g s) (time_of (find (key_is (word_of (scene_key f e g s))) v.entries)) (captured ++ (end_of_container ∷ []))) v)),
      )
      (refuse insufficient_space, v)

  abbrev OwnIfDone : Seen → Type 0
  OwnIfDone o = o.0.status ≡ success → Only f o.1

  stores_own : OwnIfDone (stores bare)
  unfolding remembered invalidated
  stores_own =
      cond_elim OwnIfDone (ltb 0 (places_in f bare))
      (λ _ _. record {
        entries = rw (own-entry 0 (captured ++ (end_of_container ∷ [])));
        records = cond_elim (λ l. keep (λ w. not (of_fabric f w)) l ≡ []) (ltb 0 t.state.size) (λ _. rw own_record) (λ _. refl);
      })
      (λ _ z. absurd (omega arith))

  -- what a store that succeeded leaves is the fabric's own
  stored-own : OwnIfDone (sees (command f e (store g s m captured)) t)
  stored-own =
      let c : Command = store g s m captured in
      let all = laws.commands f e t sd (omega arith) he in
      (elim (eqb (gate_of f e c) success) as (λ b. eqb (gate_of f e c) success ≡ b → OwnIfDone (sees (command f e c) t)) [
        | true ↦ λ q. subst OwnIfDone (sym (all.store_acts g s m captured fit (eqb-true (gate_of f e c) success q))) (subst (λ (v : View). OwnIfDone (stores v)) (sym empty-view) stores_own)
        | false ↦ λ q. let n = eqb-false (gate_of f e c) success q in subst OwnIfDone (sym (all.refused_acts c fit n)) (λ z. absurd (n z))
      ]) refl

  -- a store that succeeds on an empty table, then the fabric's removal, leaves no entry and no record
  pub stored_then_removed : (store_scene (scene_key f e g s) m captured t).status ≡ success
      → ((remove_for_fabric f (store_scene (scene_key f e g s) m captured t).table).table.state.entries ≡ 0)
      × ((remove_for_fabric f (store_scene (scene_key f e g s) m captured t).table).table.state.recorded ≡ 0)
  unfolding step does view_of
  stored_then_removed ok =
      let u : Table = (store_scene (scene_key f e g s) m captured t).table in
      let su : sound u ≡ true = step-sound (command f e (store g s m captured)) t (omega arith, he, fit) sd in
      let own = stored-own ok in
      let after : Table = (remove_for_fabric f u).table in (
        sym (entries-length after) ∙ ap length (removal-entries u su f f1 f255 ∙ own.entries),
        sym (records-length after (removal-sound u su f f1 f255)) ∙ ap length (removal-records u su f f1 f255 ∙ own.records),
      )
