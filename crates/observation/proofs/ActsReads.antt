-- What view, recall, membership and info let be seen of a sound table, once their gates let them pass. Assumes nothing.
use Prim.Native.Nat.{ℕ, ◌-◌, ◌/◌, ◌^◌, ◌<◌, min}
use mathlib.Core.Path.{◌≡◌, refl, sym, ap, ap₂, ◌∙◌}
use mathlib.Core.Bool.{Bool, true, false, cond, not, ◌&&◌}
use mathlib.Core.List.{List, [], ◌∷◌, ◌++◌, map, map-map}
use mathlib.Core.Option.{none}
use lib.Dec.{eqb, ltb}
use lib.ListN.{length, get_or, drop}
use lib.Seq.{take-append_seam}
use borrow.Author.Tests.{lt-ltb}
use Rattle.words.specs.Constants.{success, buffer_too_short, apply_failed, max_remaining}
use Rattle.words.specs.Words.{word_of, valid_record, scene_of, within, fabric_keys, endpoint_keys, group_keys}
use Rattle.words.specs.Below.{positions}
use Rattle.std.specs.Prelude.{Option, Some, None}
use Rattle.words.specs.declared.SceneKey.{SceneKey}
use Rattle.words.proofs.Tests.{and_false}
use Rattle.words.proofs.Ranges.{fabric-keys}
use Rattle.slots.specs.Slots.{SceneEntry, entry_at, fields_at, count_keys, scenes_inside, laid}
use Rattle.records.specs.Records.{record_sound, first_owned}
use Rattle.records.proofs.View.{sound-valid}
use Rattle.requests.specs.declared.Membership.{Membership}
use Rattle.commands.specs.declared.Applied.{Applied}
use Rattle.commands.specs.declared.Applied.TheVariants.{Yes, Failed}
use Rattle.reads.specs.Reads.{Transition}
use Rattle.std.specs.Prelude.{None}
use Rattle.state.specs.Table.{Table, entries_in}
use Rattle.state.specs.Sound.{sound}
use Rattle.state.specs.Capacity.{room_for, remaining, share_mode, places_for}
use Rattle.state.specs.Change.{find_scene}
use Rattle.state.specs.Answer.{refused}
use Rattle.commands.specs.Commands.{recall_found, recall_scene}
use Rattle.reads.specs.Reads.{effective_time, unread, read_at, view_scene, recall_lookup, field_bytes, scene_ids, listed_of, unlisted, list_ids, get_scene_membership, no_row, info_row, read_fabric_scene_info}
use Rattle.state.proofs.Laws.{found_under}
use Rattle.observation.specs.Lists.{find, keep}
use Rattle.observation.specs.Calls.{view, recall, membership, info, command, step, does, with_state, of_view, of_recall, of_list, of_info, CommandInRange, scene_key, group_key}
use Rattle.observation.specs.Equivalence.{key_is, mine}
use Rattle.observation.proofs.Lists.{found, has}
use Rattle.observation.proofs.Lookups.{holds, found_at}
use Rattle.observation.proofs.Changes.{view_of, room_in, places_in, remembered}
use Rattle.observation.proofs.Effects.{gate_of, refuse, shown, viewed, applied, recalled, ids_in, remaining_in, row, info_out}
use Rattle.observation.proofs.Counts.{count_ext, keep-map}
use Rattle.observation.proofs.Positions.{keep-positions}
use Rattle.observation.proofs.Views.{entries-find, entries-count, entries-length, records-find}
use Rattle.observation.proofs.Acts.{remembers, Acts, acts_passed}
use Rattle.requests.proofs.Passed.{lookup-passed}

-- ---- view and recall

read-state : (t : Table) (o : Transition) (x : Option ℕ) → (read_at x o t).state ≡ t.state
unfolding read_at
read-state t o (Some p) = refl
read-state t o None = refl

module _ (t : Table) (sd : sound t ≡ true) where
  field_bytes_lem : (p : ℕ) → p < t.state.entries → field_bytes p t ≡ fields_at t.slots.fields p
  unfolding field_bytes
  field_bytes_lem p h = rw (sd, lt-ltb p t.state.entries h)

  -- what was found, read
  module _ (key : SceneKey) where
    found-bytes : (p : ℕ) → find_scene key t ≡ Some p → field_bytes p t ≡ fields_at t.slots.fields p
    found-bytes p q = field_bytes_lem p (found_under t.slots.keys t.state.entries (word_of key) p q)

    views : (x : Option ℕ) → find_scene key t ≡ x → Acts (of_view (read_at x None t) t) (viewed (found_at (entry_at t.slots) x), view_of t)
    unfolding read_at
    views (Some p) q = record { seen = λ i. (record { status = success; save = false; values = get_or t.slots.times p 0 ∷ found-bytes p q i; ids = [] }, view_of t); stays = sd }
    views None q = record { seen = refl; stays = sd }

    recalls : record_sound (valid_record key) ≡ true → (o : Transition) (a : Applied) (x : Option ℕ) → find_scene key t ≡ x
        → Acts (of_recall (read_at x o t) (recall_found x key a t) t) (recalled o a (found_at (entry_at t.slots) x), cond (found (found_at (entry_at t.slots) x) && applied a) (remembered key (view_of t)) (view_of t))
    unfolding read_at recall_found
    recalls k o Yes (Some p) q =
        let s = remembers key k t (view_of t) (record { view = refl; stays = sd }) in
        record { seen = λ i. (record { status = success; save = true; values = effective_time o (get_or t.slots.times p 0) ∷ found-bytes p q i; ids = [] }, s.view i); stays = s.stays }
    recalls k o Failed (Some p) q = record {
      seen = λ i. (record { status = apply_failed; save = false; values = effective_time o (get_or t.slots.times p 0) ∷ found-bytes p q i; ids = [] }, view_of t);
      stays = sd;
    }
    recalls k o a None q = record { seen = refl; stays = sd }

-- ---- membership and info

module _ (f : ℕ) (t : Table) where
  pub room : room_for t.state t.slots.keys f ≡ room_in f (view_of t)
  unfolding room_for room_in view_of
  room =
      let used = entries-count t (fabric_keys f) ∙ count_ext (holds (fabric_keys f)) (mine f) (λ x. fabric-keys f x.key) (entries_in t) in
      ap₂ (λ (n k : ℕ). min ((t.state.size - 1) / 2 - n) (t.state.size - k)) used (sym (entries-length t))

  pub places : places_for t.state t.slots.keys f ≡ places_in f (view_of t)
  unfolding places_for places_in view_of
  places = ap₂ (λ (n k : ℕ). cond (share_mode t.state) n (t.state.size - k)) room (sym (entries-length t))

  left : remaining t.state t.slots.keys f ≡ remaining_in f (view_of t)
  unfolding remaining
  left = ap (λ (n : ℕ). min n max_remaining) room

module _ (t : Table) where
  ids_of : (f e g : ℕ) → scene_ids (group_key f e g) t ≡ ids_in f e g (view_of t)
  unfolding scenes_inside view_of entries_in
  ids_of f e g =
      let r = group_keys f e g in
      let n = t.state.entries in
      let at : ℕ → Bool = λ i. within r (get_or t.slots.keys i 0) in
      ap (map (λ i. scene_of (get_or t.slots.keys i 0))) (keep-positions at n)
      ∙ sym (map-map (λ (x : SceneEntry). scene_of x.key) (entry_at t.slots) (keep at (positions n)))
      ∙ ap (map (λ (x : SceneEntry). scene_of x.key)) (sym (keep-map (holds r) (entry_at t.slots) (positions n)))

  lists : sound t ≡ true → (l : List ℕ) (n : ℕ) (buffer : List ℕ)
      → Acts (of_list (list_ids l n buffer t) t)
      (cond (ltb (length buffer) (length l)) (refuse buffer_too_short, view_of t) (record { status = success; save = false; values = n ∷ []; ids = l }, view_of t))
  unfolding list_ids laid
  lists sd l n buffer =
      elim (ltb (length buffer) (length l)) as (λ b. Acts
      (of_list (cond b (unlisted buffer t buffer_too_short) (listed_of (record { status = success; remaining = n; len = length l; state = t.state }) (l ++ drop (length l) buffer))) t)
      (cond b (refuse buffer_too_short, view_of t) (record { status = success; save = false; values = n ∷ []; ids = l }, view_of t))) [
        | true ↦ record { seen = refl; stays = sd }
        | false ↦ record { seen = ap (λ (k : List ℕ). (record { status = success; save = false; values = n ∷ []; ids = k }, view_of t)) (take-append_seam l (drop (length l) buffer)); stays = sd }
      ]

  informs : sound t ≡ true → (f n : ℕ) (x : Option ℕ)
      → Acts (of_info (info_row x f n t) t) (
        cond (eqb n 0 && not (found (found_at (λ i. get_or t.records i 0) x))) (shown [])
            (shown (row n (remaining t.state t.slots.keys f) f (found_at (λ i. get_or t.records i 0) x))),
        view_of t,
      )
  unfolding info_row
  informs sd f n (Some p) = rw (and_false (eqb n 0)) (record { seen = refl; stays = sd })
  informs sd f n None =
      (elim (eqb n 0) as (λ b. eqb n 0 ≡ b
      → Acts (of_info (info_row None f n t) t) (cond (eqb n 0 && true) (shown []) (shown (row n (remaining t.state t.slots.keys f) f none)), view_of t)) [
        | true ↦ λ q. rw q (record { seen = refl; stays = sd })
        | false ↦ λ q. rw q (record { seen = refl; stays = sd })
      ]) refl

module _ (f e : ℕ) (t : Table) (sd : sound t ≡ true) (hf : f < 2 ^ 8) (he : e < 2 ^ 16) where
  pub view_acts : (g s : ℕ) (m : Membership) → gate_of f e (view g s m) ≡ success
      → Acts (step (command f e (view g s m)) t) (viewed (find (key_is (word_of (scene_key f e g s))) (view_of t).entries), view_of t)
  unfolding step does view_scene view_of
  view_acts g s m p =
      let key = scene_key f e g s in
      acts_passed (unread t) t sd _ _ (λ r. of_view r t) _ p (rw (entries-find t (word_of key)) (views t sd key (find_scene key t) refl))

  pub recall_acts : (g s : ℕ) (m : Membership) (o : Transition) (a : Applied) → CommandInRange (recall g s m o a) → gate_of f e (recall g s m o a) ≡ success
      → Acts (step (command f e (recall g s m o a)) t) (
        recalled o a (find (key_is (word_of (scene_key f e g s))) (view_of t).entries),
        cond (has (key_is (word_of (scene_key f e g s))) (view_of t).entries && applied a) (remembered (scene_key f e g s) (view_of t)) (view_of t),
      )
  unfolding step does recall_lookup recall_scene view_of
  recall_acts g s m o a w p =
      let key = scene_key f e g s in
      let k = sound-valid key (lookup-passed key m p).fabric hf he w.0 w.1 in
      let r = read_at (find_scene key t) o t in
      acts_passed (unread t) t sd _ _ (λ x. of_recall x (recall_scene key m a (with_state x.state t)) t) _ p
      (rw (read-state t o (find_scene key t))
      (acts_passed (refused t) t sd _ _ (λ c. of_recall r c t) _ p
      (rw (entries-find t (word_of key)) (recalls t sd key k o a (find_scene key t) refl))))

  pub membership_acts : (g : ℕ) (m : Membership) (buffer : List ℕ) → gate_of f e (membership g m buffer) ≡ success
      → Acts (step (command f e (membership g m buffer)) t)
      (cond (ltb (length buffer) (length (ids_in f e g (view_of t)))) (refuse buffer_too_short, view_of t)
      (record { status = success; save = false; values = remaining_in f (view_of t) ∷ []; ids = ids_in f e g (view_of t) }, view_of t))
  unfolding step does get_scene_membership
  membership_acts g m buffer p =
      acts_passed (unlisted buffer t) t sd _ _ (λ l. of_list l t) _ p
      (rw (ids_of t f e g, left f t) (lists t sd (ids_in f e g (view_of t)) (remaining_in f (view_of t)) buffer))

  pub info_acts : (single : Bool) → gate_of f e (info single) ≡ success → Acts (step (command f e (info single)) t) (info_out f e (view_of t), view_of t)
  unfolding step does read_fabric_scene_info view_of
  info_acts single p =
      acts_passed (no_row t) t sd _ _ (λ r. of_info r t) _ p
      (rw (← entries-count t (endpoint_keys f e), records-find t sd f e, ← left f t)
      (informs t sd f (count_keys t.slots.keys t.state.entries (endpoint_keys f e)) (first_owned t.records t.state.recorded f e)))
