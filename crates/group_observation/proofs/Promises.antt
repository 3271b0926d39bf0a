-- What the calls on scenes and memberships promise holds. Assumes nothing.
use Prim.Native.Nat.{ℕ, ◌≤◌}
use native.Mathlib.Omega.{arith}
use mathlib.Core.Path.{◌≡◌, refl, sym, ap, ◌∙◌, subst}
use mathlib.Core.Bool.{Bool, true, false, cond, not, ◌||◌, false≢true}
use mathlib.Core.List.{List, [], ◌∷◌, ◌++◌}
use lib.Dec.{eqb, ltb}
use borrow.Author.Tests.{eqb-true, eq-eqb, ne_eqb}
use Rattle.words.specs.Constants.{success, unsound, max_memberships}
use Rattle.words.specs.Words.{fabric_keys, group_keys}
use Rattle.words.specs.declared.GroupKey.{GroupKey}
use Rattle.words.proofs.Ranges.{fabric-keys}
use Rattle.requests.specs.declared.Membership.{Membership}
use Rattle.requests.specs.declared.Membership.TheVariants.{Yes, No}
use Rattle.requests.specs.Requests.{or_next, first_refusal, fabric_gate}
use Rattle.state.specs.Table.{Table, entries_in, records_in, with_entries}
use Rattle.state.specs.Sound.{sound}
use Rattle.state.specs.Answer.{Result, refused, refusal_of, guarded}
use Rattle.state.specs.Change.{retain_outside}
use Rattle.commands.specs.Commands.{add_scene, store_scene, remove_scene, removed_all, remove_all_scenes, recall_scene}
use Rattle.copies.specs.Copy.{copy_scene}
use Rattle.add_read.specs.Adding.{add_scene_read}
use Rattle.commands.specs.Counted.{Counted, counted_of, counted, store_counted}
use Rattle.reads.specs.declared.SceneRead.{SceneRead}
use Rattle.reads.specs.Reads.{unread, view_scene, Listed, unlisted, get_scene_membership}
use Rattle.lifecycle.specs.Lifecycle.{remove_for_fabric, factory_reset}
use Rattle.groups.specs.Groups.{Groups, groups_sound, groups_gate, ungrouped_gate, words_in, is_member, member_of, read_group, Joined, joined_of, join_gate, join_new, join_group, retain_groups, no_groups}
use Rattle.asking.proofs.Laws.{asks-unsound}
use Rattle.asking.specs.Asking.{asking, Both, both_of, both_refused, following, held_gate, leave_gate, leave_group, remove_for_fabric_both, factory_reset_both, add_asking, add_read_asking, store_asking, remove_asking, remove_all_asking, recall_asking, lookup_asking, view_asking, copy_asking, membership_asking}
use Rattle.observation.specs.Lists.{count, keep}
use Rattle.observation.specs.Numbers.{Among, failing}
use Rattle.observation.specs.Calls as calls
use Rattle.observation.specs.Calls.{with_state, of_result, of_view, of_recall, of_list, scene_key, group_key, copy_request}
use Rattle.observation.specs.Equivalence.{mine, of_fabric}
use Rattle.observation.specs.Refusals as refusals
use Rattle.observation.proofs.Lists.{found, has}
use Rattle.observation.proofs.Changes.{view_of, stepped}
use Rattle.observation.proofs.Effects.{Seen}
use Rattle.observation.proofs.Counts.{none_find}
use Rattle.observation.proofs.Choices.{cond_elim}
use Rattle.observation.proofs.Losses.{keep_ext}
use Rattle.observation.proofs.Calls.{laws}
use Rattle.observation.proofs.Numbers as numbers
use Rattle.observation.proofs.Numbers.{either}
use Rattle.observation.proofs.Passed.{group_let}
use Rattle.observation.proofs.Refusals.{refused_run}
use Rattle.observation.proofs.Removal.{removal-entries, removal-records}
use Rattle.group_observation.specs.Nodes.{Node, Command, add, add_read, view, remove, remove_all, store, recall, copy, membership, info, join, leave, Call, command, removal, reset, on_scenes, Out, of_joined, of_both, kept, does, step, answer, next}
use Rattle.group_observation.specs.Promises as promises
use Rattle.group_observation.specs.Promises.{of_fabric_word, Removed, RemovalLeavesNothing, Quiet, MembershipsAlone, JoinIsQuiet, Numbers, midway, RefusedRun, lent, UnsoundRun}
use Rattle.requests.proofs.Passed.{first_pass, fabric_pass}
use Rattle.group_observation.proofs.Words.{none_kept, kept-words}
use Rattle.group_observation.proofs.Asks.{asking-sound, asks, tells, told}
use Rattle.group_observation.proofs.Reach.{Joining, turned, again, full, new, joining}

-- ---- a fabric's removal

module _ (f : ℕ) (n : Node) (f1 : 1 ≤ f) (f255 : f ≤ 255) (s : sound n.scenes ≡ true) (g : groups_sound n.groups ≡ true) where
  some_fabric : f ≡ 0 → ⊥
  some_fabric z = let w : ⊥ = omega arith in w

  goes : (remove_for_fabric f n.scenes).status ≡ success
  unfolding calls.step
  goes = ap (λ (o : Seen). o.0.status) ((laws.events n.scenes s).removal_acts f (omega arith) some_fabric)

  -- what is left of both
  left : remove_for_fabric_both f n.groups n.scenes ≡ both_of (remove_for_fabric f n.scenes) (retain_groups (fabric_keys f) n.groups)
  unfolding remove_for_fabric_both
  left =
      asking-sound n.groups g _ _
      ∙ ap (λ (b : Bool). both_of (remove_for_fabric f n.scenes) (cond b (retain_groups (fabric_keys f) n.groups) n.groups))
      (eq-eqb (remove_for_fabric f n.scenes).status success goes)

  own_gone : Removed f n (next (removal f) n)
  unfolding step
  own_gone =
      let e : entries_in (remove_for_fabric f n.scenes).table ≡ keep (λ x. not (mine f x)) (entries_in n.scenes) = removal-entries n.scenes s f f1 f255 in
      let r : records_in (remove_for_fabric f n.scenes).table ≡ keep (λ w. not (of_fabric f w)) (records_in n.scenes) = removal-records n.scenes s f f1 f255 in
      let m : words_in (retain_groups (fabric_keys f) n.groups) ≡ keep (λ w. not (of_fabric_word f w)) (words_in n.groups) =
      kept-words (fabric_keys f) n.groups g ∙ keep_ext _ (λ w. not (of_fabric_word f w)) (λ w. ap not (fabric-keys f w)) (words_in n.groups) in
      subst (λ (b : Both). Removed f n (of_both b).1) (sym left) (record {
        entries = e;
        records = r;
        memberships = m;
        no_entry = ap (count (mine f)) e ∙ none_kept (mine f) (entries_in n.scenes);
        no_record = ap (count (of_fabric f)) r ∙ none_kept (of_fabric f) (records_in n.scenes);
        no_membership = ap (count (of_fabric_word f)) m ∙ none_kept (of_fabric_word f) (words_in n.groups);
      })

  quiet : count (mine f) (entries_in n.scenes) ≡ 0 → count (of_fabric f) (records_in n.scenes) ≡ 0 → Quiet (removal f) n
  unfolding step calls.step view_of
  quiet e r =
      let a = (laws.events n.scenes s).removal_acts f (omega arith) some_fabric in
      let none-had : (has (mine f) (entries_in n.scenes) || has (of_fabric f) (records_in n.scenes)) ≡ false =
      λ i. found (none_find (mine f) (entries_in n.scenes) e i) || found (none_find (of_fabric f) (records_in n.scenes) r i) in
      record {
        status = ap (λ (b : Both). b.result.status) left ∙ goes;
        save = ap (λ (b : Both). b.result.save) left ∙ ap (λ (o : Seen). o.0.save) a ∙ none-had;
        dataver =
            ap (λ (b : Both). b.result.table.state.dataver) left ∙ ap (λ (o : Seen). o.1.dataver) a
            ∙ ap (λ (b : Bool). cond b (stepped n.scenes.state.dataver) n.scenes.state.dataver) none-had;
      }

pub removal-leaves-nothing : RemovalLeavesNothing
removal-leaves-nothing f n f1 f255 s g = own_gone f n f1 f255 s g

pub memberships_alone : MembershipsAlone
memberships_alone f n f1 f255 s g e r = quiet f n f1 f255 s g e r

pub join_is_quiet : JoinIsQuiet
unfolding step does
join_is_quiet f e g n = (refl, refl)

-- ---- the numbers

-- 6, or what the call that is told answers
asked_among : {A : Type 0} (P : ℕ → Type 0) (status : A → ℕ) (g : Groups) (refuse : ℕ → A) (o : A)
    → P (status (refuse unsound)) → P (status o) → P (status (asking g refuse o))
unfolding asking
asked_among P status g refuse o six p = either (λ a. P (status a)) (groups_sound g) p six

-- what is held never fails: the numbers of a call without 2
held_among : (k : GroupKey) (g : Groups) (status : Membership → ℕ) (ms : List ℕ → List ℕ) → ((m : Membership) → Among (ms (failing m)) (status m))
    → Among (ms []) (status (member_of k g))
unfolding member_of
held_among k g status ms h = elim (is_member k g) as (λ b. Among (ms []) (status (cond b Yes No))) [ true ↦ h Yes | false ↦ h No ]

join_among : (k : GroupKey) (g : Groups) → Among (0 ∷ 1 ∷ 6 ∷ 12 ∷ 0x87 ∷ []) (join_group k g).status
unfolding join_group join_new join_gate first_refusal or_next
join_among k g =
    let P : ℕ → Type 0 = Among (0 ∷ 1 ∷ 6 ∷ 12 ∷ 0x87 ∷ []) in
    let gate : P (join_gate k g) =
    either P (eqb (groups_gate g) success)
    (either P (eqb (fabric_gate k.fabric) success)
    (either P (eqb (ungrouped_gate k.group) success) refl (either P (eqb k.group 0) refl refl)) (either P (eqb k.fabric 0) refl refl))
    (either P (not (groups_sound g)) refl refl) in
    either (λ (j : Joined). P j.status) (eqb (join_gate k g) success)
    (either (λ (j : Joined). P j.status) (is_member k g) refl (either (λ (j : Joined). P j.status) (ltb g.state.held max_memberships) refl refl)) gate

-- a remove all that is told yes, past the tests of a leave
left-done : (key : GroupKey) (t : Table) → 1 ≤ key.fabric → sound t ≡ true → (remove_all_scenes key Yes t).status ≡ success
unfolding remove_all_scenes removed_all guarded refusal_of
left-done key t f1 s =
    rw (s, group_let key.fabric key.endpoint key.group f1)
    (either (λ (r : Result). r.status ≡ success) (eqb (with_entries (retain_outside (group_keys key.fabric key.endpoint key.group)) t).state.entries t.state.entries) refl refl)

refusal_none : (t : Table) (gate : ℕ) → refusal_of t gate ≡ success → (sound t ≡ true) × (gate ≡ success)
unfolding refusal_of
refusal_none t gate =
    elim (sound t) as (λ b. cond b gate unsound ≡ success → (b ≡ true) × (gate ≡ success)) [ true ↦ λ z. (refl, z) | false ↦ λ z. absurd (omega (arith, z)) ]

-- a leave that is not refused finds its scenes sound, and is done
leave-done : (key : GroupKey) (g : Groups) (t : Table) → refusal_of t (leave_gate key g) ≡ success → (remove_all_scenes key Yes t).status ≡ success
unfolding leave_gate
leave-done key g t z =
    let p = refusal_none t (leave_gate key g) z in
    left-done key t (fabric_pass key.fabric (first_pass (fabric_gate key.fabric) _ p.1).0) p.0

leave_among : (key : GroupKey) (g : Groups) (t : Table) → Among (0 ∷ 1 ∷ 6 ∷ 0x87 ∷ 0x8B ∷ []) (leave_group key g t).result.status
unfolding leave_group guarded leave_gate refusal_of first_refusal or_next
leave_among key g t =
    let P : ℕ → Type 0 = Among (0 ∷ 1 ∷ 6 ∷ 0x87 ∷ 0x8B ∷ []) in
    let n = refusal_of t (leave_gate key g) in
    let gate : P n =
    either P (sound t)
    (either P (eqb (fabric_gate key.fabric) success)
    (either P (eqb (ungrouped_gate key.group) success)
    (either P (eqb (held_gate key g) success) refl (either P (not (is_member key g)) refl refl)) (either P (eqb key.group 0) refl refl))
    (either P (eqb key.fabric 0) refl refl))
    refl in
    asked_among P (λ (b : Both). b.result.status) g (both_refused g t) _ refl
    (cond_elim (λ (b : Both). P b.result.status) (eqb n success) (λ z. subst P (sym (leave-done key g t (eqb-true n success z))) refl) (λ _. gate))

command_among : (f e : ℕ) (c : Command) (n : Node) → Among (promises.numbers c) (answer (command f e c) n).status
unfolding step does add_asking add_read_asking store_asking store_counted counted remove_asking remove_all_asking recall_asking lookup_asking view_asking copy_asking membership_asking
command_among f e (add g s time pairs ext) n =
    asked_among (Among (0 ∷ 1 ∷ 6 ∷ 7 ∷ 0x85 ∷ 0x87 ∷ 0x89 ∷ [])) (λ (r : Result). r.status) n.groups _ _ refl
    (held_among (group_key f e g) n.groups (λ m. (add_scene (scene_key f e g s) time m pairs ext n.scenes).status)
    (λ l. 0 ∷ 1 ∷ 6 ∷ 7 ∷ 0x85 ∷ 0x87 ∷ 0x89 ∷ l)
    (λ m. numbers.add-numbers (scene_key f e g s) m n.scenes time pairs ext))
command_among f e (add_read g s time pairs ext) n =
    asked_among (Among (0 ∷ 1 ∷ 6 ∷ 7 ∷ 11 ∷ 0x85 ∷ 0x87 ∷ 0x89 ∷ [])) (λ (r : Result). r.status) n.groups _ _ refl
    (held_among (group_key f e g) n.groups (λ m. (add_scene_read (scene_key f e g s) time m pairs ext n.scenes).status)
    (λ l. 0 ∷ 1 ∷ 6 ∷ 7 ∷ 11 ∷ 0x85 ∷ 0x87 ∷ 0x89 ∷ l)
    (λ m. numbers.add_read-numbers (scene_key f e g s) m n.scenes time pairs ext))
command_among f e (view g s) n =
    asked_among (Among (0 ∷ 1 ∷ 6 ∷ 0x85 ∷ 0x87 ∷ 0x8B ∷ [])) (λ (r : SceneRead). r.status) n.groups _ _ refl
    (held_among (group_key f e g) n.groups (λ m. (view_scene (scene_key f e g s) m n.scenes).status)
    (λ l. 0 ∷ 1 ∷ 6 ∷ 0x85 ∷ 0x87 ∷ 0x8B ∷ l)
    (λ m. numbers.view-numbers (scene_key f e g s) m n.scenes))
command_among f e (remove g s) n =
    asked_among (Among (0 ∷ 1 ∷ 6 ∷ 0x85 ∷ 0x87 ∷ 0x8B ∷ [])) (λ (r : Result). r.status) n.groups _ _ refl
    (held_among (group_key f e g) n.groups (λ m. (remove_scene (scene_key f e g s) m n.scenes).status)
    (λ l. 0 ∷ 1 ∷ 6 ∷ 0x85 ∷ 0x87 ∷ 0x8B ∷ l)
    (λ m. numbers.remove-numbers (scene_key f e g s) m n.scenes))
command_among f e (remove_all g) n =
    asked_among (Among (0 ∷ 1 ∷ 6 ∷ 0x85 ∷ [])) (λ (r : Result). r.status) n.groups _ _ refl
    (held_among (group_key f e g) n.groups (λ m. (remove_all_scenes (group_key f e g) m n.scenes).status)
    (λ l. 0 ∷ 1 ∷ 6 ∷ 0x85 ∷ l)
    (λ m. numbers.remove_all-numbers (group_key f e g) m n.scenes))
command_among f e (store g s captured) n =
    asked_among (Among (0 ∷ 1 ∷ 3 ∷ 6 ∷ 0x85 ∷ 0x87 ∷ 0x89 ∷ [])) (λ (r : Counted). r.result.status) n.groups _ _ refl
    (held_among (group_key f e g) n.groups (λ m. (store_scene (scene_key f e g s) m captured n.scenes).status)
    (λ l. 0 ∷ 1 ∷ 3 ∷ 6 ∷ 0x85 ∷ 0x87 ∷ 0x89 ∷ l)
    (λ m. numbers.store-numbers (scene_key f e g s) m n.scenes captured))
command_among f e (recall g s o a) n =
    let key = scene_key f e g s in
    let u = with_state (lookup_asking key o n.groups n.scenes).state n.scenes in
    asked_among (Among (0 ∷ 1 ∷ 4 ∷ 6 ∷ 0x85 ∷ 0x87 ∷ 0x8B ∷ [])) (λ (r : Result). r.status) n.groups _ _ refl
    (held_among (group_key f e g) n.groups (λ m. (recall_scene key m a u).status)
    (λ l. 0 ∷ 1 ∷ 4 ∷ 6 ∷ 0x85 ∷ 0x87 ∷ 0x8B ∷ l)
    (λ m. numbers.recall-numbers key m u a))
command_among f e (copy mode g s h r) n =
    let c = copy_request f e mode g s h r in
    let source = member_of (group_key f e g) n.groups in
    asked_among (Among (0 ∷ 1 ∷ 6 ∷ 0x85 ∷ 0x87 ∷ 0x89 ∷ 0x8B ∷ [])) (λ (x : Result). x.status) n.groups _ _ refl
    (held_among (group_key f e h) n.groups (λ m. (copy_scene c source m n.scenes).status) (λ l. 0 ∷ 1 ∷ 6 ∷ 0x85 ∷ 0x87 ∷ 0x89 ∷ 0x8B ∷ l) (λ m.
    held_among (group_key f e g) n.groups (λ k. (copy_scene c k m n.scenes).status)
    (λ l. 0 ∷ 1 ∷ 6 ∷ 0x85 ∷ 0x87 ∷ 0x89 ∷ 0x8B ∷ l ++ failing m) (λ k.
    numbers.copy-numbers c k m n.scenes)))
command_among f e (membership g buffer) n =
    asked_among (Among (0 ∷ 1 ∷ 6 ∷ 8 ∷ 0x85 ∷ [])) (λ (r : Listed). r.read.status) n.groups _ _ refl
    (held_among (group_key f e g) n.groups (λ m. (get_scene_membership (group_key f e g) m buffer n.scenes).read.status)
    (λ l. 0 ∷ 1 ∷ 6 ∷ 8 ∷ 0x85 ∷ l)
    (λ m. numbers.membership-numbers (group_key f e g) m n.scenes buffer))
command_among f e (info single) n = numbers.info-numbers f e single n.scenes
command_among f e (join g) n = join_among (group_key f e g) n.groups
command_among f e (leave g) n = leave_among (group_key f e g) n.groups n.scenes

pub node_numbers : Numbers
unfolding step remove_for_fabric_both factory_reset_both read_group first_refusal or_next
node_numbers = record {
  command = command_among;
  removal = λ f n.
      asked_among (Among (0 ∷ 1 ∷ 6 ∷ [])) (λ (b : Both). b.result.status) n.groups (both_refused n.groups n.scenes) _ refl (numbers.removal-numbers n.scenes f);
  reset = λ n. asked_among (Among (0 ∷ 6 ∷ [])) (λ (b : Both). b.result.status) n.groups (both_refused n.groups n.scenes) _ refl (numbers.reset-numbers n.scenes);
  held = λ k g.
      let P : ℕ → Type 0 = Among (0 ∷ 1 ∷ 6 ∷ []) in
      either P (eqb (groups_gate g) success) (either P (eqb (fabric_gate k.fabric) success) refl (either P (eqb k.fabric 0) refl refl)) (either P (not (groups_sound g)) refl refl);
}

-- ---- memberships that are not sound

asking-unsound : {A : Type 0} (g : Groups) → groups_sound g ≡ false → (refuse : ℕ → A) (o : A) → asking g refuse o ≡ refuse unsound
asking-unsound g sd refuse o = sym (asks-unsound g sd refuse o)

join-unsound : (k : GroupKey) (g : Groups) → groups_sound g ≡ false → join_group k g ≡ joined_of unsound g
unfolding join_group join_gate first_refusal or_next
join-unsound k g sd = rw sd

pub unsound_run : UnsoundRun
unfolding step does add_asking add_read_asking store_asking remove_asking remove_all_asking recall_asking lookup_asking view_asking copy_asking membership_asking leave_group remove_for_fabric_both factory_reset_both
unsound_run n sd (command f e (add g s time pairs ext)) q = ap (λ (r : Result). kept n.groups (of_result r)) (asking-unsound n.groups sd (refused n.scenes) _)
unsound_run n sd (command f e (add_read g s time pairs ext)) q = ap (λ (r : Result). kept n.groups (of_result r)) (asking-unsound n.groups sd (refused n.scenes) _)
unsound_run n sd (command f e (view g s)) q = ap (λ (r : SceneRead). kept n.groups (of_view r n.scenes)) (asking-unsound n.groups sd (unread n.scenes) _)
unsound_run n sd (command f e (remove g s)) q = ap (λ (r : Result). kept n.groups (of_result r)) (asking-unsound n.groups sd (refused n.scenes) _)
unsound_run n sd (command f e (remove_all g)) q = ap (λ (r : Result). kept n.groups (of_result r)) (asking-unsound n.groups sd (refused n.scenes) _)
unsound_run n sd (command f e (store g s captured)) q =
    ap (λ (r : Counted). kept n.groups (of_result r.result)) (asking-unsound n.groups sd (λ k. counted_of (refused n.scenes k) 0) _)
unsound_run n sd (command f e (recall g s o a)) q =
    let key = scene_key f e g s in
    let t = n.scenes in
    ap (λ (r : SceneRead). kept n.groups (of_recall r (recall_asking key a n.groups (with_state r.state t)) t)) (asking-unsound n.groups sd (unread t) _)
    ∙ ap (λ (r : Result). kept n.groups (of_recall (unread t unsound) r t)) (asking-unsound n.groups sd (refused t) _)
unsound_run n sd (command f e (copy mode g s h r)) q = ap (λ (x : Result). kept n.groups (of_result x)) (asking-unsound n.groups sd (refused n.scenes) _)
unsound_run n sd (command f e (membership g buffer)) q =
    ap (λ (l : Listed). kept n.groups (of_list l n.scenes)) (asking-unsound n.groups sd (unlisted buffer n.scenes) _)
unsound_run n sd (command f e (info single)) q = absurd (false≢true q)
unsound_run n sd (command f e (join g)) q = ap (of_joined n.scenes) (join-unsound (group_key f e g) n.groups sd)
unsound_run n sd (command f e (leave g)) q = ap of_both (asking-unsound n.groups sd (both_refused n.groups n.scenes) _)
unsound_run n sd (removal f) q = ap of_both (asking-unsound n.groups sd (both_refused n.groups n.scenes) _)
unsound_run n sd reset q = ap of_both (asking-unsound n.groups sd (both_refused n.groups n.scenes) _)
unsound_run n sd (on_scenes c) q = absurd (false≢true q)

-- ---- refusals

module _ (n : Node) (sd : groups_sound n.groups ≡ true) where
  abbrev gs : Groups
  gs = n.groups

  asked-refused : (f e : ℕ) (c : Command) → asks c ≡ true → ((answer (command f e c) n).status ≡ success → ⊥)
      → refusals.midway (refusals.outward (calls.command f e (tells gs f e c))) n.scenes ≡ false → next (command f e c) n ≡ n
  unfolding step calls.step
  asked-refused f e c q fails whole =
      let t = told gs sd n.scenes f e c q in
      let same = refused_run (calls.command f e (tells gs f e c)) n.scenes (λ z. fails (ap (λ (o : Out). o.0.status) t ∙ z)) whole in
      ap (λ (o : Out). o.1) t ∙ ap (λ (u : Table). record { scenes = u; groups = gs }) same

  join-refused : (k : GroupKey) → ((join_group k gs).status ≡ success → ⊥) → (join_group k gs).groups ≡ gs
  join-refused k fails = go (joining k gs sd)
    where
      go : Joining k gs → (join_group k gs).groups ≡ gs
      go (turned z j) = ap (λ (x : Joined). x.groups) j
      go (again p m j) = ap (λ (x : Joined). x.groups) j
      go (full p m h j) = ap (λ (x : Joined). x.groups) j
      go (new p m h j) = absurd (fails (ap (λ (x : Joined). x.status) j))

  leave-refused : (key : GroupKey) → ((leave_group key gs n.scenes).result.status ≡ success → ⊥)
      → leave_group key gs n.scenes ≡ both_refused gs n.scenes (leave_group key gs n.scenes).result.status
  unfolding leave_group guarded
  leave-refused key fails =
      let t = n.scenes in
      let r = refusal_of t (leave_gate key gs) in
      let o = guarded (both_refused gs t) r (both_of (remove_all_scenes key Yes t) (retain_groups (group_keys key.fabric key.endpoint key.group) gs)) in
      let is : leave_group key gs t ≡ o = asking-sound gs sd (both_refused gs t) o in
      subst (λ (x : Both). (x.result.status ≡ success → ⊥) → x ≡ both_refused gs t x.result.status) (sym is)
      (cond_elim (λ (x : Both). (x.result.status ≡ success → ⊥) → x ≡ both_refused gs t x.result.status) (eqb r success)
      (λ z h. absurd (h (leave-done key gs t (eqb-true r success z)))) (λ z h. refl)) fails

  followed : (r : Result) (left : Groups) → ((following r left gs).result.status ≡ success → ⊥) → r.table ≡ n.scenes → (of_both (following r left gs)).1 ≡ n
  followed r left fails same =
      (λ i. record { scenes = r.table; groups = cond (ne_eqb r.status success fails i) left gs }) ∙ ap (λ (u : Table). record { scenes = u; groups = gs }) same

  sound-refused : (c : Call) → ((answer c n).status ≡ success → ⊥) → midway c n ≡ false → next c n ≡ n
  unfolding step does calls.step calls.does remove_for_fabric_both factory_reset_both
  sound-refused (command f e (add g s time pairs ext)) fails whole = asked-refused f e (add g s time pairs ext) refl fails refl
  sound-refused (command f e (add_read g s time pairs ext)) fails whole = asked-refused f e (add_read g s time pairs ext) refl fails refl
  sound-refused (command f e (view g s)) fails whole = asked-refused f e (view g s) refl fails refl
  sound-refused (command f e (remove g s)) fails whole = asked-refused f e (remove g s) refl fails refl
  sound-refused (command f e (remove_all g)) fails whole = asked-refused f e (remove_all g) refl fails refl
  sound-refused (command f e (store g s captured)) fails whole = asked-refused f e (store g s captured) refl fails refl
  sound-refused (command f e (recall g s o a)) fails whole = asked-refused f e (recall g s o a) refl fails refl
  sound-refused (command f e (copy mode g s h r)) fails whole = asked-refused f e (copy mode g s h r) refl fails whole
  sound-refused (command f e (membership g buffer)) fails whole = asked-refused f e (membership g buffer) refl fails refl
  sound-refused (command f e (info single)) fails whole = asked-refused f e (info single) refl fails refl
  sound-refused (command f e (join g)) fails whole = ap (λ (x : Groups). record { scenes = n.scenes; groups = x }) (join-refused (group_key f e g) fails)
  sound-refused (command f e (leave g)) fails whole = ap (λ (b : Both). (of_both b).1) (leave-refused (group_key f e g) fails)
  sound-refused (removal f) fails whole =
      let r = remove_for_fabric f n.scenes in
      let is = asking-sound gs sd (both_refused gs n.scenes) (following r (retain_groups (fabric_keys f) gs) gs) in
      let fails' : r.status ≡ success → ⊥ = λ z. fails (ap (λ (b : Both). b.result.status) is ∙ z) in
      ap (λ (b : Both). (of_both b).1) is ∙ followed r (retain_groups (fabric_keys f) gs) fails' (refused_run (calls.removal f) n.scenes fails' refl)
  sound-refused reset fails whole =
      let r = factory_reset n.scenes in
      let is = asking-sound gs sd (both_refused gs n.scenes) (following r (no_groups gs) gs) in
      let fails' : r.status ≡ success → ⊥ = λ z. fails (ap (λ (b : Both). b.result.status) is ∙ z) in
      ap (λ (b : Both). (of_both b).1) is ∙ followed r (no_groups gs) fails' (refused_run calls.reset n.scenes fails' refl)
  sound-refused (on_scenes c) fails whole = ap (λ (u : Table). record { scenes = u; groups = gs }) (refused_run c n.scenes fails whole)

-- info and the calls of the scenes alone do not look at the memberships
unlent_refused : (c : Call) (n : Node) → lent c ≡ false → ((answer c n).status ≡ success → ⊥) → midway c n ≡ false → next c n ≡ n
unfolding step does calls.step calls.does
unlent_refused (command f e (add g s time pairs ext)) n q fails whole = absurd (false≢true (sym q))
unlent_refused (command f e (add_read g s time pairs ext)) n q fails whole = absurd (false≢true (sym q))
unlent_refused (command f e (view g s)) n q fails whole = absurd (false≢true (sym q))
unlent_refused (command f e (remove g s)) n q fails whole = absurd (false≢true (sym q))
unlent_refused (command f e (remove_all g)) n q fails whole = absurd (false≢true (sym q))
unlent_refused (command f e (store g s captured)) n q fails whole = absurd (false≢true (sym q))
unlent_refused (command f e (recall g s o a)) n q fails whole = absurd (false≢true (sym q))
unlent_refused (command f e (copy mode g s h r)) n q fails whole = absurd (false≢true (sym q))
unlent_refused (command f e (membership g buffer)) n q fails whole = absurd (false≢true (sym q))
unlent_refused (command f e (info single)) n q fails whole =
    ap (λ (u : Table). record { scenes = u; groups = n.groups }) (refused_run (calls.command f e (calls.info single)) n.scenes fails refl)
unlent_refused (command f e (join g)) n q fails whole = absurd (false≢true (sym q))
unlent_refused (command f e (leave g)) n q fails whole = absurd (false≢true (sym q))
unlent_refused (removal f) n q fails whole = absurd (false≢true (sym q))
unlent_refused reset n q fails whole = absurd (false≢true (sym q))
unlent_refused (on_scenes c) n q fails whole = ap (λ (u : Table). record { scenes = u; groups = n.groups }) (refused_run c n.scenes fails whole)

pub node_refused : RefusedRun
node_refused c n fails whole =
    (elim (groups_sound n.groups) as (λ b. groups_sound n.groups ≡ b → next c n ≡ n) [
      | true ↦ λ sd. sound-refused n sd c fails whole
      | false ↦ λ sd.
          (elim (lent c) as (λ b. lent c ≡ b → next c n ≡ n) [
            | true ↦ λ l. ap (λ (o : Out). o.1) (unsound_run n sd c l)
            | false ↦ λ l. unlent_refused c n l fails whole
          ]) refl
    ]) refl
