-- A node's calls by those of its scenes: a command that asks is the command that is told what is held; each call leaves scenes that a call of the scenes
-- leaves, and memberships that a join or a drop leaves. Assumes nothing.
use Prim.Native.Nat.{ℕ}
use mathlib.Core.Path.{◌≡◌, refl, sym, ap, ◌∙◌, subst}
use mathlib.Core.Bool.{Bool, true, false, cond, false≢true}
use lib.Dec.{eqb}
use borrow.Author.Tests.{eqb-true, eqb-false, eq-eqb, ne_eqb}
use Rattle.words.specs.Constants.{success, unsound}
use Rattle.words.specs.Words.{group_keys}
use Rattle.words.specs.declared.GroupKey.{GroupKey}
use Rattle.requests.specs.declared.Membership.TheVariants.{Yes}
use Rattle.state.specs.Table.{Table}
use Rattle.state.specs.Sound.{sound}
use Rattle.state.specs.Answer.{Result, result_of, refused, refusal_of, guarded}
use Rattle.commands.specs.Commands.{remove_all_scenes, recall_scene}
use Rattle.commands.specs.Counted.{Counted, counted, store_counted}
use Rattle.lifecycle.specs.Lifecycle.{fail_safe}
use Rattle.reads.specs.declared.SceneRead.{SceneRead}
use Rattle.reads.specs.Reads.{unread, recall_lookup, Listed}
use Rattle.groups.specs.Groups.{Groups, groups_sound, member_of, retain_groups}
use Rattle.asking.proofs.Laws as laws
use Rattle.asking.specs.Asking.{asking, Both, both_of, both_refused, add_asking, add_read_asking, store_asking, remove_asking, remove_all_asking, recall_asking, lookup_asking, view_asking, copy_asking, membership_asking, leave_gate, leave_group, remove_for_fabric_both, factory_reset_both}
use Rattle.observation.specs.Calls as calls
use Rattle.observation.specs.Calls.{with_state, of_result, of_view, of_recall, of_list, scene_key, group_key}
use Rattle.group_observation.specs.Nodes.{Node, Command, add, add_read, view, remove, remove_all, store, recall, copy, membership, info, join, leave, Call, command, removal, reset, on_scenes, Out, kept, does, step, next, CommandInRange, InRange}

pub asking-sound : {A : Type 0} (g : Groups) → groups_sound g ≡ true → (refuse : ℕ → A) (o : A) → asking g refuse o ≡ o
asking-sound g sd refuse o = sym (laws.asks g refuse o sd)

-- ---- commands that ask

-- all but joins and leaves
abbrev pub asks : Command → Bool
asks (add g s time pairs ext) = true
asks (add_read g s time pairs ext) = true
asks (view g s) = true
asks (remove g s) = true
asks (remove_all g) = true
asks (store g s captured) = true
asks (recall g s o a) = true
asks (copy mode g s h r) = true
asks (membership g buffer) = true
asks (info single) = true
asks (join g) = false
asks (leave g) = false

-- the command of the scenes that is told what is held; to the scenes a leave is a remove all that is told yes, and a join nothing
abbrev pub tells : Groups → ℕ → ℕ → Command → calls.Command
tells gs f e (add g s time pairs ext) = calls.add g s time (member_of (group_key f e g) gs) pairs ext
tells gs f e (add_read g s time pairs ext) = calls.add_read g s time (member_of (group_key f e g) gs) pairs ext
tells gs f e (view g s) = calls.view g s (member_of (group_key f e g) gs)
tells gs f e (remove g s) = calls.remove g s (member_of (group_key f e g) gs)
tells gs f e (remove_all g) = calls.remove_all g (member_of (group_key f e g) gs)
tells gs f e (store g s captured) = calls.store g s (member_of (group_key f e g) gs) captured
tells gs f e (recall g s o a) = calls.recall g s (member_of (group_key f e g) gs) o a
tells gs f e (copy mode g s h r) = calls.copy mode g s h r (member_of (group_key f e g) gs) (member_of (group_key f e h) gs)
tells gs f e (membership g buffer) = calls.membership g (member_of (group_key f e g) gs) buffer
tells gs f e (info single) = calls.info single
tells gs f e (join g) = calls.info true
tells gs f e (leave g) = calls.remove_all g Yes

pub tells_range : (gs : Groups) (f e : ℕ) (c : Command) → CommandInRange c → calls.CommandInRange (tells gs f e c)
tells_range gs f e (add g s time pairs ext) w = w
tells_range gs f e (add_read g s time pairs ext) w = w
tells_range gs f e (view g s) w = w
tells_range gs f e (remove g s) w = w
tells_range gs f e (remove_all g) w = w
tells_range gs f e (store g s captured) w = w
tells_range gs f e (recall g s o a) w = w
tells_range gs f e (copy mode g s h r) w = w
tells_range gs f e (membership g buffer) w = w
tells_range gs f e (info single) w = w
tells_range gs f e (join g) w = tt
tells_range gs f e (leave g) w = w

module _ (gs : Groups) (sd : groups_sound gs ≡ true) (t : Table) (f e : ℕ) where
  result_told : (r : Result) → (refuse : ℕ → Result) → kept gs (of_result (asking gs refuse r)) ≡ kept gs (of_result r)
  result_told r refuse = ap (λ (x : Result). kept gs (of_result x)) (asking-sound gs sd refuse r)

  pub told : (c : Command) → asks c ≡ true → does f e c gs t ≡ kept gs (calls.does f e (tells gs f e c) t)
  unfolding does calls.does add_asking add_read_asking store_asking store_counted counted remove_asking remove_all_asking recall_asking lookup_asking view_asking copy_asking membership_asking
  told (add g s time pairs ext) q = result_told _ _
  told (add_read g s time pairs ext) q = result_told _ _
  told (view g s) q = ap (λ (x : SceneRead). kept gs (of_view x t)) (asking-sound gs sd _ _)
  told (remove g s) q = result_told _ _
  told (remove_all g) q = result_told _ _
  told (store g s captured) q = ap (λ (x : Counted). kept gs (of_result x.result)) (asking-sound gs sd _ _)
  told (recall g s o a) q =
      let m = member_of (group_key f e g) gs in
      let r = recall_lookup (scene_key f e g s) m o t in
      ap (λ (x : SceneRead). kept gs (of_recall x (recall_asking (scene_key f e g s) a gs (with_state x.state t)) t)) (asking-sound gs sd (unread t) r)
      ∙ ap (λ (x : Result). kept gs (of_recall r x t))
      (asking-sound gs sd (refused (with_state r.state t)) (recall_scene (scene_key f e g s) m a (with_state r.state t)))
  told (copy mode g s h r) q = result_told _ _
  told (membership g buffer) q = ap (λ (x : Listed). kept gs (of_list x t)) (asking-sound gs sd _ _)
  told (info single) q = refl
  told (join g) q = absurd (false≢true q)
  told (leave g) q = absurd (false≢true q)

-- ---- leaving

module _ (key : GroupKey) (gs : Groups) (sd : groups_sound gs ≡ true) (t : Table) (s : sound t ≡ true) where
  pub left : leave_gate key gs ≡ success
      → leave_group key gs t ≡ both_of (remove_all_scenes key Yes t) (retain_groups (group_keys key.fabric key.endpoint key.group) gs)
  unfolding leave_group asking guarded refusal_of
  left z = rw (sd, s, eq-eqb (leave_gate key gs) success z)

  pub stays : (leave_gate key gs ≡ success → ⊥) → leave_group key gs t ≡ both_refused gs t (leave_gate key gs)
  unfolding leave_group asking guarded refusal_of
  stays n = rw (sd, s, ne_eqb (leave_gate key gs) success n)

-- ---- the calls of the scenes

-- the scenes that a call leaves are those that a call of the scenes leaves
pub record Moved (n : Node) (c : Call) : Type 0 where
  pub by : calls.Call
  pub fits : calls.InRange by
  pub is : (next c n).scenes ≡ calls.next by n.scenes

-- a fail-safe event leaves the table
unmoved : (t : Table) → sound t ≡ true → t ≡ calls.next calls.failSafeEvent t
unfolding calls.step fail_safe guarded refusal_of
unmoved t s = subst (λ (b : Bool). t ≡ (guarded (refused t) (cond b success unsound) (result_of success false t)).table) (sym s) refl

module _ (n : Node) (sd : groups_sound n.groups ≡ true) (s : sound n.scenes ≡ true) where
  abbrev gs : Groups
  gs = n.groups

  told_moved : (f e : ℕ) (c : Command) → InRange (command f e c) → asks c ≡ true → Moved n (command f e c)
  unfolding step calls.step
  told_moved f e c w q = record {
    by = calls.command f e (tells gs f e c);
    fits = (w.0, w.1, tells_range gs f e c w.2);
    is = ap (λ (o : Out). o.1.scenes) (told gs sd n.scenes f e c q);
  }

  leave-moved : (f e g : ℕ) → InRange (command f e (leave g)) → Moved n (command f e (leave g))
  unfolding step does calls.step calls.does
  leave-moved f e g w =
      let key = group_key f e g in
      (elim (eqb (leave_gate key gs) success) as (λ b. eqb (leave_gate key gs) success ≡ b → Moved n (command f e (leave g))) [
        | true ↦ λ z. record {
          by = calls.command f e (calls.remove_all g Yes);
          fits = w;
          is = ap (λ (b : Both). b.result.table) (left key gs sd n.scenes s (eqb-true (leave_gate key gs) success z));
        }
        | false ↦ λ z. record {
          by = calls.failSafeEvent;
          fits = tt;
          is = ap (λ (b : Both). b.result.table) (stays key gs sd n.scenes s (eqb-false (leave_gate key gs) success z)) ∙ unmoved n.scenes s;
        }
      ]) refl

  pub moved : (c : Call) → InRange c → Moved n c
  unfolding step does calls.step remove_for_fabric_both factory_reset_both
  moved (command f e (add g k time pairs ext)) w = told_moved f e (add g k time pairs ext) w refl
  moved (command f e (add_read g k time pairs ext)) w = told_moved f e (add_read g k time pairs ext) w refl
  moved (command f e (view g k)) w = told_moved f e (view g k) w refl
  moved (command f e (remove g k)) w = told_moved f e (remove g k) w refl
  moved (command f e (remove_all g)) w = told_moved f e (remove_all g) w refl
  moved (command f e (store g k captured)) w = told_moved f e (store g k captured) w refl
  moved (command f e (recall g k o a)) w = told_moved f e (recall g k o a) w refl
  moved (command f e (copy mode g k h r)) w = told_moved f e (copy mode g k h r) w refl
  moved (command f e (membership g buffer)) w = told_moved f e (membership g buffer) w refl
  moved (command f e (info single)) w = told_moved f e (info single) w refl
  moved (command f e (join g)) w = record { by = calls.failSafeEvent; fits = tt; is = unmoved n.scenes s }
  moved (command f e (leave g)) w = leave-moved f e g w
  moved (removal f) w =
      record { by = calls.removal f; fits = w; is = ap (λ (b : Both). b.result.table) (asking-sound gs sd (both_refused gs n.scenes) _) }
  moved reset w =
      record { by = calls.reset; fits = tt; is = ap (λ (b : Both). b.result.table) (asking-sound gs sd (both_refused gs n.scenes) _) }
  moved (on_scenes c) w = record { by = c; fits = w; is = refl }
