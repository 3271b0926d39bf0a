-- The laws of the calls hold, and every call keeps a table sound. Assumes nothing.
use Prim.Native.Nat.{ℕ, zero, suc, ◌^◌, ◌<◌}
use mathlib.Core.Path.{◌≡◌, refl}
use mathlib.Core.Bool.{true, false}
use native.Mathlib.Omega.{arith}
use lib.Dec.{eqb}
use borrow.Author.Tests.{eqb-true, eqb-false, ne_eqb}
use Rattle.words.specs.Constants.{success}
use Rattle.state.specs.Table.{Table}
use Rattle.state.specs.Sound.{sound}
use Rattle.state.specs.Answer.{refused}
use Rattle.commands.specs.Commands.{add_scene, store_scene, remove_scene, remove_all_scenes, recall_scene}
use Rattle.copies.specs.Copy.{copy_scene}
use Rattle.reads.specs.Reads.{unread, view_scene, recall_lookup, unlisted, get_scene_membership, no_row, read_fabric_scene_info}
use Rattle.add_read.specs.Adding.{add_scene_read}
use Rattle.observation.specs.Calls.{Command, add, add_read, view, remove, remove_all, store, recall, copy, membership, info, Call, command, notice, removal, reset, start, failSafeEvent, load, step, does, next, with_state, of_result, of_view, of_recall, of_list, of_info, scene_key, CommandInRange, InRange}
use Rattle.observation.proofs.Changes.{view_of}
use Rattle.observation.proofs.Effects.{gate_of, refuse}
use Rattle.observation.proofs.Laws.{CommandLaws, EventLaws, Laws}
use Rattle.observation.proofs.Acts.{itself, Acts, results, acts_refused}
use Rattle.observation.proofs.ActsCommands as commands
use Rattle.observation.proofs.ActsReads as reads
use Rattle.observation.proofs.ActsCopy as copies
use Rattle.observation.proofs.ActsLifecycle as lifecycle
use Rattle.observation.proofs.ActsLoad as loads

module _ (f e : ℕ) (t : Table) (sd : sound t ≡ true) where
  turned : (c : Command) → (gate_of f e c ≡ success → ⊥) → Acts (step (command f e c) t) (refuse (gate_of f e c), view_of t)
  unfolding step does add_scene add_scene_read store_scene remove_scene remove_all_scenes recall_scene copy_scene view_scene recall_lookup get_scene_membership read_fabric_scene_info
  turned (add g s time m pairs ext) n = acts_refused (refused t) t sd _ _ of_result _ n (results _ false t (view_of t) (itself t sd))
  turned (add_read g s time m pairs ext) n = acts_refused (refused t) t sd _ _ of_result _ n (results _ false t (view_of t) (itself t sd))
  turned (view g s m) n = acts_refused (unread t) t sd _ _ (λ r. of_view r t) _ n (rw (ne_eqb _ success n) (record { seen = refl; stays = sd }))
  turned (remove g s m) n = acts_refused (refused t) t sd _ _ of_result _ n (results _ false t (view_of t) (itself t sd))
  turned (remove_all g m) n = acts_refused (refused t) t sd _ _ of_result _ n (results _ false t (view_of t) (itself t sd))
  turned (store g s m captured) n = acts_refused (refused t) t sd _ _ of_result _ n (results _ false t (view_of t) (itself t sd))
  turned (recall g s m o a) n =
      acts_refused (unread t) t sd _ _ (λ r. of_recall r (recall_scene (scene_key f e g s) m a (with_state r.state t)) t) _ n
      (acts_refused (refused t) t sd _ _ (λ c. of_recall (unread t (gate_of f e (recall g s m o a))) c t) _ n (rw (ne_eqb _ success n) (record { seen = refl; stays = sd })))
  turned (copy mode g s h r m k) n = acts_refused (refused t) t sd _ _ of_result _ n (results _ false t (view_of t) (itself t sd))
  turned (membership g m buffer) n = acts_refused (unlisted buffer t) t sd _ _ (λ l. of_list l t) _ n (rw (ne_eqb _ success n) (record { seen = refl; stays = sd }))
  turned (info single) n = acts_refused (no_row t) t sd _ _ (λ r. of_info r t) _ n (record { seen = refl; stays = sd })

module _ (f e : ℕ) (t : Table) (sd : sound t ≡ true) (hf : f < 2 ^ 8) (he : e < 2 ^ 16) where
  command_laws : CommandLaws f e t (view_of t)
  command_laws = record {
    refused_acts = λ c w n. (turned f e t sd c n).seen;
    add_acts = λ g s time m pairs ext w p. (commands.add_acts f e t sd hf he g s time m pairs ext w p).seen;
    add_read_acts = λ g s time m pairs ext w p. (commands.add_read_acts f e t sd hf he g s time m pairs ext w p).seen;
    view_acts = λ g s m w p. (reads.view_acts f e t sd hf he g s m p).seen;
    remove_acts = λ g s m w p. (commands.remove_acts f e t sd hf he g s m p).seen;
    remove_all_acts = λ g m w p. (commands.remove_all_acts f e t sd hf he g m p).seen;
    store_acts = λ g s m captured w p. (commands.store_acts f e t sd hf he g s m captured w p).seen;
    recall_acts = λ g s m o a w p. (reads.recall_acts f e t sd hf he g s m o a w p).seen;
    copy_acts = λ mode g s h r m n w p. (copies.copy_acts f e t sd hf he mode g s h r m n w p).seen;
    membership_acts = λ g m buffer w p. (reads.membership_acts f e t sd hf he g m buffer p).seen;
    info_acts = λ single p. (reads.info_acts f e t sd hf he single p).seen;
  }

  -- past the gate
  passed-sound : (c : Command) → CommandInRange c → gate_of f e c ≡ success → sound (next (command f e c) t) ≡ true
  passed-sound (add g s time m pairs ext) w p = (commands.add_acts f e t sd hf he g s time m pairs ext w p).stays
  passed-sound (add_read g s time m pairs ext) w p = (commands.add_read_acts f e t sd hf he g s time m pairs ext w p).stays
  passed-sound (view g s m) w p = (reads.view_acts f e t sd hf he g s m p).stays
  passed-sound (remove g s m) w p = (commands.remove_acts f e t sd hf he g s m p).stays
  passed-sound (remove_all g m) w p = (commands.remove_all_acts f e t sd hf he g m p).stays
  passed-sound (store g s m captured) w p = (commands.store_acts f e t sd hf he g s m captured w p).stays
  passed-sound (recall g s m o a) w p = (reads.recall_acts f e t sd hf he g s m o a w p).stays
  passed-sound (copy mode g s h r m n) w p = (copies.copy_acts f e t sd hf he mode g s h r m n w p).stays
  passed-sound (membership g m buffer) w p = (reads.membership_acts f e t sd hf he g m buffer p).stays
  passed-sound (info single) w p = (reads.info_acts f e t sd hf he single p).stays

  command-sound : (c : Command) → CommandInRange c → sound (next (command f e c) t) ≡ true
  command-sound c w =
      (elim (eqb (gate_of f e c) success) as (λ b. eqb (gate_of f e c) success ≡ b → sound (next (command f e c) t) ≡ true) [
        | true ↦ λ q. passed-sound c w (eqb-true (gate_of f e c) success q)
        | false ↦ λ q. (turned f e t sd c (eqb-false (gate_of f e c) success q)).stays
      ]) refl

module _ (t : Table) (sd : sound t ≡ true) where
  event_laws : EventLaws t (view_of t)
  unfolding view_of
  event_laws = record {
    notice_acts = λ e w. (lifecycle.notice_acts t sd e).seen;
    removal-refused = (lifecycle.removal-refused t sd).seen;
    removal_acts = λ f w n. (lifecycle.removal_acts t sd f n).seen;
    reset_acts = (lifecycle.reset_acts t sd).seen;
    start_acts = (lifecycle.start_acts t sd).seen;
    fail_safe_acts = (lifecycle.fail_safe_acts t sd).seen;
    load_acts = λ image bytes. (loads.load_acts t sd image bytes).seen;
  }

  removal-sound : (f : ℕ) → sound (next (removal f) t) ≡ true
  removal-sound zero = (lifecycle.removal-refused t sd).stays
  removal-sound (suc f) = (lifecycle.removal_acts t sd (suc f) (λ z. omega arith)).stays

pub step-sound : (c : Call) (t : Table) → InRange c → sound t ≡ true → sound (next c t) ≡ true
step-sound (command f e c) t w sd = command-sound f e t sd w.0 w.1 c w.2
step-sound (notice e) t w sd = (lifecycle.notice_acts t sd e).stays
step-sound (removal f) t w sd = removal-sound t sd f
step-sound reset t w sd = (lifecycle.reset_acts t sd).stays
step-sound start t w sd = (lifecycle.start_acts t sd).stays
step-sound failSafeEvent t w sd = (lifecycle.fail_safe_acts t sd).stays
step-sound (load image) t w sd = (loads.load_acts t sd image w).stays

pub laws : Laws
laws = record {
  commands = λ f e t sd hf he. command_laws f e t sd hf he;
  events = λ t sd. event_laws t sd;
  step-sound = step-sound;
}
