-- A table that is not sound: every call answers 6, with nothing beyond it, and leaves the table as it was. Assumes nothing.
use Prim.Native.Nat.{ℕ}
use mathlib.Core.Path.{◌≡◌, ap, ◌∙◌}
use mathlib.Core.Bool.{false, cond}
use mathlib.Core.List.{[], ◌∷◌}
use lib.Dec.{eqb}
use Rattle.words.specs.Constants.{success, unsound}
use Rattle.reads.specs.declared.SceneRead.{SceneRead}
use Rattle.state.specs.Table.{Table}
use Rattle.state.specs.Sound.{sound}
use Rattle.state.specs.Answer.{refusal_of, guarded}
use Rattle.commands.specs.Commands.{add_scene, store_scene, remove_scene, remove_all_scenes, recall_scene}
use Rattle.copies.specs.Copy.{copy_scene}
use Rattle.reads.specs.Reads.{unread, view_scene, recall_lookup, get_scene_membership, read_fabric_scene_info}
use Rattle.lifecycle.specs.Lifecycle.{scenable_attribute_changed, remove_for_fabric, factory_reset, startup, fail_safe}
use Rattle.image_load.specs.Loading.{load_tlv, load_image}
use Rattle.add_read.specs.Adding.{add_scene_read}
use Rattle.observation.specs.Calls.{Command, add, add_read, view, remove, remove_all, store, recall, copy, membership, info, Call, command, notice, removal, reset, start, failSafeEvent, load, Out, with_state, of_result, of_view, of_recall, of_list, of_info, scene_key, does, step}
use Rattle.observation.specs.Refusals.{UnsoundRun}

module _ (t : Table) (h : sound t ≡ false) where
  -- whatever the request alone decides, the refusal is 6
  first : (gate : ℕ) → refusal_of t gate ≡ unsound
  unfolding refusal_of
  first gate = ap (λ b. cond b gate unsound) h

  refuses : {A : Type 0} (refuse : ℕ → A) (gate : ℕ) (o : A) → guarded refuse (refusal_of t gate) o ≡ refuse unsound
  unfolding guarded
  refuses refuse gate o = ap (λ n. cond (eqb n success) o (refuse n)) (first gate)

  abbrev Refused : Out → Type 0
  Refused o = o ≡ (record { status = unsound; save = false; values = []; ids = [] }, t)

  does-refused : (f e : ℕ) (c : Command) → Refused (does f e c t)
  unfolding does add_scene add_scene_read view_scene remove_scene remove_all_scenes store_scene recall_lookup recall_scene copy_scene get_scene_membership read_fabric_scene_info
  does-refused f e (add g s time m pairs ext) = ap of_result (refuses _ _ _)
  does-refused f e (add_read g s time m pairs ext) = ap of_result (refuses _ _ _)
  does-refused f e (view g s m) = ap (λ r. of_view r t) (refuses _ _ _)
  does-refused f e (remove g s m) = ap of_result (refuses _ _ _)
  does-refused f e (remove_all g m) = ap of_result (refuses _ _ _)
  does-refused f e (store g s m captured) = ap of_result (refuses _ _ _)
  does-refused f e (recall g s m o a) =
      ap (λ (r : SceneRead). of_recall r (recall_scene (scene_key f e g s) m a (with_state r.state t)) t) (refuses _ _ _)
      ∙ ap (λ c. of_recall (unread t unsound) c t) (refuses _ _ _)
  does-refused f e (copy mode g s h r m n) = ap of_result (refuses _ _ _)
  does-refused f e (membership g m buffer) = ap (λ l. of_list l t) (refuses _ _ _)
  does-refused f e (info single) = ap (λ r. of_info r t) (refuses _ _ _)

  step-refused : (c : Call) → Refused (step c t)
  unfolding step scenable_attribute_changed remove_for_fabric factory_reset startup fail_safe load_tlv load_image
  step-refused (command f e c) = does-refused f e c
  step-refused (notice e) = ap of_result (refuses _ _ _)
  step-refused (removal f) = ap of_result (refuses _ _ _)
  step-refused reset = ap of_result (refuses _ _ _)
  step-refused start = ap of_result (refuses _ _ _)
  step-refused failSafeEvent = ap of_result (refuses _ _ _)
  step-refused (load []) = ap of_result (refuses _ _ _)
  step-refused (load (b ∷ bs)) = ap of_result (refuses _ _ _)

pub unsound-refused : UnsoundRun
unsound-refused t h c = step-refused t h c
