-- What each call does to a view, and what holds of every reached table: from the laws of the calls. Assumes the laws, as an argument.
use Prim.Native.Nat.{ℕ, ◌^◌, ◌<◌}
use mathlib.Core.Path.{◌≡◌, refl, sym, subst}
use mathlib.Core.Bool.{true, false}
use mathlib.Core.List.{List, [], ◌∷◌}
use lib.Dec.{eqb}
use lib.ListN.{length}
use borrow.Author.Tests.{eqb-true, eqb-false}
use Rattle.std.proofs.Common.{Option, Some, None}
use Rattle.words.specs.Constants.{max_fields}
use Rattle.words.specs.Below.{positions}
use Rattle.records.specs.declared.Scope.TheVariants.{Endpoint}
use Rattle.state.specs.Table.{Table, entries_in, records_in}
use Rattle.state.specs.Sound.{sound}
use Rattle.image_reader.specs.Image.{Image, image_in}
use Rattle.image_gate.specs.Verdict.{clashes}
use Rattle.observation.specs.Calls.{Command, add, add_read, view, remove, remove_all, store, recall, copy, membership, info, Call, command, notice, removal, reset, start, failSafeEvent, load, next, scene_key, Bytes, CommandInRange, InRange}
use Rattle.observation.specs.Equivalence.{Reached, empty, after}
use Rattle.observation.proofs.Changes.{View, view_of, stepped}
use Rattle.observation.proofs.Effects.{Seen, sees, gate_of, loaded_by, decoded, loaded}
use Rattle.observation.proofs.Laws.{Laws}
use Rattle.observation.proofs.Sound.{to_each}
use Rattle.observation.proofs.Invariant.{Inv, empty_inv, invalidated_inv, dropped_inv}
use Rattle.observation.proofs.Loaded.{loaded_inv}
use Rattle.observation.proofs.Passed.{add_read-passed}
use Rattle.observation.proofs.Respond.{Responds, refused_responds, add_responds, view_responds, remove_responds, remove_all_responds, store_responds, recall_responds, membership_responds, info_responds}
use Rattle.observation.proofs.RespondCopy.{copy_responds}
use Rattle.requests.proofs.Passed.{add-passed}

-- ---- commands

-- what a command makes of a view: the table's view is all that it sees
pub record Lawful (f e : ℕ) (c : Command) : Type 0 where
  pub makes : View → Seen
  pub law : (t : Table) → sound t ≡ true → sees (command f e c) t ≡ makes (view_of t)
  pub responds : Responds f c makes

lawful_by : {f e : ℕ} {c : Command} {r : View → Seen} → Responds f c r → ((t : Table) → sound t ≡ true → sees (command f e c) t ≡ r (view_of t)) → Lawful f e c
lawful_by {f} {e} {c} {r} h l = record { makes = r; law = l; responds = h }

module _ (laws : Laws) where
  let_through : (f e : ℕ) (c : Command) → f < 2 ^ 8 → e < 2 ^ 16 → CommandInRange c → gate_of f e c ≡ 0 → Lawful f e c
  let_through f e (add g s time m pairs ext) hf he hc z =
      lawful_by (add_responds f e hf he _ g s time ext hc.0 hc.1 (add-passed (scene_key f e g s) m time pairs max_fields (length ext) z))
      (λ t S. (laws.commands f e t S hf he).add_acts g s time m pairs ext hc z)
  let_through f e (add_read g s time m pairs ext) hf he hc z =
      lawful_by (add_responds f e hf he _ g s time ext hc.0 hc.1 (add_read-passed (scene_key f e g s) m time pairs max_fields ext z))
      (λ t S. (laws.commands f e t S hf he).add_read_acts g s time m pairs ext hc z)
  let_through f e (view g s m) hf he hc z = lawful_by (view_responds f e hf he g s m hc) (λ t S. (laws.commands f e t S hf he).view_acts g s m hc z)
  let_through f e (remove g s m) hf he hc z = lawful_by (remove_responds f e hf he g s m hc) (λ t S. (laws.commands f e t S hf he).remove_acts g s m hc z)
  let_through f e (remove_all g m) hf he hc z = lawful_by (remove_all_responds f e hf he g m hc) (λ t S. (laws.commands f e t S hf he).remove_all_acts g m hc z)
  let_through f e (store g s m captured) hf he hc z =
      lawful_by (store_responds f e hf he g s m captured hc z) (λ t S. (laws.commands f e t S hf he).store_acts g s m captured hc z)
  let_through f e (recall g s m o a) hf he hc z =
      lawful_by (recall_responds f e hf he g s m o a hc z) (λ t S. (laws.commands f e t S hf he).recall_acts g s m o a hc z)
  let_through f e (copy mode g s h r m n) hf he hc z =
      lawful_by (copy_responds f e hf he mode g s h r m n hc z) (λ t S. (laws.commands f e t S hf he).copy_acts mode g s h r m n hc z)
  let_through f e (membership g m buffer) hf he hc z =
      lawful_by (membership_responds f e hf he g m buffer hc) (λ t S. (laws.commands f e t S hf he).membership_acts g m buffer hc z)
  let_through f e (info single) hf he hc z = lawful_by (info_responds f e hf he single) (λ t S. (laws.commands f e t S hf he).info_acts single z)

  pub lawful : (f e : ℕ) (c : Command) → f < 2 ^ 8 → e < 2 ^ 16 → CommandInRange c → Lawful f e c
  lawful f e c hf he hc =
      (elim (eqb (gate_of f e c) 0) as (λ b. eqb (gate_of f e c) 0 ≡ b → Lawful f e c) [
        | true ↦ λ z. let_through f e c hf he hc (eqb-true (gate_of f e c) 0 z)
        | false ↦ λ z. lawful_by (refused_responds f (gate_of f e c) c) (λ t S. (laws.commands f e t S hf he).refused_acts c hc (eqb-false (gate_of f e c) 0 z))
      ]) refl

-- ---- reached tables

-- a sound table whose view has the invariant
pub record Standing (t : Table) : Type 0 where
  pub intact : sound t ≡ true
  pub inv : Inv (view_of t)

-- a load that is refused leaves the view, and another one that of the image
decoded_inv : (image : List ℕ) (v : View) → Bytes image → Inv v → (o : Option Image) → image_in v.size image ≡ o → Inv (decoded o v).1
decoded_inv image v bytes inv None e = inv
decoded_inv image v bytes inv (Some i) e =
    (elim (clashes i) as (λ b. clashes i ≡ b → Inv (loaded_by b i v).1) [
      | true ↦ λ q. inv
      | false ↦ λ q. loaded_inv v.size v.modes (stepped v.dataver) image i inv.small bytes e q
    ]) refl

load_inv : (image : List ℕ) (v : View) → Bytes image → Inv v → Inv (loaded image v).1
load_inv [] v bytes inv = empty_inv _ _ _ inv.small
load_inv (b ∷ bs) v bytes inv = decoded_inv (b ∷ bs) v bytes inv (image_in v.size (b ∷ bs)) refl

module _ (laws : Laws) where
  step_inv : (c : Call) (t : Table) → InRange c → Standing t → Inv (sees c t).1
  step_inv (command f e c) t h s =
      let l = lawful laws f e c h.0 h.1 h.2 in
      subst (λ (o : Seen). Inv o.1) (sym (l.law t s.intact)) (l.responds.leaves (view_of t) s.inv)
  step_inv (notice e) t h s = subst (λ (o : Seen). Inv o.1) (sym ((laws.events t s.intact).notice_acts e h)) (invalidated_inv (Endpoint e) (view_of t) s.inv)
  step_inv (removal f) t h s =
      (elim (eqb f 0) as (λ b. eqb f 0 ≡ b → Inv (sees (removal f) t).1) [
        | true ↦ λ z.
            subst (λ (n : ℕ). Inv (sees (removal n) t).1) (sym (eqb-true f 0 z)) (subst (λ (o : Seen). Inv o.1) (sym (laws.events t s.intact).removal-refused) s.inv)
        | false ↦ λ z. subst (λ (o : Seen). Inv o.1) (sym ((laws.events t s.intact).removal_acts f h (eqb-false f 0 z))) (dropped_inv _ f (view_of t) s.inv)
      ]) refl
  step_inv reset t h s = subst (λ (o : Seen). Inv o.1) (sym (laws.events t s.intact).reset_acts) (empty_inv _ _ _ s.inv.small)
  step_inv start t h s = subst (λ (o : Seen). Inv o.1) (sym (laws.events t s.intact).start_acts) (empty_inv _ _ _ s.inv.small)
  step_inv failSafeEvent t h s = subst (λ (o : Seen). Inv o.1) (sym (laws.events t s.intact).fail_safe_acts) s.inv
  step_inv (load image) t h s =
      subst (λ (o : Seen). Inv o.1) (sym ((laws.events t s.intact).load_acts image h)) (load_inv image (view_of t) h s.inv)

  pub step-standing : (c : Call) (t : Table) → InRange c → Standing t → Standing (next c t)
  step-standing c t h s = record { intact = laws.step-sound c t h s.intact; inv = step_inv c t h s }

  empty-standing : (t : Table) → sound t ≡ true → t.state.entries ≡ 0 → t.state.recorded ≡ 0 → Standing t
  unfolding view_of entries_in records_in positions
  empty-standing t S e r = record {
    intact = S;
    inv = subst Inv (λ i. record { size = t.state.size; modes = t.state.modes; dataver = t.state.dataver; entries = sym no_entries i; records = sym no_records i }) (empty_inv t.state.size t.state.modes t.state.dataver (to_each t S).most);
  }
    where
      no_entries : entries_in t ≡ []
      no_entries = rw e refl

      no_records : records_in t ≡ []
      no_records = rw r refl

  pub reached_standing : {t : Table} → Reached t → Standing t
  reached_standing (empty t S e r) = empty-standing t S e r
  reached_standing (after c {t} h r) = step-standing c t h (reached_standing r)
