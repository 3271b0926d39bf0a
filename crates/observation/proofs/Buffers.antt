-- Of a scene list buffer a membership's answer depends on the length alone: runs whose buffers have the same lengths compare alike,
-- whatever the buffers hold. Assumes nothing.
use Prim.Native.Nat.{ℕ, ◌^◌, ◌<◌}
use mathlib.Core.Path.{◌≡◌, refl, sym, ap, ◌∙◌}
use mathlib.Core.Bool.{true, false, cond}
use mathlib.Core.List.{List, [], ◌∷◌}
use lib.Dec.{eqb, ltb}
use lib.ListN.{length}
use borrow.Author.Tests.{eqb-true, eqb-false}
use Rattle.words.specs.Constants.{success, buffer_too_short}
use Rattle.requests.specs.declared.Membership.{Membership}
use Rattle.state.specs.Table.{Table}
use Rattle.state.specs.Sound.{sound}
use Rattle.observation.specs.Calls.{membership, command, answer, CommandInRange}
use Rattle.observation.proofs.Changes.{view_of}
use Rattle.observation.proofs.Effects.{Seen, sees, gate_of, refuse, ids_in, remaining_in}
use Rattle.observation.proofs.Calls.{laws}

module _ (t : Table) (sd : sound t ≡ true) (f e g : ℕ) (m : Membership) (hf : f < 2 ^ 8) (he : e < 2 ^ 16) where
  -- what membership answers past its gate, of the buffer's length
  abbrev lists : ℕ → Seen
  lists n =
      cond (ltb n (length (ids_in f e g (view_of t)))) (refuse buffer_too_short, view_of t)
      (record { status = success; save = false; values = remaining_in f (view_of t) ∷ []; ids = ids_in f e g (view_of t) }, view_of t)

  pub buffer-length : (b c : List ℕ) → CommandInRange (membership g m b) → CommandInRange (membership g m c) → length b ≡ length c
      → answer (command f e (membership g m b)) t ≡ answer (command f e (membership g m c)) t
  buffer-length b c hb hc same =
      let all = laws.commands f e t sd hf he in
      let n : ℕ = gate_of f e (membership g m b) in
      ap (λ (o : Seen). o.0)
      ((elim (eqb n success) as (λ x. eqb n success ≡ x → sees (command f e (membership g m b)) t ≡ sees (command f e (membership g m c)) t) [
        | true ↦ λ q.
            let p = eqb-true n success q in
            all.membership_acts g m b hb p ∙ ap lists same ∙ sym (all.membership_acts g m c hc p)
        | false ↦ λ q.
            let p = eqb-false n success q in
            all.refused_acts (membership g m b) hb p ∙ sym (all.refused_acts (membership g m c) hc p)
      ]) refl)
