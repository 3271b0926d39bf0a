-- The field bytes at the position that a view or a recall's lookup answers are those of the scene that was asked for, and none where it
-- was refused, and they are as many as it says. Assumes nothing.
use Prim.Native.Nat.{ℕ, ◌+◌, ◌*◌, ◌<◌}
use mathlib.Core.Path.{◌≡◌, refl, sym, ap, subst}
use mathlib.Core.Bool.{true, false, cond, ◌&&◌}
use mathlib.Core.List.{[]}
use native.Mathlib.Omega.{arith}
use lib.Dec.{eqb, ltb}
use lib.ListN.{length}
use borrow.Author.Tests.{lt-ltb, le-ltb, eqb-true, eqb-false}
use Rattle.words.specs.Constants.{success, not_found, max_scenes, stride}
use Rattle.std.specs.Prelude.{Some, None}
use Rattle.words.specs.Words.{word_of}
use Rattle.words.specs.declared.SceneKey.{SceneKey}
use Rattle.slots.specs.Slots.{length_at, fields_at}
use Rattle.slots.proofs.Laws.{length_part}
use Rattle.requests.specs.declared.Membership.{Membership}
use Rattle.requests.specs.Requests.{lookup_gate}
use Rattle.reads.specs.Reads.{Transition}
use Rattle.std.specs.Prelude.{None}
use Rattle.state.specs.Table.{Table}
use Rattle.state.specs.Sound.{sound}
use Rattle.state.specs.Change.{find_scene}
use Rattle.state.specs.Answer.{refusal_of, guarded}
use Rattle.reads.specs.Reads.{unread, read_at, recall_lookup, view_scene, field_bytes}
use Rattle.state.proofs.Laws.{sound_bounds, sound-length, found_under}
use Rattle.state.proofs.Guard.{when_refused, when_passed, passed-sound}
use Rattle.observation.specs.FieldBytes.{Tied}

-- no table has an entry at the position of a refusal
past : (t : Table) → field_bytes max_scenes t ≡ []
unfolding field_bytes
past t =
    (elim (sound t) as (λ b. sound t ≡ b → cond (b && ltb max_scenes t.state.entries) (fields_at t.slots.fields max_scenes) [] ≡ []) [
      | true ↦ λ e. let f = sound_bounds t e in rw (le-ltb max_scenes t.state.entries (omega arith))
      | false ↦ λ _. refl
    ]) refl

refused_tied : (key : SceneKey) (t : Table) (n : ℕ) → (n ≡ success → ⊥) → Tied key t (unread t n)
refused_tied key t n h = record { found = λ e. absurd (h e); fields = λ e. absurd (h e); nothing = λ _. past t; size = ap length (sym (past t)) }

-- as many as the length byte says
field_count : (t : Table) (p : ℕ) → sound t ≡ true → p < t.state.entries → length_at t.slots.fields p ≡ length (fields_at t.slots.fields p)
field_count t p sd l =
    let b = sound_bounds t sd in
    let m = sound-length t p sd l in
    sym (length_part t.slots.fields (p * stride + 1) (length_at t.slots.fields p) (omega arith))

read_tied : (key : SceneKey) (t : Table) (o : Transition) → sound t ≡ true → Tied key t (read_at (find_scene key t) o t)
unfolding read_at field_bytes
read_tied key t o sd =
    (elim (find_scene key t) as (λ f. find_scene key t ≡ f → Tied key t (read_at f o t)) [
      | Some p ↦ λ e.
          let l : p < t.state.entries = found_under t.slots.keys t.state.entries (word_of key) p e in
          record {
            found = λ _. e;
            fields = λ _. rw (sd, lt-ltb p t.state.entries l);
            nothing = λ h. absurd (h refl);
            size = rw (sd, lt-ltb p t.state.entries l) (field_count t p sd l);
          }
      | None ↦ λ e. refused_tied key t not_found (λ z. omega arith)
    ]) refl

pub lookup_tied : (key : SceneKey) (m : Membership) (o : Transition) (t : Table) → Tied key t (recall_lookup key m o t)
unfolding recall_lookup
lookup_tied key m o t =
    let n : ℕ = refusal_of t (lookup_gate key m) in
    (elim (eqb n success) as (λ b. eqb n success ≡ b → Tied key t (guarded (unread t) n (read_at (find_scene key t) o t))) [
      | true ↦ λ e.
          let z = eqb-true n success e in
          subst (Tied key t) (when_passed (unread t) n (read_at (find_scene key t) o t) z) (read_tied key t o (passed-sound t (lookup_gate key m) z))
      | false ↦ λ e.
          let h = eqb-false n success e in
          subst (Tied key t) (when_refused (unread t) n (read_at (find_scene key t) o t) h) (refused_tied key t n h)
    ]) refl

pub view_tied : (key : SceneKey) (m : Membership) (t : Table) → Tied key t (view_scene key m t)
unfolding view_scene recall_lookup
view_tied key m t = lookup_tied key m None t
