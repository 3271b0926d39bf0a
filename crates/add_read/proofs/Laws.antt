-- An add through the reader is the add with the listed pairs, or it is refused by 11. Assumes nothing.
use Prim.Native.Nat.{ℕ}
use mathlib.Core.Path.{◌≡◌, refl, sym, ap, ◌∙◌}
use mathlib.Core.Bool.{true, false}
use mathlib.Core.List.{List, [], ◌∷◌}
use native.Mathlib.Omega.{arith}
use lib.Dec.{eqb}
use lib.ListN.{length}
use borrow.Author.Tests.{eq-eqb, ne_eqb, eqb-true, eqb-false}
use Rattle.std.proofs.Common.{Option, Some, None}
use Rattle.std.proofs.lemmas.Option.{none-some}
use Rattle.words.specs.Constants.{success, bad_field_sets, max_fields}
use Rattle.words.specs.declared.SceneKey.{SceneKey}
use Rattle.words.specs.declared.Refusal.{Refusal}
use Rattle.words.specs.Refusals.{number_of}
use Rattle.words.proofs.Refusals.{refusal-number}
use Rattle.requests.specs.declared.Membership.{Membership}
use Rattle.requests.specs.Requests.{or_next, first_refusal, pairs_gate, fields_gate, add_gate}
use Rattle.requests.proofs.Laws.{next_pass, next_refuse, next_last, next_assoc, first_append}
use Rattle.state.specs.declared.Outcome.{Outcome}
use Rattle.state.specs.Table.{Table}
use Rattle.state.specs.Sound.{sound}
use Rattle.state.specs.Change.{saved, upsert}
use Rattle.state.specs.Answer.{Result, refused, refusal_of, guarded}
use Rattle.state.proofs.Guard.{result_in, refuses, refuses-outcome}
use Rattle.commands.specs.Commands.{add_scene}
use Rattle.field_sets.specs.Reader.{ExtensionFieldSet, sets_in, pairs_of, total_of, holds_pairs}
use Rattle.add_read.specs.Adding.{field_sets_gate, early_gates, read_gate, add_read_gate, add_scene_read, AsListed, ElseRefused}

-- ---- what was counted

module _ (n : ℕ) where
  unread_holds : (r : Option (List ExtensionFieldSet)) → total_of r ≡ None → holds_pairs n r ≡ false
  unread_holds None e = refl
  unread_holds (Some ss) e = absurd (none-some _ (sym e))

  counted_holds : (r : Option (List ExtensionFieldSet)) (m : ℕ) → total_of r ≡ Some m → holds_pairs n r ≡ eqb m n
  counted_holds None m e = absurd (none-some m e)
  counted_holds (Some ss) m e = let p : length (pairs_of ss) ≡ m = cc in ap (λ (k : ℕ). eqb k n) p

module _ (key : SceneKey) (time : ℕ) (member : Membership) where
  abbrev early : ℕ
  early = first_refusal (early_gates key time member)

  -- an add with no pairs and no fields is refused by the tests in front alone
  pub early_gate : add_gate key time member [] max_fields 0 ≡ early
  unfolding add_gate pairs_gate first_refusal or_next
  early_gate =
      first_append (early_gates key time member) (pairs_gate [] ∷ fields_gate max_fields 0 ∷ []) ∙ next_last early

  module _ (pairs ext : List ℕ) where
    -- the listed add's own tests
    abbrev listed : List ℕ
    listed = pairs_gate pairs ∷ fields_gate max_fields (length ext) ∷ []

    sets-passed : holds_pairs (length pairs) (sets_in ext) ≡ true → field_sets_gate pairs ext ≡ success
    unfolding field_sets_gate
    sets-passed e = rw e

    sets-refused : holds_pairs (length pairs) (sets_in ext) ≡ false → field_sets_gate pairs ext ≡ bad_field_sets
    unfolding field_sets_gate
    sets-refused e = rw e

    -- in front of 11, 11, and behind it
    read-parts : read_gate key time member pairs ext ≡ or_next early (field_sets_gate pairs ext)
    unfolding read_gate first_refusal
    read-parts = first_append (early_gates key time member) (field_sets_gate pairs ext ∷ []) ∙ ap (or_next early) (next_last (field_sets_gate pairs ext))

    parts : add_read_gate key time member pairs max_fields ext ≡ or_next early (or_next (field_sets_gate pairs ext) (first_refusal listed))
    unfolding add_read_gate first_refusal
    parts = first_append (early_gates key time member) (field_sets_gate pairs ext ∷ listed)

    listed-parts : add_gate key time member pairs max_fields (length ext) ≡ or_next early (first_refusal listed)
    unfolding add_gate
    listed-parts = first_append (early_gates key time member) listed

    -- ---- the tests up to 11

    pub read_early : (early ≡ success → ⊥) → early ≡ read_gate key time member pairs ext
    read_early n = sym (read-parts ∙ next_refuse early (field_sets_gate pairs ext) n)

    -- as the code makes them: an add's refusal with no pairs and no fields
    pub refused_early : (r : Refusal) → number_of r ≡ add_gate key time member [] max_fields 0 → read_gate key time member pairs ext ≡ number_of r
    refused_early r e = let f = e ∙ early_gate in sym (f ∙ read_early (λ p. refusal-number r (f ∙ p)))

    read-refused : early ≡ success → holds_pairs (length pairs) (sets_in ext) ≡ false → bad_field_sets ≡ read_gate key time member pairs ext
    read-refused p e = sym (read-parts ∙ next_pass early (field_sets_gate pairs ext) p ∙ sets-refused e)

    read-passed : early ≡ success → holds_pairs (length pairs) (sets_in ext) ≡ true → success ≡ read_gate key time member pairs ext
    read-passed p e = sym (read-parts ∙ next_pass early (field_sets_gate pairs ext) p ∙ sets-passed e)

    module _ (p : early ≡ success) where
      pub read-unread : total_of (sets_in ext) ≡ None → bad_field_sets ≡ read_gate key time member pairs ext
      read-unread e = read-refused p (unread_holds (length pairs) (sets_in ext) e)

      module _ (n : ℕ) (e : total_of (sets_in ext) ≡ Some n) where
        pub read_same : n ≡ length pairs → success ≡ read_gate key time member pairs ext
        read_same q = read-passed p (counted_holds (length pairs) (sets_in ext) n e ∙ eq-eqb n (length pairs) q)

        pub read-other : (n ≡ length pairs → ⊥) → bad_field_sets ≡ read_gate key time member pairs ext
        read-other q = read-refused p (counted_holds (length pairs) (sets_in ext) n e ∙ ne_eqb n (length pairs) q)

    -- ---- all tests

    gate_listed : holds_pairs (length pairs) (sets_in ext) ≡ true → add_read_gate key time member pairs max_fields ext ≡ add_gate key time member pairs max_fields (length ext)
    gate_listed e =
        parts ∙ ap (or_next early) (next_pass (field_sets_gate pairs ext) (first_refusal listed) (sets-passed e)) ∙ sym listed-parts

    -- a refusal up to 11 is the add's
    gate_read :
        (read_gate key time member pairs ext ≡ success → ⊥) → read_gate key time member pairs ext ≡ add_read_gate key time member pairs max_fields ext
    gate_read n =
        read-parts
        ∙ sym (next_refuse (or_next early (field_sets_gate pairs ext)) (first_refusal listed) (λ p. n (read-parts ∙ p)))
        ∙ next_assoc early (field_sets_gate pairs ext) (first_refusal listed)
        ∙ sym parts

    -- what passes up to 11 holds the pairs
    read_holds : read_gate key time member pairs ext ≡ success → holds_pairs (length pairs) (sets_in ext) ≡ true
    read_holds p =
        elim (holds_pairs (length pairs) (sets_in ext)) as (λ t. holds_pairs (length pairs) (sets_in ext) ≡ t → t ≡ true) [
          | true ↦ λ e. refl
          | false ↦ λ e.
              elim (eqb early success) as (λ t. eqb early success ≡ t → false ≡ true) [
                | true ↦ λ q.
                    let r = read-refused (eqb-true early success q) e in
                    let w : ⊥ = omega (arith, r, p) in
                    absurd w
                | false ↦ λ q.
                    let n = eqb-false early success q in
                    absurd (n (read_early n ∙ p))
              ] refl
        ] refl

    -- ---- the theorems

    module _ (t : Table) where
      listed-whole :
          holds_pairs (length pairs) (sets_in ext) ≡ true → add_scene_read key time member pairs ext t ≡ add_scene key time member pairs ext t
      unfolding add_scene_read add_scene
      listed-whole e = ap (λ (g : ℕ). guarded (refused t) (refusal_of t g) (saved (upsert key time ext t))) (gate_listed e)

      else_refused :
          holds_pairs (length pairs) (sets_in ext) ≡ false → sound t ≡ true → early ≡ success → add_scene_read key time member pairs ext t ≡ refused t bad_field_sets
      unfolding add_scene_read
      else_refused e s p =
          let r = read-refused p e in
          let g = r ∙ gate_read (λ q. let w : ⊥ = omega (arith, r, q) in absurd w) in
          sym (refuses t s bad_field_sets _ g (refused t) (saved (upsert key time ext t)) (λ q. let w : ⊥ = omega (arith, q) in absurd w))

      -- ---- as the code answers

      module _ (g : ℕ) (e : g ≡ read_gate key time member pairs ext) where
        pub read-refuses :
            sound t ≡ true →
            (g ≡ success → ⊥) →
            (o : Outcome) →
            o ≡ record { status = g; save = false; state = t.state } →
            result_in t.slots t.records o ≡ add_scene_read key time member pairs ext t
        unfolding add_scene_read
        read-refuses s n o q = refuses-outcome t s g _ (e ∙ gate_read (λ p. n (e ∙ p))) o _ q n

        pub read_adds :
            g ≡ success → (r : Result) → r ≡ add_scene key time member pairs ext t → r ≡ add_scene_read key time member pairs ext t
        read_adds p r q = q ∙ sym (listed-whole (read_holds (sym e ∙ p)))

pub as_listed : AsListed
as_listed key time member pairs ext t e = listed-whole key time member pairs ext t e

pub else_eleven : ElseRefused
else_eleven key time member pairs ext t e s p = else_refused key time member pairs ext t e s p
