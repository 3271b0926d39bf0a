-- The laws of skipping an element. Assumes nothing.
use Prim.Native.Nat.{ℕ, zero, suc, ◌-◌, ◌≤◌, ◌<◌}
use mathlib.Core.Path.{◌≡◌, refl, ap}
use mathlib.Core.Bool.{true, false, cond}
use mathlib.Core.List.{List}
use native.Mathlib.Omega.{arith}
use lib.ListN.{length}
use Rattle.std.proofs.Common.{Option, Some, None}
use Rattle.std.proofs.lemmas.Option.{none-some, same_Some}
use Rattle.tlv.specs.declared.elements.Element.{Element}
use Rattle.tlv.specs.Elements.{opens, element_at}
use Rattle.tlv.specs.Passing.{reading}
use Rattle.tlv.proofs.Heads.{element_on}
use Rattle.tlv_skip.specs.Containers.{Taken, Known, Refused, taken_from}
use Rattle.tlv_skip.specs.Skipping.{past, behind, skipped}
use Rattle.tlv_skip.proofs.Taking.{Forward, known_next, unknown, taken_leads}

-- how the members of a container are skipped with so much depth left
abbrev pub within : ℕ → List ℕ → Unit {0} → ℕ → Element → Taken (Unit {0})
within depth b u i m = past (skipped depth b i)

-- where both end
past_same : (r : Option ℕ) (u : Unit {0}) (n : ℕ) → past r ≡ Known u n → r ≡ Some n
past_same (Some m) u n e = ap Some (known_next tt u m n e)
past_same None u n e = unknown u n e

behind-same : (r : Taken (Unit {0})) (n : ℕ) → behind r ≡ Some n → r ≡ Known tt n
behind-same (Known u m) n e = ap (Known tt) (same_Some m n e)
behind-same Refused n e = absurd (none-some n e)

module _ (b : List ℕ) where
  -- what is skipped ends further on, and within the bytes
  abbrev Leads : ℕ → Type 0
  Leads d = (at n : ℕ) → skipped d b at ≡ Some n → (at < n) × (n ≤ length b)

  leads_forward : (d : ℕ) → Leads d → Forward (within d b) b
  leads_forward d leads so at h e u n f = (leads at n (past_same (skipped d b at) u n f)).0

  -- what is made of an element, where it is given how the members of a container are passed
  abbrev entered : (ℕ → Option ℕ) → Element → Option ℕ
  entered into h = cond (opens h.kind) (into h.next) (Some h.next)

  entered_leads :
      (into : ℕ → Option ℕ) →
      ((at n : ℕ) → into at ≡ Some n → (at < n) × (n ≤ length b)) →
      (at n : ℕ) → reading (element_at b at) None (entered into) ≡ Some n → (at < n) × (n ≤ length b)
  entered_leads into leads at n =
      elim (element_at b at) as (λ r. element_at b at ≡ r → reading r None (entered into) ≡ Some n → (at < n) × (n ≤ length b)) [
        | Some h ↦ λ e.
            let o = element_on b at h e in
            elim (opens h.kind) as (λ t. cond t (into h.next) (Some h.next) ≡ Some n → (at < n) × (n ≤ length b)) [
              | true ↦ λ f. let l = leads h.next n f in (omega arith, omega arith)
              | false ↦ λ f. let x = same_Some h.next n f in (omega arith, omega arith)
            ]
        | None ↦ λ e f. absurd (none-some n f)
      ] refl

  pub skipped_leads : (d : ℕ) → Leads d
  unfolding skipped
  skipped_leads zero = entered_leads (λ at. None) (λ at n e. absurd (none-some n e))
  skipped_leads (suc d) =
      entered_leads
      (λ at. behind (taken_from (within d b) b tt at))
      (λ at n e.
      taken_leads
      (within d b)
      b
      (leads_forward d (skipped_leads d))
      (suc (length b))
      tt
      at
      tt
      n
      (behind-same (taken_from (within d b) b tt at) n e))

  pub skipped_forward : (d : ℕ) → Forward (within d b) b
  skipped_forward d = leads_forward d (skipped_leads d)

  module _ (at : ℕ) where
    pub skip_broken : (d : ℕ) → element_at b at ≡ None → skipped d b at ≡ None
    unfolding skipped
    skip_broken zero e = rw e
    skip_broken (suc d) e = rw e

    module _ (h : Element) (e : element_at b at ≡ Some h) where
      pub skip_plain : (d : ℕ) → opens h.kind ≡ false → skipped d b at ≡ Some h.next
      unfolding skipped
      skip_plain zero o = rw (e, o)
      skip_plain (suc d) o = rw (e, o)

      pub skip_deep : (d : ℕ) → opens h.kind ≡ true → d ≡ 0 → skipped d b at ≡ None
      unfolding skipped
      skip_deep zero o z = rw (e, o)
      skip_deep (suc d) o z = let w : ⊥ = omega arith in absurd w

      pub skip_enters :
          (d : ℕ) → opens h.kind ≡ true → (d ≡ 0 → ⊥) → skipped d b at ≡ behind (taken_from (within (d - 1) b) b tt h.next)
      unfolding skipped
      skip_enters zero o z = absurd (z refl)
      skip_enters (suc d) o z =
          let p : d ≡ suc d - 1 = omega arith in
          rw (e, o) (ap (λ (k : ℕ). behind (taken_from (within k b) b tt h.next)) p)

-- how an element is skipped
pub ruleset skips = (skip_broken, skip_plain, skip_deep, skip_enters)
