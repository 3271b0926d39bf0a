-- The laws of passing over an element. Assumes nothing.
use Prim.Native.Nat.{ℕ, zero, suc, ◌+◌, ◌-◌, ◌≤◌, ◌<◌}
use mathlib.Core.Path.{◌≡◌, refl, sym, ap, ◌∙◌}
use mathlib.Core.Bool.{true, false, cond}
use mathlib.Core.List.{List}
use native.Mathlib.Omega.{arith}
use lib.Dec.{eqb}
use lib.ListN.{length}
use borrow.Author.Tests.{eq-eqb, ne_eqb, lt-ltb, le-ltb}
use Rattle.std.proofs.Common.{Option, Some, None}
use Rattle.std.proofs.lemmas.Option.{none-some, same_Some}
use Rattle.tlv.specs.declared.elements.Element.{Element}
use Rattle.tlv.specs.Elements.{opens, element_at}
use Rattle.tlv.specs.Passing.{reading, nested, passed, passed_from}
use Rattle.tlv.proofs.Heads.{element_outside, element_on}

-- ---- by the containers that are open

module _ (b : List ℕ) where
  -- the position behind an element and up to k that follow, which stands where so many containers are open
  abbrev behind : ℕ → ℕ → Element → Option ℕ
  behind k level h = cond (eqb (nested h.kind level) 0) (Some h.next) (passed k b (nested h.kind level) h.next)

  passed-outside : (k level at : ℕ) → length b ≤ at → passed k b level at ≡ None
  unfolding passed
  passed-outside zero level at l = refl
  passed-outside (suc k) level at l = rw (element_outside b at l)

  -- it does not matter how many elements are allowed, once they are enough
  passed_enough : (k j level at : ℕ) → length b < k + at → length b < j + at → passed k b level at ≡ passed j b level at
  unfolding passed
  passed_enough zero j level at p q = sym (passed-outside j level at (omega arith))
  passed_enough (suc k) zero level at p q = passed-outside (suc k) level at (omega arith)
  passed_enough (suc k) (suc j) level at p q =
      elim (element_at b at) as (λ r. element_at b at ≡ r → reading r None (behind k level) ≡ reading r None (behind j level)) [
        | Some h ↦ λ e.
            let o = element_on b at h e in
            ap (cond (eqb (nested h.kind level) 0) (Some h.next)) (passed_enough k j (nested h.kind level) h.next (omega arith) (omega arith))
        | None ↦ λ e. refl
      ] refl

  module _ (level at : ℕ) where
    pub pass_broken : element_at b at ≡ None → passed_from b level at ≡ None
    unfolding passed
    pass_broken e = rw e

    pub pass_step :
        (h : Element) →
        element_at b at ≡ Some h →
        passed_from b level at ≡ cond (eqb (nested h.kind level) 0) (Some h.next) (passed_from b (nested h.kind level) h.next)
    unfolding passed
    pass_step h e =
        let o = element_on b at h e in
        let l = nested h.kind level in
        rw e (ap (cond (eqb l 0) (Some h.next)) (passed_enough (length b) (suc (length b)) l h.next (omega arith) (omega arith)))

    module _ (h : Element) (e : element_at b at ≡ Some h) (l : ℕ) (n : l ≡ nested h.kind level) where
      pub pass_ends : l ≡ 0 → passed_from b level at ≡ Some h.next
      pass_ends z = pass_step h e ∙ rw (← n, eq-eqb l 0 z)

      pub pass_goes : (l ≡ 0 → ⊥) → passed_from b level at ≡ passed_from b l h.next
      pass_goes z = pass_step h e ∙ rw (← n, ne_eqb l 0 z)

-- what is passed leads on
abbrev pub Leads : (ℕ → Option ℕ) → Type 0
Leads pass = (at n : ℕ) → pass at ≡ Some n → at < n

pub passed_leads : (b : List ℕ) (k level : ℕ) → Leads (passed k b level)
unfolding passed
passed_leads b zero level at n = λ f. absurd (none-some n f)
passed_leads b (suc k) level at n =
    elim (element_at b at) as (λ r. element_at b at ≡ r → reading r None (behind b k level) ≡ Some n → at < n) [
      | Some h ↦ λ e.
          let o = element_on b at h e in
          let l = nested h.kind level in
          elim (eqb l 0) as (λ t. cond t (Some h.next) (passed k b l h.next) ≡ Some n → at < n) [
            | true ↦ λ f. omega (arith, same_Some h.next n f)
            | false ↦ λ f. omega (arith, passed_leads b k l h.next n f)
          ]
      | None ↦ λ e f. absurd (none-some n f)
    ] refl

pub nested_le : (kind level : ℕ) → nested kind level ≤ level + 1
unfolding nested
nested_le kind level =
    elim (opens kind) as (λ t. cond t (level + 1) (cond (eqb kind 24) (level - 1) level) ≤ level + 1) [
      | true ↦ omega arith
      | false ↦ elim (eqb kind 24) as (λ t. cond t (level - 1) level ≤ level + 1) [ true ↦ omega arith | false ↦ omega arith ]
    ]

-- ---- how many containers are open behind an element

-- an end opens nothing
end_shut : (kind : ℕ) → kind ≡ 24 → opens kind ≡ false
unfolding opens
end_shut kind z = rw (lt-ltb 20 kind (omega arith), le-ltb kind 24 (omega arith))

pub nested_end : (kind level : ℕ) → kind ≡ 24 → nested kind level ≡ level - 1
unfolding nested
nested_end kind level z = rw (end_shut kind z, eq-eqb kind 24 z)

pub nested_open : (kind level : ℕ) → opens kind ≡ true → nested kind level ≡ suc level
unfolding nested
nested_open kind level o = rw o (omega arith)

pub nested-plain : (kind level : ℕ) → opens kind ≡ false → (kind ≡ 24 → ⊥) → nested kind level ≡ level
unfolding nested
nested-plain kind level o z = rw (o, ne_eqb kind 24 z)

module _ (b : List ℕ) where
  -- behind an element that leaves so many containers open
  abbrev pub onward : ℕ → ℕ → Option ℕ
  onward level n = cond (eqb level 0) (Some n) (passed_from b level n)

  pub onto : (level at l : ℕ) (h : Element) → element_at b at ≡ Some h → nested h.kind level ≡ l → passed_from b level at ≡ onward l h.next
  onto level at l h e q = pass_step b level at h e ∙ ap (λ (k : ℕ). onward k h.next) q

-- one element more is passed over
pub ruleset passes = (element_on, nested_le, pass_broken, pass_ends, pass_goes)
