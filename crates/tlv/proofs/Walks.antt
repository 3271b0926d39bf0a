-- The laws of walking a container. Assumes nothing.
use Prim.Native.Nat.{ℕ, zero, suc, ◌+◌, ◌≤◌, ◌<◌}
use mathlib.Core.Path.{◌≡◌, refl, sym, ap}
use mathlib.Core.Bool.{true, false, cond}
use mathlib.Core.List.{List}
use native.Mathlib.Omega.{arith}
use lib.Dec.{eqb, leb}
use lib.ListN.{length}
use borrow.Author.Tests.{eq-eqb, ne_eqb, le-leb, lt-leb, leb-false}
use Rattle.std.proofs.Common.{Some, None}
use Rattle.tlv.specs.declared.elements.Element.{Element}
use Rattle.tlv.specs.declared.members.Step.{Step}
use Rattle.tlv.specs.declared.members.Step.TheVariants.{Member, End, Damaged}
use Rattle.tlv.specs.Elements.{opens, element_at}
use Rattle.tlv.specs.Passing.{reading, passed_at}
use Rattle.tlv.specs.Members.{Search, Found, Missing, Spoiled, member_at, stepping, tagged, found, found_from}
use Rattle.tlv.proofs.Passes.{pass_ends, passed_leads, nested-plain}

-- ---- the member at a position

module _ (b : List ℕ) (at : ℕ) where
  -- what is made of the element there as a member
  abbrev member_of : Element → Step
  member_of h = cond (eqb h.kind 24) End (reading (passed_at b at) Damaged λ next. Member h next)

  pub member-outside : length b ≤ at → member_at b at ≡ End
  unfolding member_at
  member-outside l = rw (le-leb (length b) at l)

  module _ (l : at < length b) where
    module _ (h : Element) (e : element_at b at ≡ Some h) where
      pub member-ends : h.kind ≡ 24 → member_at b at ≡ End
      unfolding member_at
      member-ends z = rw (lt-leb (length b) at l, e, eq-eqb h.kind 24 z)

      module _ (z : h.kind ≡ 24 → ⊥) where
        pub member_goes : (n : ℕ) → passed_at b at ≡ Some n → member_at b at ≡ Member h n
        unfolding member_at
        member_goes n f = rw (lt-leb (length b) at l, e, ne_eqb h.kind 24 z, f)

        -- what is no container is passed by its own bytes
        pub member_plain : opens h.kind ≡ false → member_at b at ≡ Member h h.next
        member_plain o = member_goes h.next (pass_ends b 0 at h e 0 (sym (nested-plain h.kind 0 o z)) refl)

  -- a member stands within the bytes, and what is behind it further on
  pub member_on : (h : Element) (n : ℕ) → member_at b at ≡ Member h n → (at < n) × (at < length b)
  unfolding member_at
  member_on h n =
      elim (leb (length b) at) as
      (λ t. leb (length b) at ≡ t → cond t End (reading (element_at b at) Damaged member_of) ≡ Member h n → (at < n) × (at < length b)) [
        | true ↦ λ o e. cc
        | false ↦ λ o.
            elim (element_at b at) as (λ r. reading r Damaged member_of ≡ Member h n → (at < n) × (at < length b)) [
              | Some g ↦
                  elim (eqb g.kind 24) as (λ t. cond t End (reading (passed_at b at) Damaged (λ next. Member g next)) ≡ Member h n → (at < n) × (at < length b)) [
                    | true ↦ λ e. cc
                    | false ↦
                        elim (passed_at b at) as (λ q. passed_at b at ≡ q → reading q Damaged (λ next. Member g next) ≡ Member h n → (at < n) × (at < length b)) [
                          | Some m ↦ λ p e. let same : m ≡ n = cc in (omega (arith, passed_leads b (suc (length b)) 0 at m p), leb-false (length b) at o)
                          | None ↦ λ p e. cc
                        ] refl
                  ]
              | None ↦ λ e. cc
            ]
      ] refl

-- ---- the member with a tag

module _ (tag : ℕ) (b : List ℕ) where
  -- the member at a position, or the search behind it
  abbrev found_or : ℕ → ℕ → Element → ℕ → Search
  found_or k at h next = cond (tagged tag h) (Found at) (found tag b k next)

  found-outside : (k at : ℕ) → length b ≤ at → found tag b k at ≡ Missing
  unfolding found
  found-outside zero at l = refl
  found-outside (suc k) at l = rw (member-outside b at l)

  found_enough : (k j at : ℕ) → length b < k + at → length b < j + at → found tag b k at ≡ found tag b j at
  unfolding found
  found_enough zero j at p q = sym (found-outside j at (omega arith))
  found_enough (suc k) zero at p q = found-outside (suc k) at (omega arith)
  found_enough (suc k) (suc j) at p q =
      elim (member_at b at) as (λ r. member_at b at ≡ r → stepping r Missing Spoiled (found_or k at) ≡ stepping r Missing Spoiled (found_or j at)) [
        | Member h n ↦ λ e.
            let o = member_on b at h n e in
            ap (cond (tagged tag h) (Found at)) (found_enough k j n (omega arith) (omega arith))
        | End ↦ λ e. refl
        | Damaged ↦ λ e. refl
      ] refl

  module _ (at : ℕ) where
    pub find-ends : member_at b at ≡ End → found_from tag b at ≡ Missing
    unfolding found
    find-ends e = rw e

    pub find_breaks : member_at b at ≡ Damaged → found_from tag b at ≡ Spoiled
    unfolding found
    find_breaks e = rw e

    module _ (h : Element) (n : ℕ) (e : member_at b at ≡ Member h n) where
      pub find_here : tagged tag h ≡ true → found_from tag b at ≡ Found at
      unfolding found
      find_here t = rw (e, t)

      pub find_on : tagged tag h ≡ false → found_from tag b at ≡ found_from tag b n
      unfolding found
      find_on t =
          let o = member_on b at h n e in
          rw (e, t) (found_enough (length b) (suc (length b)) n (omega arith) (omega arith))

      pub find-tag : h.form ≡ 1 → h.tag ≡ tag → found_from tag b at ≡ Found at
      unfolding tagged
      find-tag f t = find_here (rw (eq-eqb h.form 1 f, eq-eqb h.tag tag t))

      pub find-other : (h.tag ≡ tag → ⊥) → h.form ≡ 1 → found_from tag b at ≡ found_from tag b n
      unfolding tagged
      find-other t f = find_on (rw (eq-eqb h.form 1 f, ne_eqb h.tag tag t))
