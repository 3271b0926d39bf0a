-- The laws of taking the members of a container up to its end. Assumes nothing.
use Prim.Native.Nat.{ℕ, zero, suc, ◌+◌, ◌≤◌, ◌<◌}
use mathlib.Core.Path.{◌≡◌, refl, sym, ap, subst}
use mathlib.Core.Bool.{true, false, cond}
use mathlib.Core.List.{List}
use native.Mathlib.Omega.{arith}
use lib.Dec.{eqb}
use lib.ListN.{length}
use borrow.Author.Tests.{eq-eqb, ne_eqb}
use Rattle.std.proofs.Common.{Some, None}
use Rattle.tlv.specs.declared.elements.Element.{Element}
use Rattle.tlv.specs.Types.{end_type}
use Rattle.tlv.specs.Elements.{element_at}
use Rattle.tlv.specs.Passing.{reading}
use Rattle.tlv.proofs.Heads.{element_outside, element_on}
use Rattle.tlv_skip.specs.Containers.{Taken, Known, Refused, onward, taken, taken_from}

module _ {S : Type 0} where
  pub known_next : (r s : S) (m n : ℕ) → Known r m ≡ Known s n → m ≡ n
  known_next r s m n e = cc

  pub known_so : (r s : S) (m n : ℕ) → Known r m ≡ Known s n → r ≡ s
  known_so r s m n e = cc

  pub unknown : {A : Type 0} (s : S) (n : ℕ) → Refused ≡ Known s n → A
  unknown s n e = let z : ◌≡◌ {A = ℕ} 0 1 = cc in let w : ⊥ = omega arith in absurd w

module _ {S : Type 0} (take : S → ℕ → Element → Taken S) (b : List ℕ) where
  -- what is behind a member stands further on
  abbrev pub Forward : Type 0
  Forward = (so : S) (at : ℕ) (h : Element) → element_at b at ≡ Some h → (s : S) (n : ℕ) → take so at h ≡ Known s n → at < n

  -- what is made of an element, with up to k members behind it
  abbrev member : ℕ → S → ℕ → Element → Taken S
  member k so at h = cond (eqb h.kind end_type) (Known so h.next) (onward (take so at h) Refused (taken take b k))

  taken-outside : (k : ℕ) (so : S) (at : ℕ) → length b ≤ at → taken take b k so at ≡ Refused
  unfolding taken
  taken-outside zero so at l = refl
  taken-outside (suc k) so at l = rw (element_outside b at l)

  module _ (so : S) (at : ℕ) where
    pub take_broken : element_at b at ≡ None → taken_from take b so at ≡ Refused
    unfolding taken
    take_broken e = rw e

    module _ (h : Element) (e : element_at b at ≡ Some h) where
      pub take_ends : h.kind ≡ end_type → taken_from take b so at ≡ Known so h.next
      unfolding taken
      take_ends z = rw (e, eq-eqb h.kind end_type z)

      pub take_fails : (h.kind ≡ end_type → ⊥) → take so at h ≡ Refused → taken_from take b so at ≡ Refused
      unfolding taken
      take_fails z f = rw (e, ne_eqb h.kind end_type z, f)

  module _ (forward : Forward) where
    -- it does not matter how many members are allowed, once they are enough
    pub taken_enough : (k j : ℕ) (so : S) (at : ℕ) → length b < k + at → length b < j + at → taken take b k so at ≡ taken take b j so at
    unfolding taken
    taken_enough zero j so at p q = sym (taken-outside j so at (omega arith))
    taken_enough (suc k) zero so at p q = taken-outside (suc k) so at (omega arith)
    taken_enough (suc k) (suc j) so at p q =
        elim (element_at b at) as (λ r. element_at b at ≡ r → reading r Refused (member k so at) ≡ reading r Refused (member j so at)) [
          | Some h ↦ λ e.
              ap (cond (eqb h.kind end_type) (Known so h.next))
              (elim (take so at h) as (λ r. take so at h ≡ r → onward r Refused (taken take b k) ≡ onward r Refused (taken take b j)) [
                | Known s n ↦ λ f. let l = forward so at h e s n f in taken_enough k j s n (omega arith) (omega arith)
                | Refused ↦ λ f. refl
              ] refl)
          | None ↦ λ e. refl
        ] refl

    pub take_goes :
        (so : S) (at : ℕ) (h : Element) →
        element_at b at ≡ Some h →
        (h.kind ≡ end_type → ⊥) →
        (s : S) (n : ℕ) →
        take so at h ≡ Known s n →
        taken_from take b so at ≡ taken_from take b s n
    unfolding taken
    take_goes so at h e z s n f =
        let l = forward so at h e s n f in
        rw (e, ne_eqb h.kind end_type z, f) (taken_enough (length b) (suc (length b)) s n (omega arith) (omega arith))

    -- the end of a container stands behind where it is looked for, and within the bytes
    pub taken_leads : (k : ℕ) (so : S) (at : ℕ) (s : S) (n : ℕ) → taken take b k so at ≡ Known s n → (at < n) × (n ≤ length b)
    unfolding taken
    taken_leads zero so at s n = λ e. unknown s n e
    taken_leads (suc k) so at s n =
        elim (element_at b at) as (λ r. element_at b at ≡ r → reading r Refused (member k so at) ≡ Known s n → (at < n) × (n ≤ length b)) [
          | Some h ↦ λ e.
              let o = element_on b at h e in
              elim (eqb h.kind end_type) as
              (λ t. cond t (Known so h.next) (onward (take so at h) Refused (taken take b k)) ≡ Known s n → (at < n) × (n ≤ length b)) [
                | true ↦ λ f. let x = known_next so s h.next n f in (omega arith, omega arith)
                | false ↦
                    elim (take so at h) as (λ r. take so at h ≡ r → onward r Refused (taken take b k) ≡ Known s n → (at < n) × (n ≤ length b)) [
                      | Known p m ↦ λ g f.
                          let l = forward so at h e p m g in
                          let o = taken_leads k p m s n f in
                          (omega arith, omega arith)
                      | Refused ↦ λ g f. unknown s n f
                    ] refl
              ]
          | None ↦ λ e f. unknown s n f
        ] refl

    -- what each member keeps holds where the end stands
    module _ (P : S → ℕ → Type 0) where
      abbrev pub Keeps : Type 0
      Keeps = (so : S) (at : ℕ) (h : Element) → element_at b at ≡ Some h → (s : S) (n : ℕ) → take so at h ≡ Known s n → P so at → P s n

      pub record Ended (s : S) (n : ℕ) : Type 0 where
        pub end : ℕ
        pub on : end < n
        pub holds : P s end

      pub taken_keeps : Keeps → (k : ℕ) (so : S) (at : ℕ) (s : S) (n : ℕ) → P so at → taken take b k so at ≡ Known s n → Ended s n
      unfolding taken
      taken_keeps keeps zero so at s n p = λ e. unknown s n e
      taken_keeps keeps (suc k) so at s n p =
          elim (element_at b at) as (λ r. element_at b at ≡ r → reading r Refused (member k so at) ≡ Known s n → Ended s n) [
            | Some h ↦ λ e.
                elim (eqb h.kind end_type) as
                (λ t. cond t (Known so h.next) (onward (take so at h) Refused (taken take b k)) ≡ Known s n → Ended s n) [
                  | true ↦ λ f. record {
                    end = at;
                    on = omega (arith, element_on b at h e, known_next so s h.next n f);
                    holds = subst (λ (x : S). P x at) (known_so so s h.next n f) p;
                  }
                  | false ↦
                      elim (take so at h) as (λ r. take so at h ≡ r → onward r Refused (taken take b k) ≡ Known s n → Ended s n) [
                        | Known q m ↦ λ g f. taken_keeps keeps k q m s n (keeps so at h e q m g p) f
                        | Refused ↦ λ g f. unknown s n f
                      ] refl
                ]
            | None ↦ λ e f. unknown s n f
          ] refl
