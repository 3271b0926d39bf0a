-- The laws of reading the members of an array one after the other. Assumes nothing.
use Prim.Native.Nat.{ℕ, zero, suc, ◌+◌, ◌≤◌, ◌<◌}
use mathlib.Core.Path.{◌≡◌, refl, sym, ap, ◌∙◌}
use mathlib.Core.List.{List, []}
use native.Mathlib.Omega.{arith}
use lib.ListN.{length}
use Rattle.std.proofs.Common.{Option, Some, None}
use Rattle.tlv.specs.declared.elements.Element.{Element}
use Rattle.tlv.specs.declared.members.Step.TheVariants.{Member, End, Damaged}
use Rattle.tlv.specs.Members.{member_at, stepping}
use Rattle.tlv.proofs.Walks.{member-outside, member_on}
use Rattle.image_reader.specs.Image.{prepended, members_read, members_from}

module _ {A : Type 0} (read : ℕ → Option A) (b : List ℕ) where
  read-outside : (k at : ℕ) → length b ≤ at → members_read read b k at ≡ Some []
  unfolding members_read
  read-outside zero at l = refl
  read-outside (suc k) at l = rw (member-outside b at l)

  -- it does not matter how many members are allowed, once they are enough
  read_enough : (k j at : ℕ) → length b < k + at → length b < j + at → members_read read b k at ≡ members_read read b j at
  unfolding members_read
  read_enough zero j at p q = sym (read-outside j at (omega arith))
  read_enough (suc k) zero at p q = read-outside (suc k) at (omega arith)
  read_enough (suc k) (suc j) at p q =
      elim (member_at b at) as (λ r. member_at b at ≡ r
      → stepping r (Some []) None (λ h next. prepended (read at) (members_read read b k next))
      ≡ stepping r (Some []) None (λ h next. prepended (read at) (members_read read b j next))) [
        | Member h n ↦ λ e.
            let o = member_on b at h n e in
            ap (prepended (read at)) (read_enough k j n (omega arith) (omega arith))
        | End ↦ λ e. refl
        | Damaged ↦ λ e. refl
      ] refl

  module _ (at : ℕ) where
    pub members_end : member_at b at ≡ End → members_from read b at ≡ Some []
    unfolding members_read
    members_end e = rw e

    pub members_damaged : member_at b at ≡ Damaged → members_from read b at ≡ None
    unfolding members_read
    members_damaged e = rw e

    module _ (h : Element) (n : ℕ) (e : member_at b at ≡ Member h n) where
      pub members_on : members_from read b at ≡ prepended (read at) (members_from read b n)
      unfolding members_read
      members_on =
          let o = member_on b at h n e in
          rw e (ap (prepended (read at)) (read_enough (length b) (suc (length b)) n (omega arith) (omega arith)))

      pub members_none : read at ≡ None → members_from read b at ≡ None
      members_none q = members_on ∙ ap (λ (r : Option A). prepended r (members_from read b n)) q

      pub members_more : (x : A) → read at ≡ Some x → members_from read b at ≡ prepended (Some x) (members_from read b n)
      members_more x q = members_on ∙ ap (λ (r : Option A). prepended r (members_from read b n)) q
