-- How the members of a container are taken, one by one, up to its end: document 02, Q-2; the TLV appendix of the Matter Core Specification, on
-- containers and their end. Here the end must stand: the end of the bytes closes nothing, as it does in `Members` of tlv.
-- Every member has a byte at least, so one more than there are bytes is enough of them.
use Rattle.std.specs.Prelude.{ℕ, zero, suc, cond, List, eqb, length}
use Rattle.tlv.specs.declared.elements.Element.{Element}
use Rattle.tlv.specs.Types.{end_type}
use Rattle.tlv.specs.Elements.{element_at}
use Rattle.tlv.specs.Passing.{reading}

-- what is known behind a member and the position behind it, or that the bytes are refused
pub data Taken (S : Type 0) : Type 0 where
  Known : S → ℕ → Taken S
  Refused : Taken S

-- goes on with what is known at the next position, or without
abbrev pub onward : {S A : Type 0} → Taken S → A → (S → ℕ → A) → A
onward (Known s next) none go = go s next
onward Refused none go = none

-- what is known at the end of a container, and the position behind that end; `take` is given what is known so far, a member's position and
-- its element
unfoldable pub taken : {S : Type 0} → (S → ℕ → Element → Taken S) → List ℕ → ℕ → S → ℕ → Taken S
taken take bytes zero so at = Refused
taken take bytes (suc n) so at =
    reading (element_at bytes at) Refused λ h.
    cond (eqb h.kind end_type) (Known so h.next) (onward (take so at h) Refused λ s next. taken take bytes n s next)

abbrev pub taken_from : {S : Type 0} → (S → ℕ → Element → Taken S) → List ℕ → S → ℕ → Taken S
taken_from take bytes so at = taken take bytes (suc (length bytes)) so at
