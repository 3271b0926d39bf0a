-- How the members of a container are walked: document 02, Q-1; the TLV appendix of the Matter Core Specification, on containers and their end.
-- As the iterator of `TLVSequence` in read.rs has it, which is laxer than the appendix: the end of the bytes ends the members too, so the
-- container that is walked need not be closed; one among its members must be, as it is passed over. What stands behind a member that is
-- found is not read. Tags may repeat and stand in any order: the first counts.
use Rattle.std.specs.Prelude.{ℕ, zero, suc, Bool, cond, ◌&&◌, List, eqb, leb, length}
use Rattle.tlv.specs.declared.elements.Element.{Element}
use Rattle.tlv.specs.declared.members.Step.{Step}
use Rattle.tlv.specs.declared.members.Step.TheVariants.{Member, End, Damaged}
use Rattle.tlv.specs.Types.{end_type, context_tagged}
use Rattle.tlv.specs.Elements.{element_at}
use Rattle.tlv.specs.Passing.{reading, passed_at}

-- the member at a position and what stands behind all of it, or the end, or nothing that can be read
unfoldable pub member_at : List ℕ → ℕ → Step
member_at bytes at =
    cond (leb (length bytes) at) End
    (reading (element_at bytes at) Damaged λ h. cond (eqb h.kind end_type) End (reading (passed_at bytes at) Damaged λ next. Member h next))

-- goes on with a member, or at the end, or without either
abbrev pub stepping : {A : Type 0} → Step → A → A → (Element → ℕ → A) → A
stepping (Member h next) end none go = go h next
stepping End end none go = end
stepping Damaged end none go = none

-- a member has a context tag of this number
unfoldable pub tagged : ℕ → Element → Bool
tagged tag h = eqb h.form context_tagged && eqb h.tag tag

-- where a member stands; or that it is missing, or that the container cannot be read so far
pub data Search : Type 0 where
  Found : (at : ℕ) → Search
  Missing Spoiled : Search

-- the position of the first member with a context tag of this number
unfoldable pub found : ℕ → List ℕ → ℕ → ℕ → Search
found tag bytes zero at = Missing
found tag bytes (suc n) at =
    stepping (member_at bytes at) Missing Spoiled λ h next. cond (tagged tag h) (Found at) (found tag bytes n next)

abbrev pub found_from : ℕ → List ℕ → ℕ → Search
found_from tag bytes at = found tag bytes (suc (length bytes)) at
