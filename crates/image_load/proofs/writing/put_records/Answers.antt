-- `image_load::writing::put_records` meets its contract. Assumes nothing.
use mathlib.Core.Path.{sym, ◌∙◌}
use native.Mathlib.Omega.{arith}
use Rattle.tlv.proofs.Walks.{member_on}
use Rattle.image_load.proofs.Placing.{lay_over, lay_unread, lay_room, lay_next}
use Rattle.image_load.proofs.writing.put_records.Goals as goal

pub returns-in_default-record_at : goal.returns-in_default-record_at
returns-in_default-record_at c =
    lay_unread c.loop-next.invariant _ _ (sym c.member_at.ensures ∙ c.in-Member.is)
    (sym c.record_at.ensures ∙ c.in_default-record_at.is)

pub bounds-records-n : goal.bounds-records-n
bounds-records-n c =
    lay_room c.loop-next.invariant _ _ (sym c.member_at.ensures ∙ c.in-Member.is) _
    (sym c.record_at.ensures ∙ c.in-Some.is)

pub loop-next-smaller : goal.loop-next-smaller
loop-next-smaller c =
    omega (arith, member_on _ _ _ _ (sym c.member_at.ensures ∙ c.in-Member.is))

pub loop-next-preserved : goal.loop-next-preserved
loop-next-preserved c =
    lay_next c.loop-next.invariant _ _ (sym c.member_at.ensures ∙ c.in-Member.is) _
    (sym c.record_at.ensures ∙ c.in-Some.is)

pub returns : goal.returns
returns c = lay_over c.loop-next.invariant _ c.member_at.ensures c.in_default.not-Member
