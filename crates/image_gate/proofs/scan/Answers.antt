-- `image_gate::scan` meets its contract. Assumes nothing.
use mathlib.Core.Path.{sym, ◌∙◌}
use native.Mathlib.Omega.{arith}
use Rattle.tlv.proofs.Walks.{member_on}
use Rattle.image_gate.proofs.Scanning.{turn_start, turn_end, turn_damaged, turn_unread, turn_full, turn_next}
use Rattle.image_gate.proofs.scan.Goals as goal

pub loop-next-init : goal.loop-next-init
loop-next-init g c = turn_start _ _ _ _ _ _ c.requires.most_in_bounds

pub returns-in_default : goal.returns-in_default
returns-in_default g c =
    turn_unread c.requires.looks_back c.loop-next.invariant _ _ (sym c.member_at.ensures ∙ c.in-Member.is) (sym c.word_at.ensures ∙ c.in_default.is)

pub returns-then-most-n : goal.returns-then-most-n
returns-then-most-n g c =
    turn_full c.requires.looks_back c.loop-next.invariant _ _ (sym c.member_at.ensures ∙ c.in-Member.is) _ (sym c.word_at.ensures ∙ c.in-Some.is)
    c.if-most-n.true

pub loop-next-smaller : goal.loop-next-smaller
loop-next-smaller g c = omega (arith, member_on _ _ _ _ (sym c.member_at.ensures ∙ c.in-Member.is))

pub loop-next-preserved : goal.loop-next-preserved
loop-next-preserved g c =
    turn_next c.requires.looks_back c.loop-next.invariant _ _ (sym c.member_at.ensures ∙ c.in-Member.is) _ (sym c.word_at.ensures ∙ c.in-Some.is)
    c.if-most-n.false _ c.clashes-clash.ensures

pub returns-in-End : goal.returns-in-End
returns-in-End g c = turn_end c.requires.looks_back c.loop-next.invariant (sym c.member_at.ensures ∙ c.in-End.is)

pub returns-in-Damaged : goal.returns-in-Damaged
returns-in-Damaged g c = turn_damaged c.requires.looks_back c.loop-next.invariant (sym c.member_at.ensures ∙ c.in-Damaged.is)
