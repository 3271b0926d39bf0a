-- `tlv_skip::skip` meets its contract. Assumes nothing.
use mathlib.Core.Path.{sym, ap, ◌∙◌}
use native.Mathlib.Omega.{arith}
use Rattle.tlv.proofs.Heads.{element_on}
use Rattle.tlv_skip.specs.Skipping.{past, behind}
use Rattle.tlv_skip.proofs.Taking.{take_broken, take_ends, take_fails, take_goes}
use Rattle.tlv_skip.proofs.Skips.{skipped_leads, skipped_forward}
use Rattle.tlv_skip.proofs.+skip.Goals as goal

pub returns-in_err-member : goal.returns-in_err-member
returns-in_err-member t c =
    c.from_residual-in_err-member.ensures
    ∙ sym (ap behind (take_broken _ _ tt _ (sym c.element_at-in-loop-member.ensures ∙ c.in_err-member.was)))
    ∙ c.loop-member.invariant

pub returns-then-member-eq-END_CNT : goal.returns-then-member-eq-END_CNT
returns-then-member-eq-END_CNT t c =
    sym (ap behind (take_ends _ _ tt _ _ (sym c.element_at-in-loop-member.ensures ∙ c.in_ok-member.was) c.if-member-eq-END_CNT.true))
    ∙ c.loop-member.invariant

pub returns-in_err-i : goal.returns-in_err-i
returns-in_err-i t c =
    let read = sym c.element_at-in-loop-member.ensures ∙ c.in_ok-member.was in
    let stuck = ap past (sym c.skip.ensures ∙ c.in_err-i.was) in
    c.from_residual-in_err-i.ensures ∙ sym (ap behind (take_fails _ _ tt _ _ read c.if-member-eq-END_CNT.false stuck)) ∙ c.loop-member.invariant

pub loop-member-smaller : goal.loop-member-smaller
loop-member-smaller t c =
    let on = element_on _ _ _ (sym c.element_at-in-loop-member.ensures ∙ c.in_ok-member.was) in
    omega (arith, on, skipped_leads _ _ _ _ (sym c.skip.ensures ∙ c.in_ok-i.was))

pub loop-member-preserved : goal.loop-member-preserved
loop-member-preserved t c =
    let read = sym c.element_at-in-loop-member.ensures ∙ c.in_ok-member.was in
    let led = ap past (sym c.skip.ensures ∙ c.in_ok-i.was) in
    sym (ap behind (take_goes _ _ (skipped_forward _ _) tt _ _ read c.if-member-eq-END_CNT.false tt _ led)) ∙ c.loop-member.invariant
