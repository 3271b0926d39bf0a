-- `text_input::input::number` meets its contract. Assumes nothing.
use mathlib.Core.Path.{refl, sym, ◌∙◌}
use native.Mathlib.Omega.{arith}
use borrow.Author.Tests.{eq-eqb, ne_eqb}
use lib.ListN.{get_or}
use Rattle.text_input.specs.Reading.{number_of}
use Rattle.text_input.proofs.Reading.{number_end, number_bad, number_large, number-next, digit_told, digit_no}
use Rattle.text_input.proofs.input.number.Goals as goal

pub returns-then-word-eq0 : goal.returns-then-word-eq0
unfolding number_of
returns-then-word-eq0 c =
    simp (eq-eqb _ _ c.if-word-eq0.true)

pub loop-b-init : goal.loop-b-init
unfolding number_of
loop-b-init c =
    simp (ne_eqb _ _ c.if-word-eq0.false)

pub returns-in_default : goal.returns-in_default
returns-in_default c =
    let n = digit_no (get_or c.args.word.now c.loop-b.b-index 0) (omega (arith, c.in_default.ensures.value)) in
    sym (c.loop-b.invariant ∙ number_bad _ _ c.args.word.now c.loop-b.b-index (omega arith) _ refl (omega arith))

pub returns-then-most-value : goal.returns-then-most-value
returns-then-most-value c =
    let d = digit_told _ _ c.in-Some.ensures.value in
    sym (c.loop-b.invariant ∙ number_large _ c.loop-b.value c.args.word.now c.loop-b.b-index (omega arith) c.from-digit.result (c.from-digit.ensures ∙ d.0) (omega arith) (omega arith))

pub returns-then-most-value-2 : goal.returns-then-most-value-2
returns-then-most-value-2 c =
    let d = digit_told _ _ c.in-Some.ensures.value in
    sym (c.loop-b.invariant ∙ number_large _ c.loop-b.value c.args.word.now c.loop-b.b-index (omega arith) c.from-digit.result (c.from-digit.ensures ∙ d.0) (omega arith) (omega arith))

pub loop-b-preserved : goal.loop-b-preserved
loop-b-preserved c =
    let d = digit_told _ _ c.in-Some.ensures.value in
    c.loop-b.invariant ∙ number-next _ c.loop-b.value c.args.word.now c.loop-b.b-index (omega arith) c.from-digit.result (c.from-digit.ensures ∙ d.0) (omega arith) (omega arith)

pub returns : goal.returns
returns c =
    sym (c.loop-b.invariant ∙ number_end _ _ c.args.word.now c.loop-b.b-index (omega arith))
