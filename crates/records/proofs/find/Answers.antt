-- `records::find` meets its contract: no record in front is owned. Assumes nothing.
use Rattle.std.proofs.Common.{◌≡◌, ◌<◌, length, take, ℕ, sym, ap, ◌∙◌, arith}
use lib.Seq.{length-take-le, get_or-take}
use Rattle.words.specs.Words.{owns}
use Rattle.words.proofs.Below.{first_none, first_more, first_at}
use Rattle.records.specs.Records.{first_owned}
use Rattle.records.proofs.find.Goals as goal

pub loop-at-init : goal.loop-at-init
unfolding first_owned
loop-at-init c = first_none _

pub returns-then-is_owned : goal.returns-then-is_owned
unfolding first_owned
returns-then-is_owned c =
    let a = c.args in
    let long = length-take-le a.n a.records.now c.requires in
    let under : c.loop-at.at < a.n = omega arith in
    sym (first_at _ _ _ under c.loop-at.invariant
    (ap (λ (word : ℕ). owns word a.fabric a.endpoint) (sym (get_or-take a.n a.records.now c.loop-at.at 0 under)) ∙ sym c.is_owned.ensures ∙ c.if-is_owned.true))

pub loop-at-preserved : goal.loop-at-preserved
unfolding first_owned
loop-at-preserved c =
    let a = c.args in
    let long = length-take-le a.n a.records.now c.requires in
    let under : c.loop-at.at < a.n = omega arith in
    first_more _ _ c.loop-at.invariant
    (ap (λ (word : ℕ). owns word a.fabric a.endpoint) (sym (get_or-take a.n a.records.now c.loop-at.at 0 under)) ∙ sym c.is_owned.ensures ∙ c.if-is_owned.false)

pub returns : goal.returns
returns c =
    let a = c.args in
    let long = length-take-le a.n a.records.now c.requires in
    let e : c.loop-at.at ≡ a.n = omega arith in
    rw (← e) (sym c.loop-at.invariant)
