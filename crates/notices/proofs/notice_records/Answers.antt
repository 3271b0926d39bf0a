-- `notices::notice_records` meets its contract: which pass and which records a turn meets, and that they lead to the answer, is `Runs`.
use mathlib.Core.Path.{◌≡◌, refl, sym, ap, subst, ◌∙◌}
use lib.ListN.{set, length-set}
use Prim.Native.Nat.{◌<◌}
use Rattle.notices.specs.declared.Pass.{Pass}
use Rattle.notices.specs.declared.Visited.{Visited}
use Rattle.notices.specs.Notice.{notice_records, answer_of, record_at}
use Rattle.notices.specs.Pass.{visit}
use Rattle.state.specs.declared.Outcome.{Outcome}
use Rattle.notices.proofs.Runs.{Runs, runs, runs_on, runs_end, fewer, left_of}
use Rattle.notices.proofs.notice_records.Goals as goal

pub loop-pass-init : goal.loop-pass-init
loop-pass-init c =
    let a = c.args in
    (subst (λ (p : Pass). Runs (notice_records a.endpoint a.state a.records.now) p a.records.now) (sym c.begin-pass.ensures) (runs a.endpoint a.state a.records.now), refl)

pub loop-pass-preserved : goal.loop-pass-preserved
loop-pass-preserved c =
    let p = c.loop-pass.pass in
    let l = c.loop-pass.records in
    let on = runs_on c.loop-pass.invariant.0 c.loop-pass-test.true in
    let e : c.visit-done.result ≡ visit p (record_at l p.at) = c.visit-done.ensures in (
      subst (λ (d : Visited). Runs (notice_records c.args.endpoint c.args.state c.args.records.now) d.pass (set l p.at d.«record»)) (sym e) on.1,
      length-set l p.at _ ∙ c.loop-pass.invariant.1,
    )

pub returns : goal.returns
returns c =
    ap (λ (o : Outcome). answer_of o c.loop-pass.records) c.outcome.ensures
    ∙ runs_end c.loop-pass.invariant.0 c.loop-pass-test.false

pub loop-pass-smaller : goal.loop-pass-smaller
loop-pass-smaller c =
    let p = c.loop-pass.pass in
    subst (λ (d : Visited). left_of d.pass < left_of p) (sym c.visit-done.ensures) (fewer p (record_at c.loop-pass.records p.at) c.loop-pass-test.true)

pub bounds-records-at : goal.bounds-records-at
bounds-records-at c = (runs_on c.loop-pass.invariant.0 c.loop-pass-test.true).0
