-- `Pass::visit` meets its contract. Assumes nothing.
use mathlib.Core.Path.{refl}
use native.Mathlib.Omega.{arith}
use borrow.Author.Tests.{eq-eqb, ne_eqb, lt-ltb, le-ltb}
use Rattle.notices.proofs.Pass.visit.Goals as goal

pub returns-then-self : goal.returns-then-self
returns-then-self c =
    simp (c.if-self.true, c.notice-done.ensures.0, c.notice-done.ensures.1) refl

pub returns-then-record-eq0 : goal.returns-then-record-eq0
returns-then-record-eq0 c =
    simp (c.if-self.false, eq-eqb c.args.«record».fab_idx 0 (omega arith)) refl

pub returns-then-next-n : goal.returns-then-next-n
returns-then-next-n c =
    simp (c.if-self.false, ne_eqb _ _ c.if-record-eq0.false, lt-ltb _ _ c.if-next-n.true) refl

pub returns-else-next-n : goal.returns-else-next-n
returns-else-next-n c =
    simp (c.if-self.false, ne_eqb _ _ c.if-record-eq0.false, le-ltb _ _ c.if-next-n.false) refl
