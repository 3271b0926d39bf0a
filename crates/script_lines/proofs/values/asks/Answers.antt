-- `script_lines::values::asks` meets its contract. Assumes nothing.
use mathlib.Core.Path.{sym, ◌∙◌}
use borrow.Author.Tests.{eq-eqb, ne_eqb}
use Rattle.script_lines.specs.Values.{asking}
use Rattle.script_lines.proofs.values.asks.Goals as goal

pub returns-then-one_of : goal.returns-then-one_of
unfolding asking
returns-then-one_of c =
    rw (sym c.one_of.ensures ∙ c.if-one_of.true)

pub returns-then-one_of-2 : goal.returns-then-one_of-2
unfolding asking
returns-then-one_of-2 c =
    rw (sym c.one_of.ensures ∙ c.if-one_of.false, sym c.one_of-2.ensures ∙ c.if-one_of-2.true)

pub returns-then-one_of-3 : goal.returns-then-one_of-3
unfolding asking
returns-then-one_of-3 c =
    rw (
      sym c.one_of.ensures ∙ c.if-one_of.false,
      sym c.one_of-2.ensures ∙ c.if-one_of-2.false,
      sym c.one_of-3.ensures ∙ c.if-one_of-3.true,
    )

pub returns-then-letter-eq67 : goal.returns-then-letter-eq67
unfolding asking
returns-then-letter-eq67 c =
    rw (
      sym c.one_of.ensures ∙ c.if-one_of.false,
      sym c.one_of-2.ensures ∙ c.if-one_of-2.false,
      sym c.one_of-3.ensures ∙ c.if-one_of-3.false,
      eq-eqb _ _ c.if-letter-eq67.true,
    )

pub returns : goal.returns
unfolding asking
returns c =
    rw (
      sym c.one_of.ensures ∙ c.if-one_of.false,
      sym c.one_of-2.ensures ∙ c.if-one_of-2.false,
      sym c.one_of-3.ensures ∙ c.if-one_of-3.false,
      ne_eqb _ _ c.if-letter-eq67.false,
    )
