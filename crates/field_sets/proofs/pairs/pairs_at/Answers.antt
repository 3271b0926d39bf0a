-- `field_sets::pairs::pairs_at` meets its contract. Assumes nothing.
use mathlib.Core.Path.{sym, ◌∙◌}
use native.Mathlib.Omega.{arith}
use Rattle.field_sets.proofs.PairLaws.{pair_on, array_goes}
use Rattle.field_sets.proofs.pairs.pairs_at.Goals as goal

pub loop-h-smaller : goal.loop-h-smaller
loop-h-smaller c = omega (arith, pair_on _ _ _ _ (sym c.pair_at.ensures ∙ c.in_ok-pair.was))

pub loop-h-preserved : goal.loop-h-preserved
loop-h-preserved c =
    let read = sym c.element_at.ensures ∙ c.in_ok-h.was in
    let pair = sym c.pair_at.ensures ∙ c.in_ok-pair.was in (
      omega (arith, pair_on _ _ _ _ pair, c.loop-h.invariant.0),
      sym (array_goes _ _ _ _ _ read c.if-h-eq-END_CNT.false _ _ pair) ∙ c.loop-h.invariant.1,
    )
