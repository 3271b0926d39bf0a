-- `field_sets::sets::set_from` meets its contract. Assumes nothing.
use mathlib.Core.Path.{sym, ◌∙◌}
use native.Mathlib.Omega.{arith}
use Rattle.tlv.proofs.Heads.{element_on}
use Rattle.field_sets.proofs.SetLaws.{array_once_on}
use Rattle.field_sets.proofs.sets.set_from.Goals as goal

pub loop-h-smaller-then-is_tagged-2 : goal.loop-h-smaller-then-is_tagged-2
loop-h-smaller-then-is_tagged-2 c =
    let read = sym c.element_at.ensures ∙ c.in_ok-h.was in
    omega (arith, element_on _ _ _ read, array_once_on _ _ _ read c.loop-h.array _ _ _ (sym c.array_once.ensures ∙ c.in_ok-pairs.was))
