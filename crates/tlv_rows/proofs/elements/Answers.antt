-- `tlv_rows::elements` is safe and ends: what is behind an element stands further on. Assumes nothing.
use Rattle.std.proofs.Common.{arith, sym, ◌∙◌}
use Rattle.tlv.proofs.Heads.{element_on}
use Rattle.tlv_rows.proofs.elements.Goals as goal

pub loop-i-smaller : goal.loop-i-smaller
loop-i-smaller g c = omega (arith, element_on _ _ _ (sym c.element_at.ensures ∙ c.in-Some.is))
