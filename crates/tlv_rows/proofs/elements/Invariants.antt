-- `tlv_rows::elements` is safe and ends: what is behind an element stands further on. Assumes nothing.
use Rattle.std.proofs.Common.{length, ◌-◌}
use Rattle.tlv_rows.proofs.elements.Given as goal

abbrev pub decreases-loop-i : goal.decreases-loop-i
decreases-loop-i g l = length l.bytes - l.i
