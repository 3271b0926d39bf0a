-- `tlv::elements::number` meets its contract. Assumes nothing.
use Prim.Native.Nat.{◌+◌, ◌-◌}
use mathlib.Core.Path.{◌≡◌}
use Rattle.tlv.specs.Elements.{little}
use Rattle.tlv.proofs.elements.number.Given as goal

abbrev pub invariant-loop-i : goal.invariant-loop-i
invariant-loop-i l = l.value ≡ little (l.size - l.i) l.bytes (l.at + l.i)
