-- `tlv::elements::number` meets its contract. Assumes nothing.
use Prim.Native.Nat.{◌+◌, ◌-◌, ◌^◌, ◌<◌}
use native.Mathlib.Omega.{arith}
use Rattle.tlv.proofs.Numbers.{little_under}
use Rattle.tlv.proofs.elements.number.Goals as goal
use Rattle.tlv.proofs.elements.number.Goals.{In-loop-i}

-- with a byte still to come the number is of seven at most
under : (c : In-loop-i) → c.loop-i.value < 256 ^ 7
under c = omega (arith, little_under c.args.bytes.now (λ i. (c.type_inv.bytes i).fits) 7 (c.args.size - c.loop-i.i) (c.args.at + c.loop-i.i) (omega arith))

pub overflow_mul-value : goal.overflow_mul-value
overflow_mul-value c = omega (arith, under (goal.at.overflow_mul-value c).In-loop-i)

pub overflow_add-value : goal.overflow_add-value
overflow_add-value c = omega (arith, c.from-in-loop-i.type_inv, under (goal.at.overflow_add-value c).In-loop-i)
