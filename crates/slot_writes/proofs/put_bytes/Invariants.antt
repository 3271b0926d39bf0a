-- `slot_writes::put_bytes` meets its contract: the first i bytes are copied behind the length byte. Assumes nothing.
use Prim.Native.Nat.{◌+◌}
use Rattle.slots.proofs.Laws.{Copied}
use Rattle.slot_writes.proofs.put_bytes.Given as goal

abbrev pub invariant-loop-i : goal.invariant-loop-i
invariant-loop-i l = Copied l.initial.fields (l.base + 1) l.ext l.fields l.i
