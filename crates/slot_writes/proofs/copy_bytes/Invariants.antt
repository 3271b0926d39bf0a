-- `slot_writes::copy_bytes` meets its contract: the first i bytes are copied, and behind the loop the last one. Assumes nothing.
use Rattle.words.specs.Constants.{stride}
use Rattle.slots.specs.Slots.{part}
use Rattle.slots.proofs.Laws.{Copied}
use Rattle.slot_writes.proofs.copy_bytes.Given as goal

abbrev pub invariant-loop-i : goal.invariant-loop-i
invariant-loop-i l = Copied l.initial.fields l.to (part l.from stride l.initial.fields) l.fields l.i
