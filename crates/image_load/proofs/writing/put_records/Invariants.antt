-- `image_load::writing::put_records` meets its contract. Assumes nothing.
use Prim.Native.Nat.{◌-◌}
use lib.ListN.{length}
use Rattle.image_reader.specs.Entries.{record_at}
use Rattle.image_load.proofs.Placing.{Laying}
use Rattle.image_load.proofs.writing.put_records.Given as goal

abbrev pub invariant-loop-next : goal.invariant-loop-next
invariant-loop-next l = Laying (record_at l.bytes) l.bytes l.first l.initial.records l.records l.n l.i

abbrev pub decreases-loop-next : goal.decreases-loop-next
decreases-loop-next l = length l.bytes - l.i
