-- `image_load::writing::put_entries` meets its contract. Assumes nothing.
use Prim.Native.Nat.{◌-◌}
use lib.ListN.{length}
use Rattle.slots.specs.Slots.{slots_of}
use Rattle.image_load.proofs.Placing.{Filling}
use Rattle.image_load.proofs.writing.put_entries.Given as goal

abbrev pub invariant-loop-next : goal.invariant-loop-next
invariant-loop-next l = Filling l.bytes l.first (slots_of l.initial.keys l.initial.times l.initial.fields) (slots_of l.keys l.times l.fields) l.n l.i

abbrev pub decreases-loop-next : goal.decreases-loop-next
decreases-loop-next l = length l.bytes - l.i
