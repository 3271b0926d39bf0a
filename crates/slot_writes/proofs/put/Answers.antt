-- `slot_writes::put` meets its contract. Assumes nothing.
use mathlib.Core.Path.{ap}
use Rattle.slots.specs.Slots.{put_slot, slots_of}
use Rattle.slot_writes.proofs.put.Goals as goal

pub returns : goal.returns
unfolding put_slot
returns c =
    ap (slots_of _ _) c.put_bytes.ensures
