-- `image_writer::sizes::entries_len` meets its contract. Assumes nothing.
use Rattle.slots.specs.Slots.{slots_of}
use Rattle.image_writer.proofs.Firsts.{entries_up_to}
use Rattle.image_writer.proofs.Lengths.{Counted}
use Rattle.image_writer.proofs.sizes.entries_len.Given as goal

abbrev pub invariant-loop-i : goal.invariant-loop-i
invariant-loop-i l = Counted l.len l.i (entries_up_to (slots_of l.keys l.times l.fields) l.i)
