-- `image_writer::writing::put_entries` meets its contract. Assumes nothing.
use mathlib.Core.Path.{◌≡◌}
use lib.ListN.{length}
use Rattle.slots.specs.Slots.{slots_of}
use Rattle.text_output.specs.Writing.{sheet, puts}
use Rattle.image_writer.proofs.Firsts.{entries_up_to}
use Rattle.image_writer.proofs.writing.put_entries.Given as goal

-- the first i entries stand behind one another
abbrev pub invariant-loop-i : goal.invariant-loop-i
invariant-loop-i l = (length l.out ≡ length l.initial.out) × (sheet l.out l.next ≡ puts (entries_up_to (slots_of l.keys l.times l.fields) l.i) (sheet l.initial.out l.at))
