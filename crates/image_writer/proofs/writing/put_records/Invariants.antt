-- `image_writer::writing::put_records` meets its contract. Assumes nothing.
use mathlib.Core.Path.{◌≡◌}
use lib.ListN.{length}
use Rattle.text_output.specs.Writing.{sheet, puts}
use Rattle.image_writer.proofs.Firsts.{records_up_to}
use Rattle.image_writer.proofs.writing.put_records.Given as goal

-- the first records, up to a word, stand behind one another
abbrev pub invariant-loop-word : goal.invariant-loop-word
invariant-loop-word l = (length l.out ≡ length l.initial.out) × (sheet l.out l.next ≡ puts (records_up_to l.records l.word-index) (sheet l.initial.out l.at))
