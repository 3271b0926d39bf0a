-- `image_writer::sizes::records_len` meets its contract. Assumes nothing.
use Rattle.image_writer.proofs.Firsts.{records_up_to}
use Rattle.image_writer.proofs.Lengths.{Counted}
use Rattle.image_writer.proofs.sizes.records_len.Given as goal

abbrev pub invariant-loop-word : goal.invariant-loop-word
invariant-loop-word l = Counted l.len l.word-index (records_up_to l.records l.word-index)
