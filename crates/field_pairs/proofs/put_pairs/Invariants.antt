-- `field_pairs::put_pairs` meets its contract. Assumes nothing.
use mathlib.Core.Path.{◌≡◌}
use lib.ListN.{length}
use Rattle.text_output.specs.Writing.{sheet, puts}
use Rattle.field_sets.specs.Reader.{sets_in}
use Rattle.field_pairs.specs.Words.{words_in}
use Rattle.field_pairs.proofs.Rest.{rest_of, Readable, steps_left}
use Rattle.field_pairs.proofs.put_pairs.Given as goal

abbrev pub invariant-loop-c : goal.invariant-loop-c
invariant-loop-c l = Readable l.bytes l.cursor
    × (length l.out ≡ length l.initial.out)
    × (puts (rest_of l.bytes l.cluster l.cursor) (sheet l.out l.n) ≡ puts (words_in (sets_in l.bytes)) (sheet l.initial.out 0))

abbrev pub decreases-loop-c : goal.decreases-loop-c
decreases-loop-c l = steps_left l.bytes l.cursor
