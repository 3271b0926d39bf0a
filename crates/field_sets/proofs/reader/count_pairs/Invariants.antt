-- `field_sets::reader::count_pairs` meets its contract. Assumes nothing.
use Prim.Native.Nat.{◌-◌, ◌≤◌}
use mathlib.Core.Path.{◌≡◌}
use lib.ListN.{length}
use Rattle.field_sets.specs.Reader.{total_of, sets_in}
use Rattle.field_sets.proofs.ReaderLaws.{total_from}
use Rattle.field_sets.proofs.reader.count_pairs.Given as goal

-- there are no more pairs than bytes in front
abbrev pub invariant-loop-set : goal.invariant-loop-set
invariant-loop-set l = (l.total ≤ l.at) × (l.at ≤ length l.bytes) × (total_from l.bytes l.total l.at ≡ total_of (sets_in l.bytes))

abbrev pub decreases-loop-set : goal.decreases-loop-set
decreases-loop-set l = length l.bytes - l.at
