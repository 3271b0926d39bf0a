-- `field_sets::sets::set_from` meets its contract. Assumes nothing.
use Prim.Native.Nat.{◌-◌}
use mathlib.Core.Path.{◌≡◌}
use lib.ListN.{length}
use Rattle.field_sets.specs.Sets.{set_from}
use Rattle.field_sets.proofs.SetLaws.{settled_from}
use Rattle.field_sets.proofs.sets.set_from.Given as goal

abbrev pub invariant-loop-h : goal.invariant-loop-h
invariant-loop-h l = settled_from l.bytes l.cluster l.array l.i ≡ set_from l.bytes l.at

abbrev pub decreases-loop-h : goal.decreases-loop-h
decreases-loop-h l = length l.bytes - l.i
