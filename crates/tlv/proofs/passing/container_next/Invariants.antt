-- `tlv::passing::container_next` meets its contract. Assumes nothing.
use Prim.Native.Nat.{◌-◌, ◌≤◌}
use mathlib.Core.Path.{◌≡◌}
use lib.ListN.{length}
use Rattle.tlv.specs.Passing.{passed_from, passed_at}
use Rattle.tlv.proofs.passing.container_next.Given as goal

abbrev pub invariant-loop-h : goal.invariant-loop-h
invariant-loop-h l = (l.level ≤ l.i) × (passed_from l.bytes l.level l.i ≡ passed_at l.bytes l.at)

abbrev pub decreases-loop-h : goal.decreases-loop-h
decreases-loop-h l = length l.bytes - l.i
