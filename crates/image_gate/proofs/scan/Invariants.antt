-- `image_gate::scan` meets its contract. Assumes nothing.
use Prim.Native.Nat.{◌-◌}
use lib.ListN.{length}
use Rattle.image_gate.proofs.Scanning.{Turn}
use Rattle.image_gate.proofs.scan.Given as goal

abbrev pub invariant-loop-next : goal.invariant-loop-next
invariant-loop-next g l =
    Turn (g.L.Listed.reads l.bytes) l.bytes l.first g.L.Listed.clashing l.most (length l.initial.seen) l.seen l.n l.i l.clash

abbrev pub decreases-loop-next : goal.decreases-loop-next
decreases-loop-next g l = length l.bytes - l.i
