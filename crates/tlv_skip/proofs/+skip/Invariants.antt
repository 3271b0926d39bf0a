-- `tlv_skip::skip` ends: the depth that is left falls with each container that is entered, and each member leads on.
use Prim.Native.Nat.{◌-◌}
use mathlib.Core.Path.{◌≡◌}
use lib.ListN.{length}
use Rattle.tlv_skip.specs.Containers.{taken_from}
use Rattle.tlv_skip.specs.Skipping.{behind, skipped}
use Rattle.tlv_skip.proofs.Skips.{within}
use Rattle.tlv_skip.proofs.+skip.Given as goal

abbrev pub decreases-skip : goal.decreases-skip
decreases-skip l = l.depth

abbrev pub invariant-loop-member : goal.invariant-loop-member
invariant-loop-member l =
    behind (taken_from (within (l.depth - 1) l.bytes) l.bytes tt l.i) ≡ skipped l.depth l.bytes l.at

abbrev pub decreases-loop-member : goal.decreases-loop-member
decreases-loop-member l = length l.bytes - l.i
