-- `script_groups::memberships::group_fits` meets its contract. Assumes nothing.
use mathlib.Core.Path.{sym}
use native.Mathlib.Omega.{arith}
use borrow.Author.Tests.{le-ltb, lt-ltb}
use Rattle.words.proofs.Tests.{and_true}
use Rattle.words.specs.Conditions.{all_of}
use Rattle.script_groups.specs.Memberships.{group_fits}
use Rattle.script_groups.proofs.memberships.group_fits.Goals as goal

pub returns-then-fabric-eq0 : goal.returns-then-fabric-eq0
unfolding group_fits all_of
returns-then-fabric-eq0 c =
    rw c.if-fabric-eq0.true

pub returns-then-groups-ge-MAX_MEMBERSHIPS : goal.returns-then-groups-ge-MAX_MEMBERSHIPS
unfolding group_fits all_of
returns-then-groups-ge-MAX_MEMBERSHIPS c =
    simp (lt-ltb 0 c.args.fabric (omega arith), le-ltb _ _ c.if-groups-ge-MAX_MEMBERSHIPS.true)

pub returns : goal.returns
unfolding group_fits all_of
returns c =
    simp (lt-ltb 0 c.args.fabric (omega arith), lt-ltb _ _ c.if-groups-ge-MAX_MEMBERSHIPS.false) (sym (and_true _))
