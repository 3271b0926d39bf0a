-- `script_groups::memberships::group_event` meets its contract. Assumes nothing.
use native.Mathlib.Omega.{arith}
use borrow.Author.Tests.{ne_eqb}
use Rattle.script_groups.specs.Memberships.{group_event}
use Rattle.script_groups.proofs.memberships.group_event.Goals as goal

pub returns-in-74 : goal.returns-in-74
unfolding group_event
returns-in-74 c =
    rw c.in-74.is (c.join.ensures _ _ _ _)

pub returns-in-81 : goal.returns-in-81
unfolding group_event
returns-in-81 c =
    rw c.in-81.is c.leave.ensures

pub returns-in-72 : goal.returns-in-72
unfolding group_event
returns-in-72 c =
    rw c.in-72.is (c.held.ensures _ _ _ _)

pub returns-in-109 : goal.returns-in-109
unfolding group_event
returns-in-109 c =
    rw c.in-109.is (c.push_group.ensures _ _ _ _)

pub returns-in-70 : goal.returns-in-70
unfolding group_event
returns-in-70 c =
    rw c.in-70.is c.removal.ensures

pub returns-in_default : goal.returns-in_default
unfolding group_event
returns-in_default c =
    rw (ne_eqb c.args.read.letter 74 (omega arith), ne_eqb c.args.read.letter 81 (omega arith), ne_eqb c.args.read.letter 72 (omega arith), ne_eqb c.args.read.letter 109 (omega arith), ne_eqb c.args.read.letter 70 (omega arith))
    c.reset.ensures
