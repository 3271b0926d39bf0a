-- `script_events::writes::host_write` meets its contract. Assumes nothing.
use native.Mathlib.Omega.{arith}
use borrow.Author.Tests.{ne_eqb}
use Rattle.script_events.specs.Writes.{host_write}
use Rattle.script_events.proofs.writes.host_write.Goals as goal

pub returns-in-75 : goal.returns-in-75
unfolding host_write
returns-in-75 c =
    rw c.in-75.is (c.set_version.ensures _ _ _ _)

pub returns-in-101 : goal.returns-in-101
unfolding host_write
returns-in-101 c =
    rw c.in-101.is (c.push_entry.ensures _)

pub returns-in_default : goal.returns-in_default
unfolding host_write
returns-in_default c =
    rw (ne_eqb c.args.read.letter 75 (omega arith), ne_eqb c.args.read.letter 101 (omega arith)) (c.push_record.ensures _ _ _)
