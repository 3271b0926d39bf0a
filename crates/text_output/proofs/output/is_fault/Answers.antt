-- `text_output::output::is_fault` meets its contract. Assumes nothing.
use native.Mathlib.Omega.{arith}
use borrow.Author.Tests.{lt-ltb, le-ltb}
use Rattle.text_output.specs.Writing.{is_fault}
use Rattle.text_output.proofs.output.is_fault.Goals as goal

pub returns-then-status-lt-FIRST_STATUS : goal.returns-then-status-lt-FIRST_STATUS
unfolding is_fault
returns-then-status-lt-FIRST_STATUS c =
    rw (lt-ltb c.args.status 16 (omega arith))

pub returns : goal.returns
unfolding is_fault
returns c =
    rw (le-ltb c.args.status 16 (omega arith))
