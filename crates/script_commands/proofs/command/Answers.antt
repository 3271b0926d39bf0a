-- `script_commands::command` meets its contract. Assumes nothing.
use native.Mathlib.Omega.{arith}
use borrow.Author.Tests.{ne_eqb}
use Rattle.script_commands.specs.Commands.{command}
use Rattle.script_commands.proofs.command.Goals as goal

pub returns-in-65 : goal.returns-in-65
unfolding command
returns-in-65 c =
    rw c.in-65.is c.add.ensures

pub returns-in-66 : goal.returns-in-66
unfolding command
returns-in-66 c =
    rw c.in-66.is c.add_read.ensures

pub returns-in-83 : goal.returns-in-83
unfolding command
returns-in-83 c =
    rw c.in-83.is c.store.ensures

pub returns-in-82 : goal.returns-in-82
unfolding command
returns-in-82 c =
    rw c.in-82.is c.remove.ensures

pub returns-in-88 : goal.returns-in-88
unfolding command
returns-in-88 c =
    rw c.in-88.is c.remove_all.ensures

pub returns-in_default : goal.returns-in_default
unfolding command
returns-in_default c =
    rw (ne_eqb c.args.read.letter 65 (omega arith), ne_eqb c.args.read.letter 66 (omega arith), ne_eqb c.args.read.letter 83 (omega arith), ne_eqb c.args.read.letter 82 (omega arith), ne_eqb c.args.read.letter 88 (omega arith))
    c.copy.ensures
