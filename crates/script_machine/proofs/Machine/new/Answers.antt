-- `script_machine::Machine::new` meets its contract. Assumes nothing.
use Rattle.std.proofs.Common.{Bool, false}
use Rattle.state.specs.declared.ScenesState.{ScenesState}
use Rattle.groups.specs.declared.GroupsState.{GroupsState}
use Rattle.script_machine.specs.declared.Machine.{Machine}
use Rattle.script_machine.proofs.Machine.new.Goals as goal

-- before the first line, with the heads of a table and of memberships
abbrev started : Bool → ScenesState → GroupsState → Machine
started trace state groups = record { state = state; groups = groups; present = false; trace = trace; lines = 0 }

pub returns : goal.returns
returns c =
    λ i. started c.args.trace (c.new.ensures i) (c.new-2.ensures i)
