-- `script_machine::Machine::counted` meets its contract. Assumes nothing.
use Rattle.std.proofs.Common.{ℕ, ap}
use Rattle.script_machine.specs.declared.Machine.{Machine}
use Rattle.script_machine.proofs.Machine.counted.Goals as goal

-- a machine with another number of lines
abbrev numbered : Machine → ℕ → Machine
numbered m n = record { state = m.state; groups = m.groups; present = m.present; trace = m.trace; lines = n }

pub returns : goal.returns
returns c =
    ap (numbered c.args.self) c.wrapping_add_u64.ensures.value
