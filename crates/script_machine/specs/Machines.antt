-- What a run of a script keeps from line to line: the machine at the start, as lines are read and tables are made, and what a line that makes no
-- call of the table leaves.
use Rattle.std.specs.Prelude.{◌≡◌, ℕ, ◌+◌, ◌%◌, ◌^◌, Bool, true, false, cond, List, ◌==◌}
use Rattle.state.specs.declared.ScenesState.{ScenesState}
use Rattle.state.specs.Table.{Table, new_state, new_state_with}
use Rattle.text_output.specs.Writing.{Sheet, sheet}
use Rattle.groups.specs.Groups.{Groups, with_held}
use Rattle.script_answers.specs.Dump.{table_lines, group_lines}
use Rattle.script_lines.specs.Lines.{not_given}
use Rattle.script_lines.specs.Values.{byte}
use Rattle.script_machine.specs.declared.Machine.{Machine}
use Rattle.script_machine.specs.declared.Ran.{Ran}

-- before the first line: no table and no memberships
abbrev pub new_machine : Bool → Machine
new_machine trace = record { state = new_state 0; groups = with_held 0; present = false; trace = trace; lines = 0 }

-- one more line was read
abbrev pub counted : Machine → Machine
counted m = record { state = m.state; groups = m.groups; present = m.present; trace = m.trace; lines = (m.lines + 1) % 2 ^ 64 }

-- the head of a new table, without modes if they are not given
abbrev pub new_head : ℕ → ℕ → ScenesState
new_head size modes = cond (modes == not_given) (new_state size) (new_state_with size (byte modes))

-- an empty table of a size, with modes, and no memberships
abbrev pub sized : ℕ → ℕ → Machine → Machine
sized size modes m = record { state = new_head size modes; groups = with_held 0; present = true; trace = m.trace; lines = m.lines }

-- D: the table as it stands, and the memberships behind it
abbrev pub dump_lines : Groups → Table → Sheet → Sheet
dump_lines g t s = group_lines g.state.held g.words (table_lines t s)

-- a line that leaves a machine that is known, and an output that is known
pub record Ended (m : Machine) (written : Sheet → Sheet) (out : List ℕ) (at : ℕ) (after : List ℕ) (r : Ran) : Type 0 where
  pub machine : r.machine ≡ m
  pub output : sheet after r.at ≡ written (sheet out at)
