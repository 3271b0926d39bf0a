-- What a line leaves: the machine, the lent memory of the table and of the memberships, the buffer of lists and images, the line itself and the output.
use Rattle.std.specs.Prelude.{ℕ, cond, List, [], map, eqb, get_or}
use Rattle.slots.specs.Slots.{Slots, slots_of}
use Rattle.state.specs.declared.ScenesState.{ScenesState}
use Rattle.state.specs.Table.{Table}
use Rattle.groups.specs.declared.GroupsState.{GroupsState}
use Rattle.groups.specs.Groups.{Groups, groups_of}
use Rattle.script_groups.specs.Calls.{GroupCalled}
use Rattle.text_output.specs.declared.reason.Reason.{Reason}
use Rattle.text_output.specs.declared.reason.Reason.TheVariants.{NoTable, NotANumber}
use Rattle.text_output.specs.Writing.{Sheet, writes}
use Rattle.text_output.specs.Errors.{error_line}
use Rattle.script_answers.specs.Answers.{size_line, answer_line}
use Rattle.script_lines.specs.Lines.{Meaning, Number, Text, Unclear, Said, Nothing, Wrong, Call, line_says, line_left}
use Rattle.script_answers.specs.Done.{Done, answer_of}
use Rattle.script_lines.specs.Values.{value_at, half_asking}
use Rattle.script_sets.specs.Texts.{sets_line}
use Rattle.script_machine.specs.declared.Machine.{Machine}
use Rattle.script_machine.specs.Machines.{sized, dump_lines}
use Rattle.script.specs.Calls.{any_call}

-- ---- all that a line is run on

pub record Session : Type 0 where
  pub machine : Machine
  pub slots : Slots
  pub records : List ℕ
  pub groups : List ℕ
  pub buffer : List ℕ
  pub line : List ℕ
  pub output : Sheet

-- the machine, keys, times, fields, records, the words of memberships, the buffer of lists and images, the line and the output
abbrev pub session : Machine → List ℕ → List ℕ → List ℕ → List ℕ → List ℕ → List ℕ → List ℕ → Sheet → Session
session m k t f r w buffer line output =
    record { machine = m; slots = slots_of k t f; records = r; groups = w; buffer = buffer; line = line; output = output }

abbrev pub table_in : Session → Table
table_in s = record { state = s.machine.state; slots = s.slots; records = s.records }

abbrev pub groups_in : Session → Groups
groups_in s = groups_of s.machine.groups s.groups

-- another machine and more output; all else stays as it was
abbrev pub answered : Machine → (Sheet → Sheet) → Session → Session
answered m written s = record {
  machine = m;
  slots = s.slots;
  records = s.records;
  groups = s.groups;
  buffer = s.buffer;
  line = s.line;
  output = written s.output;
}

-- the line is not understood
abbrev pub wrong : Reason → Session → Session
wrong reason s = answered s.machine (writes (error_line s.machine.lines reason)) s

-- with the heads that a call leaves
abbrev pub with_heads : ScenesState → GroupsState → Machine → Machine
with_heads state groups m = record { state = state; groups = groups; present = m.present; trace = m.trace; lines = m.lines }

-- the table, the memberships and the buffer of lists and images that a call leaves, and its answer
abbrev pub answered_call : ℕ → GroupCalled → Session → Session
answered_call letter c s = let d : Done = c.called.done in record {
  machine = with_heads d.table.state c.groups.state s.machine;
  slots = d.table.slots;
  records = d.table.records;
  groups = c.groups.words;
  buffer = c.called.buffer;
  line = s.line;
  output = answer_line s.machine.trace letter (answer_of d) c.called.buffer d.table.slots.fields s.output;
}

-- ---- a line, by its letter, the numbers of its words and the bytes that they spell

abbrev pub called : ℕ → List ℕ → (ℕ → List ℕ) → Session → Session
called letter values bytes s = answered_call letter (any_call letter values bytes s.buffer (groups_in s) (table_in s)) s

-- N: a table of a size, with modes, and its answer
abbrev pub new_table : ℕ → ℕ → Session → Session
new_table size modes s = answered (sized size modes s.machine) (writes (size_line s.machine.trace size modes)) s

-- N makes a table; a copy that asks for one of its memberships alone, and without a table all else, is an error; D shows it, Y shows the sets
-- in field bytes, and any other letter calls it
unfoldable pub obeyed : ℕ → List ℕ → (ℕ → List ℕ) → Session → Session
obeyed letter values bytes s =
    cond (eqb letter 78) (new_table (value_at values 0) (value_at values 1) s)
    (cond (half_asking letter values) (wrong NotANumber s)
    (cond s.machine.present
    (cond (eqb letter 68) (answered s.machine (dump_lines (groups_in s) (table_in s)) s)
    (cond (eqb letter 89) (answered s.machine (sets_line s.machine.trace s.machine.state (bytes 0)) s)
    (called letter values bytes s)))
    (wrong NoTable s)))

-- the number that a word says, 0 where it says bytes
abbrev pub number_in : Meaning → ℕ
number_in (Number n) = n
number_in (Text bytes) = 0
number_in (Unclear r) = 0

-- the bytes that a word says, none where it says a number
abbrev pub text_in : Meaning → List ℕ
text_in (Number n) = []
text_in (Text bytes) = bytes
text_in (Unclear r) = []

-- the numbers of all words, and the bytes of the word at a position
abbrev pub numbers : List Meaning → List ℕ
numbers words = map number_in words

abbrev pub texts : List Meaning → ℕ → List ℕ
texts words i = text_in (get_or words i (Number 0))

-- what a line says is done
abbrev pub said_runs : Said → Session → Session
said_runs Nothing s = s
said_runs (Wrong reason) s = wrong reason s
said_runs (Call letter words) s = obeyed letter (numbers words) (texts words) s

-- the line once it was read
abbrev pub line_read : Session → Session
line_read s = record {
  machine = s.machine;
  slots = s.slots;
  records = s.records;
  groups = s.groups;
  buffer = s.buffer;
  line = line_left s.machine.trace s.line;
  output = s.output;
}

-- one line, by its text alone
abbrev pub run_line : Session → Session
run_line s = said_runs (line_says s.machine.trace s.line) (line_read s)
