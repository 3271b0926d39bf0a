-- That the answer to a line is never cut: it stands whole in the output buffer. Document 01, "Boxes on paper": what a line prints.
use Rattle.std.specs.Prelude.{ℕ, ◌≤◌, ◌≡◌, cond, List, ltb, length, take}
use Rattle.text_output.specs.declared.reason.Reason.TheVariants.{TooLong}
use Rattle.text_output.specs.Writing.{Sheet, sheet, puts, writes, whole}
use Rattle.text_output.specs.Errors.{error_line}
use Rattle.script_machine.specs.declared.Machine.{Machine}
use Rattle.script_machine.specs.Machines.{counted}
use Rattle.script.specs.Running.{session, run_line}

-- no answer has more bytes: a table as it stands, of 1,024 entries with 128 field bytes each, 1,024 records
-- and 256 memberships, has the most
abbrev pub longest : ℕ
longest = 488862

-- the buffer for lines: a line has fewer bytes
abbrev pub line_room : ℕ
line_room = 0x60000

-- so many bytes of answers are held at most before the next line
abbrev pub most_held : ℕ
most_held = 0x10000

-- what the line is answered whose first bytes the buffer holds, on an output: one that fills the buffer is too long
abbrev pub held_answer : Machine → List ℕ → List ℕ → List ℕ → List ℕ → List ℕ → List ℕ → List ℕ → ℕ → Sheet → Sheet
held_answer m keys times fields records words buffer line held s =
    cond (ltb held (length line)) (run_line (session (counted m) keys times fields records words buffer (take held line) s)).output
    (writes (error_line (counted m).lines TooLong) s)

-- an answer is one text, on whatever output; and it stands, with every byte, behind what the buffer held
pub record Whole (answer : Sheet → Sheet) (out : List ℕ) (at : ℕ) (after : List ℕ) (next : ℕ) : Type 0 where
  pub text : List ℕ
  pub short : length text ≤ longest
  pub says : (s : Sheet) → answer s ≡ puts text s
  pub stands : sheet after next ≡ whole text (sheet out at)
