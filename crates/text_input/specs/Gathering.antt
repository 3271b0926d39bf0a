-- How lines are gathered out of chunks of input.
use Rattle.std.specs.Prelude.{ℕ, ◌+◌, ◌≡◌, Bool, cond, not, List, eqb, ltb, length}
use Rattle.std.proofs.Math.Seq.{slice}
use Rattle.text_input.specs.Reading.{past}
use Rattle.text_output.specs.Writing.{sheet, puts}
use Rattle.text_input.specs.declared.lines.Gathered.{Gathered}

-- no end of a line
abbrev pub in_line : ℕ → Bool
in_line b = not (eqb b 10)

-- the first end of a line from a position on, or the end of the chunk
abbrev pub line_end : List ℕ → ℕ → ℕ
line_end chunk from = past in_line chunk from

-- the bytes up to the end of the line stand behind those that the buffer held, and the chunk is left past that end
pub record Gathers (chunk : List ℕ) (from : ℕ) (line : List ℕ) (held : ℕ) (after : List ℕ) (r : Gathered) : Type 0 where
  pub ended : r.ended ≡ ltb (line_end chunk from) (length chunk)
  pub next : r.next ≡ cond r.ended (line_end chunk from + 1) (line_end chunk from)
  pub bytes : sheet after r.held ≡ puts (slice from (line_end chunk from) chunk) (sheet line held)
