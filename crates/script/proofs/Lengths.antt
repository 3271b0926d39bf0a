-- How long the answer to a line is at most. Assumes nothing.
use Prim.Native.Nat.{ℕ, ◌+◌, ◌*◌, ◌≤◌}
use mathlib.Core.Path.{◌≡◌, refl}
use mathlib.Core.Bool.{Bool, true, false, cond}
use mathlib.Core.List.{List}
use native.Mathlib.Omega.{arith}
use lib.Dec.{eqb}
use lib.ListN.{length, get_or}
use borrow.Author.Tests.{eqb-true}
use Rattle.text_output.specs.declared.reason.Reason.{Reason}
use Rattle.text_output.specs.declared.reason.Reason.TheVariants.{Unknown, Missing, TooMany, NotANumber, TooLarge, NotHex, NotDigits, NoTable, TooLong, ReadFailed}
use Rattle.text_output.specs.Errors.{reason_text, error_line}
use Rattle.text_output.specs.Writing.{Sheet, writes, Puts}
use Rattle.text_output.proofs.Whole.{total, puts-nothing, puts_then, puts_most, number-length}
use Rattle.script_machine.specs.declared.Machine.{Machine}
use Rattle.script_lines.specs.Lines.{Meaning, Number, Text, Unclear, Said, Wrong, Call, line_says, line_left}
use Rattle.script_lines.specs.Lines as lines
use Rattle.groups.specs.Groups.{Groups}
use Rattle.state.specs.Table.{Table}
use Rattle.script_answers.specs.Dump.{table_lines, group_lines}
use Rattle.script_lines.specs.Values.{value_at, half_asking}
use Rattle.script_machine.specs.Machines.{dump_lines}
use Rattle.script_groups.specs.Calls.{GroupCalled}
use Rattle.script_lines.proofs.Spelling.{spelt, Spells, line-spells}
use Rattle.script_answers.specs.Done.{answer_of}
use Rattle.script_answers.proofs.AnswerLengths.{all_puts, size-puts, table-puts, groups-puts, answer_most, answer-puts}
use Rattle.script_sets.specs.Texts.{sets_line}
use Rattle.script_sets.proofs.Lengths.{sets-puts}
use Rattle.script.specs.Calls.{any_call}
use Rattle.script.specs.Running.{Session, session, table_in, groups_in, answered, wrong, called, new_table, obeyed, numbers, text_in, texts, said_runs, run_line}
use Rattle.script.proofs.RunLaws.{any_fits}

reason_length : (r : Reason) → length (reason_text r) ≤ 21
reason_length Unknown = omega arith
reason_length Missing = omega arith
reason_length TooMany = omega arith
reason_length NotANumber = omega arith
reason_length TooLarge = omega arith
reason_length NotHex = omega arith
reason_length NotDigits = omega arith
reason_length NoTable = omega arith
reason_length TooLong = omega arith
reason_length ReadFailed = omega arith

pub error_puts : (line : ℕ) (r : Reason) → Puts 48 (writes (error_line line r))
unfolding total
error_puts line r = all_puts (error_line line r) 48 (let n = number-length line in let t = reason_length r in omega arith)

-- ---- a line

-- the most that a dump of what the lent slices have takes, and an answer with a buffer of at most so many bytes
abbrev pub dump_most : List ℕ → List ℕ → List ℕ → ℕ
dump_most keys records words = 65 + length keys * 366 + length records * 90 + length words * 66

dump_puts : (g : Groups) (t : Table) → Puts (dump_most t.slots.keys t.records g.words) (dump_lines g t)
dump_puts g t =
    puts_then (65 + length t.slots.keys * 366 + length t.records * 90) (length g.words * 66) (table_lines t)
    (group_lines g.state.held g.words) (table-puts t) (groups-puts g.state.held g.words)

abbrev pub call_most : ℕ → ℕ
call_most most = 21596 + most * 2

-- ten times the most that the sets in the bytes of a line of so many bytes take
abbrev pub sets_most : ℕ → ℕ
sets_most n = 11 * n + 730

spelt_text : (m : Meaning) → length (text_in m) ≡ spelt m
spelt_text (Number n) = refl
spelt_text (Text bytes) = refl
spelt_text (Unclear r) = refl

-- what a line of n bytes is answered is one text, whatever the output holds, and no longer than any of these. The buffer counts as the line
-- leaves it
module _ (m : Machine) (k t f r w buffer line : List ℕ) (most n room : ℕ) (dump : dump_most k r w ≤ room) (answer : call_most most ≤ room)
    (shown : sets_most n ≤ 10 * room) (s₀ : Sheet) where
  abbrev on : Sheet → Session
  on s = session m k t f r w buffer line s

  obeyed-puts : (letter : ℕ) (values : List ℕ) (bytes : ℕ → List ℕ)
      → (letter ≡ 89 → 2 * length (bytes 0) ≤ n)
      → length (obeyed letter values bytes (on s₀)).buffer ≤ most
      → Puts room (λ s. (obeyed letter values bytes (on s)).output)
  unfolding obeyed
  obeyed-puts letter values bytes few =
      elim (eqb letter 78) as (λ b. length (numbered b s₀).buffer ≤ most → Puts room (λ s. (numbered b s).output)) [
        | true ↦ λ h. puts_most 49 room _ (omega (arith, answer)) (size-puts m.trace (value_at values 0) (value_at values 1))
        | false ↦
            elim (half_asking letter values) as (λ b. length (halved b s₀).buffer ≤ most → Puts room (λ s. (halved b s).output)) [
              | true ↦ λ h. puts_most 48 room _ (omega (arith, answer)) (error_puts m.lines NotANumber)
              | false ↦
                  elim m.present as (λ b. length (having b s₀).buffer ≤ most → Puts room (λ s. (having b s).output)) [
                    | true ↦
                        elim (eqb letter 68) as (λ b. length (dumping b s₀).buffer ≤ most → Puts room (λ s. (dumping b s).output)) [
                          | true ↦ λ h. puts_most (dump_most k r w) room _ dump (dump_puts (groups_in (on s₀)) (table_in (on s₀)))
                          | false ↦
                              elim (eqb letter 89) as
                              (λ b. eqb letter 89 ≡ b → length (showing b s₀).buffer ≤ most → Puts room (λ s. (showing b s).output)) [
                                | true ↦ λ e h. sets-puts (bytes 0) m.trace m.state n room (few (eqb-true letter 89 e)) shown
                                | false ↦ λ e h.
                                    puts_most (answer_most made.called.buffer) room _ (let l = h in omega (arith, answer))
                                    (answer-puts m.trace letter (answer_of made.called.done) made.called.buffer
                                    made.called.done.table.slots.fields
                                    (any_fits letter values bytes buffer (groups_in (on s₀)) (table_in (on s₀))))
                              ] refl
                        ]
                    | false ↦ λ h. puts_most 48 room _ (omega (arith, answer)) (error_puts m.lines NoTable)
                  ]
            ]
      ]
    where
      made : GroupCalled
      made = any_call letter values bytes buffer (groups_in (on s₀)) (table_in (on s₀))

      showing : Bool → Sheet → Session
      showing b s = cond b (answered m (sets_line m.trace m.state (bytes 0)) (on s)) (called letter values bytes (on s))

      dumping : Bool → Sheet → Session
      dumping b s = cond b (answered m (dump_lines (groups_in (on s)) (table_in (on s))) (on s)) (showing (eqb letter 89) s)

      having : Bool → Sheet → Session
      having b s = cond b (dumping (eqb letter 68) s) (wrong NoTable (on s))

      halved : Bool → Sheet → Session
      halved b s = cond b (wrong NotANumber (on s)) (having m.present s)

      numbered : Bool → Sheet → Session
      numbered b s = cond b (new_table (value_at values 0) (value_at values 1) (on s)) (halved (half_asking letter values) s)

  said_puts : (said : Said) → Spells n said → length (said_runs said (on s₀)).buffer ≤ most → Puts room (λ s. (said_runs said (on s)).output)
  said_puts lines.Nothing few h = puts_most 0 room (λ s. s) (omega arith) puts-nothing
  said_puts (Wrong reason) few h = puts_most 48 room _ (omega (arith, answer)) (error_puts m.lines reason)
  said_puts (Call letter words) few h =
      let e = spelt_text (get_or words 0 (Number 0)) in
      obeyed-puts letter (numbers words) (texts words) (λ y. let l = few y in omega arith) h

pub line-puts : (m : Machine) (k t f r w buffer line : List ℕ) (most room : ℕ)
    → dump_most k r w ≤ room → call_most most ≤ room → sets_most (length line) ≤ 10 * room → (s₀ : Sheet)
    → length (run_line (session m k t f r w buffer line s₀)).buffer ≤ most
    → Puts room (λ s. (run_line (session m k t f r w buffer line s)).output)
line-puts m k t f r w buffer line most room dump answer shown s₀ h =
    said_puts m k t f r w buffer (line_left m.trace line) most (length line) room dump answer shown s₀ (line_says m.trace line)
    (line-spells m.trace line) h
