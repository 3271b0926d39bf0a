-- How long the lines of answers are at most: a number has 20 digits, a scene 128 field bytes. Assumes nothing.
use Prim.Native.Nat.{ℕ, ◌+◌, ◌*◌, ◌/◌, ◌%◌, ◌≤◌, ◌<◌, min}
use mathlib.Core.Path.{◌≡◌, refl, ap}
use mathlib.Core.Bool.{Bool, true, false, cond, ◌&&◌}
use mathlib.Core.List.{List, [], ◌∷◌}
use native.Mathlib.Omega.{arith}
use lib.Dec.{eqb, ltb}
use lib.ListN.{length, get_or, take, drop, length-take, length-append}
use borrow.Author.Tests.{ltb-true, ltb-false}
use Rattle.words.specs.Constants.{max_fields, stride}
use Rattle.words.specs.Words.{fabric_of, endpoint_of, group_of, scene_of, key_of_record, is_valid}
use Rattle.words.proofs.Tests.{and_left, and_right}
use Rattle.slots.specs.Slots.{length_at, fields_at}
use Rattle.state.specs.declared.ScenesState.{ScenesState}
use Rattle.state.specs.Table.{Table}
use Rattle.state.specs.Sound.{sound}
use Rattle.reads.specs.Reads.{field_bytes}
use Rattle.state.proofs.Laws.{sound-length}
use Rattle.text_output.specs.Writing.{puts, writes, writes_below, Puts, digits_in, decimal, number, newline, spaced, flag_text, hex_byte, hex_text, bytes_text, is_fault, status_text}
use Rattle.text_output.proofs.Writing.{decimal_one, decimal_more}
use Rattle.text_output.proofs.Whole.{total, puts-text, puts-nothing, puts_then, puts_most, puts_all, puts_below, number-length}
use Rattle.script_lines.specs.Lines.{not_given}
use Rattle.script_answers.specs.declared.Row.{Row}
use Rattle.script_answers.specs.declared.Answer.{Answer}
use Rattle.script_answers.specs.declared.Tail.{Tail}
use Rattle.script_answers.specs.declared.Tail.TheVariants.{Nothing, Scene, Ids, NoRow, Info, Image, Number}
use Rattle.script_answers.specs.Answers.{modes_text, size_line, head_texts, row_texts, scene_bytes, scene_texts, list_texts, trace_number, fits, tail_of, answer_line}
use Rattle.script_answers.specs.Dump.{entry_texts, entry_line, record_line, counts_line, table_lines, group_line, group_lines}

-- texts of at most so many bytes
pub all_puts : (ts : List (List ℕ)) (most : ℕ) → total ts ≤ most → Puts most (writes ts)
all_puts ts most h = puts_most (total ts) most (writes ts) h (puts_all ts)

-- ---- pieces

flag-length : (b : Bool) → length (flag_text b) ≤ 1
unfolding digits_in
flag-length true = omega arith
flag-length false = omega arith

modes_length : (modes : ℕ) → length (modes_text modes) ≤ 21
modes_length modes =
    let l = number-length modes in
    elim (eqb modes not_given) as (λ b. length (cond b [] (number modes)) ≤ 21) [
      | true ↦ omega arith
      | false ↦ l
    ]

trace_number_length : (trace : Bool) (n : ℕ) → length (trace_number trace n) ≤ 21
trace_number_length true n = number-length n
trace_number_length false n = omega arith

-- a fault has at most two digits
fault_length : (s : ℕ) → s < 16 → length (decimal s) ≤ 2
fault_length s l =
    (elim (ltb s 10) as (λ b. ltb s 10 ≡ b → length (decimal s) ≤ 2) [
      | true ↦ λ e. let d = ap length (decimal_one s (ltb-true s 10 e)) in omega arith
      | false ↦ λ e.
          let m = ltb-false s 10 e in
          let d = ap length (decimal_more s m (omega arith)) in
          let a = length-append (decimal (s / 10)) ((48 + s % 10) ∷ []) in
          let t = ap length (decimal_one (s / 10) (omega arith)) in
          omega arith
    ]) refl

status-length : (s : ℕ) → length (status_text s) ≤ 3
unfolding status_text is_fault
status-length s =
    (elim (is_fault s) as (λ b. is_fault s ≡ b → length (cond b (70 ∷ decimal s) (hex_byte s)) ≤ 3) [
      | true ↦ λ e. let d = fault_length s (ltb-true s 16 (and_left (ltb s 16) (ltb 0 s) e)) in omega arith
      | false ↦ λ e. omega arith
    ]) refl

hex_length : (bs : List ℕ) → length (hex_text bs) ≡ 2 * length bs
unfolding hex_text
hex_length [] = refl
hex_length (b ∷ bs) = let l = hex_length bs in omega arith

bytes-length : (bs : List ℕ) → length (bytes_text bs) ≤ 1 + 2 * length bs
unfolding bytes_text
bytes-length [] = omega arith
bytes-length (b ∷ bs) = let l = hex_length (b ∷ bs) in omega arith

-- a scene has at most 128 field bytes
fields-length : (at : ℕ) (t : Table) → length (field_bytes at t) ≤ max_fields
unfolding field_bytes
fields-length at t =
    (elim (sound t && ltb at t.state.entries) as
    (λ b. (sound t && ltb at t.state.entries) ≡ b → length (cond b (fields_at t.slots.fields at) []) ≤ max_fields) [
      | true ↦ λ e.
          let m = sound-length t at (and_left (sound t) _ e) (ltb-true at t.state.entries (and_right (sound t) _ e)) in
          let l = length-take (length_at t.slots.fields at) (drop (at * stride + 1) t.slots.fields) in
          omega arith
      | false ↦ λ e. omega arith
    ]) refl

-- ---- lines

pub size-puts : (trace : Bool) (n modes : ℕ) → Puts 49 (writes (size_line trace n modes))
unfolding total
size-puts true n modes =
    all_puts (size_line true n modes) 49 (let l = number-length n in let m = modes_length modes in omega arith)
size-puts false n modes =
    all_puts (size_line false n modes) 49 (let l = number-length n in let m = modes_length modes in omega arith)

pub head_puts : (trace : Bool) (letter : ℕ) (a : Answer) → Puts 70 (writes (head_texts trace letter a))
unfolding total
head_puts trace letter a =
    let s = status-length a.status in
    let f = flag-length a.save in
    let l = number-length a.state.entries in
    let m = number-length a.state.recorded in
    let n = number-length a.state.dataver in
    all_puts (head_texts trace letter a) 70
    (elim trace as (λ b. total (head_texts b letter a) ≤ 70) [
      | true ↦ omega arith
      | false ↦ omega arith
    ])

counts-puts : (state : ScenesState) → Puts 65 (writes (counts_line state))
unfolding total
counts-puts state =
    let l = number-length state.entries in
    let m = number-length state.recorded in
    let n = number-length state.dataver in
    all_puts (counts_line state) 65 (omega arith)

-- an entry and a record
entry_total : (word time : ℕ) (fields : List ℕ) → length fields ≤ max_fields → total (entry_texts word time fields) ≤ 366
unfolding total
entry_total word time fields f =
    let a = number-length (fabric_of word) in
    let b = number-length (endpoint_of word) in
    let c = number-length (group_of word) in
    let d = number-length (scene_of word) in
    let e = number-length time in
    let g = bytes-length fields in
    omega arith

record_total : (word : ℕ) → total (record_line word) ≤ 90
unfolding total
record_total word =
    let a = number-length (fabric_of (key_of_record word)) in
    let b = number-length (endpoint_of (key_of_record word)) in
    let c = number-length (group_of (key_of_record word)) in
    let d = number-length (scene_of (key_of_record word)) in
    let e = flag-length (is_valid word) in
    omega arith

row-puts : (r : Row) → Puts 107 (writes (row_texts r))
unfolding total
row-puts r =
    let f = number-length r.count in
    let g = number-length r.group in
    let h = number-length r.scene in
    let i = flag-length r.valid in
    let j = number-length r.remaining in
    let k = number-length r.fabric in
    all_puts (row_texts r) 107 (omega arith)

scene-puts : (time : ℕ) (fields : List ℕ) → length fields ≤ max_fields → Puts 279 (writes (scene_texts time fields))
unfolding total
scene-puts time fields f = let a = number-length time in let b = bytes-length fields in all_puts (scene_texts time fields) 279 (omega arith)

list_puts : (remaining : ℕ) (buffer : List ℕ) (len : ℕ) → Puts (21 + min len (length buffer) * 21) (list_texts remaining buffer len)
unfolding total
list_puts remaining buffer len =
    puts_then 21 (min len (length buffer) * 21) (puts (number remaining)) (writes_below (λ i. number (get_or buffer i 0) ∷ []) (min len (length buffer)))
    (puts-text 21 (number remaining) (number-length remaining))
    (puts_below (λ i. number (get_or buffer i 0) ∷ []) 21 (min len (length buffer)) (λ i l. let n = number-length (get_or buffer i 0) in omega arith))

-- a table, by what the lent slices have
pub table-puts : (t : Table) → Puts (65 + length t.slots.keys * 366 + length t.records * 90) (table_lines t)
unfolding table_lines
table-puts t =
    let n : ℕ = min t.state.entries (length t.slots.keys) in
    let m : ℕ = min t.state.recorded (length t.records) in
    puts_most (65 + n * 366 + m * 90) _ (table_lines t) (omega arith)
    (puts_then (65 + n * 366) (m * 90)
    (λ s. writes_below (entry_line t) n (writes (counts_line t.state) s))
    (writes_below (λ i. record_line (get_or t.records i 0)) m)
    (puts_then 65 (n * 366) (writes (counts_line t.state)) (writes_below (entry_line t) n)
    (counts-puts t.state)
    (puts_below (entry_line t) 366 n (λ i l. entry_total (get_or t.slots.keys i 0) (get_or t.slots.times i 0) (field_bytes i t)
    (fields-length i t))))
    (puts_below (λ i. record_line (get_or t.records i 0)) 90 m (λ i l. record_total (get_or t.records i 0))))

-- a membership has at most 66 bytes
group_total : (word : ℕ) → total (group_line word) ≤ 66
unfolding total
group_total word =
    let a = number-length (fabric_of word) in
    let b = number-length (endpoint_of word) in
    let c = number-length (group_of word) in
    omega arith

-- memberships, by what the lent slice has
pub groups-puts : (held : ℕ) (words : List ℕ) → Puts (length words * 66) (group_lines held words)
unfolding group_lines
groups-puts held words =
    let n : ℕ = min held (length words) in
    puts_most (n * 66) _ (group_lines held words) (omega arith)
    (puts_below (λ i. group_line (get_or words i 0)) 66 n (λ i l. group_total (get_or words i 0)))

-- the most that an answer has beyond its status: a list of 1,024 ids, or an image of all that the buffer holds
abbrev pub tail_most : List ℕ → ℕ
tail_most buffer = 21525 + length buffer * 2

tail-puts : (trace : Bool) (tail : Tail) (buffer fields : List ℕ) → fits tail → Puts (tail_most buffer) (tail_of trace tail buffer fields)
tail-puts trace Nothing buffer fields h = puts_most 0 _ (λ s. s) (omega arith) puts-nothing
tail-puts trace (Scene time at len) buffer fields h =
    let l = length-take len (drop (at * stride + 1) fields) in
    puts_most 279 _ (tail_of trace (Scene time at len) buffer fields) (omega arith) (scene-puts time (scene_bytes at len fields) (omega (arith, h.1)))
tail-puts trace (Ids remaining len) buffer fields h =
    puts_most (21 + min len (length buffer) * 21) _ (tail_of trace (Ids remaining len) buffer fields) (omega (arith, h)) (list_puts remaining buffer len)
tail-puts trace NoRow buffer fields h = puts-text _ (32 ∷ 110 ∷ 111 ∷ 110 ∷ 101 ∷ []) (omega arith)
tail-puts trace (Info row) buffer fields h = puts_most 107 _ (tail_of trace (Info row) buffer fields) (omega arith) (row-puts row)
tail-puts trace (Image len) buffer fields h =
    let b = bytes-length (take len buffer) in
    let l = length-take len buffer in
    puts-text _ (spaced (bytes_text (take len buffer))) (omega arith)
tail-puts trace (Number n) buffer fields h = let l = trace_number_length trace n in puts-text _ (trace_number trace n) (omega arith)

-- an answer has at most this
abbrev pub answer_most : List ℕ → ℕ
answer_most buffer = 71 + tail_most buffer

pub answer-puts : (trace : Bool) (letter : ℕ) (a : Answer) (buffer fields : List ℕ) → fits a.tail
    → Puts (answer_most buffer) (answer_line trace letter a buffer fields)
unfolding answer_line
answer-puts trace letter a buffer fields h =
    puts_most (70 + tail_most buffer + 1) _ (answer_line trace letter a buffer fields) (omega arith)
    (puts_then (70 + tail_most buffer) 1 (λ s. tail_of trace a.tail buffer fields (writes (head_texts trace letter a) s)) (puts newline)
    (puts_then 70 (tail_most buffer) (writes (head_texts trace letter a)) (tail_of trace a.tail buffer fields)
    (head_puts trace letter a) (tail-puts trace a.tail buffer fields h))
    (puts-text 1 newline (omega arith)))
