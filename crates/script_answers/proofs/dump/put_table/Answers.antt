-- `script_answers::dump::put_table` meets its contract. Assumes nothing.
use Prim.Native.Nat.{ℕ, ◌≤◌, min}
use mathlib.Core.Path.{◌≡◌, ap, ◌∙◌, subst⁻¹}
use lib.ListN.{get_or, length}
use Rattle.words.specs.Constants.{max_scenes}
use Rattle.state.specs.Table.{Table, table_of}
use Rattle.text_output.specs.Writing.{sheet, writes, writes_below}
use Rattle.script_answers.specs.Dump.{counts_line, entry_line, stored_in, entry_shown, record_line, table_lines}
use Rattle.script_answers.proofs.DumpLaws.{stored_most, shown_lines}
use Rattle.script_answers.proofs.dump.put_table.Goals as goal

-- the lines of the entries are the table's
shown : (t : Table) {n : ℕ} → n ≡ stored_in t → entry_shown n t.slots.keys t.slots.times t.slots.fields ≡ entry_line t
shown t q = rw q (shown_lines t)

pub put_entries-entries-requires : goal.put_entries-entries-requires
put_entries-entries-requires c =
    let came : Table = let a = c.args in
    table_of a.state a.keys.now a.times.now a.fields.now a.records.now in
    subst⁻¹ (λ (n : ℕ). n ≤ max_scenes) c.stored-stored.ensures (stored_most came)

pub returns : goal.returns
unfolding table_lines
returns c =
    let came : Table = let a = c.args in
    table_of a.state a.keys.now a.times.now a.fields.now a.records.now in
    let listed : (let a = c.args in
    sheet c.put_entries-entries.new.out c.put_entries-entries.result ≡ writes_below (entry_line came) (min a.state.entries (length a.keys.now)) (writes (counts_line a.state) (sheet a.out.now a.at))) = c.put_entries-entries.ensures
    ∙ (λ k. writes_below (shown came c.stored-stored.ensures k)
    (c.min-shown.ensures k) (c.put_counts-counts.ensures k)) in
    c.put_records.ensures
    ∙ ap (writes_below (λ j. record_line (get_or came.records j 0)) (min c.args.state.recorded (length c.args.records.now))) listed
