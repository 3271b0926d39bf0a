-- `script_events::writes::push_entry` meets its contract. Assumes nothing.
use Prim.Native.Nat.{◌+◌}
use mathlib.Core.Path.{ap, ◌∙◌}
use native.Mathlib.Omega.{arith}
use Rattle.words.specs.Words.{word_of}
use Rattle.words.specs.Constants.{success}
use Rattle.slots.specs.Slots.{slots_of, put_slot}
use Rattle.state.specs.Change.{append}
use Rattle.state.specs.Table.{table_of, with_entry_count}
use Rattle.script_lines.specs.Values.{bytes_at}
use Rattle.script_answers.specs.declared.Answer.{Answer}
use Rattle.script_answers.specs.Done.{done_of}
use Rattle.script_events.specs.Writes.{raw}
use Rattle.script_events.proofs.WriteLaws.{entry_pushed, entry-refused, entry_test, entry-room}
use Rattle.script_events.proofs.writes.push_entry.Goals as goal

pub put-requires : goal.put-requires
put-requires c =
    let room = entry-room _ _ _ _ _ _ c.entry_fits.ensures c.if-entry_fits.true in
    record { ext_len_bound = room.0; at_in_bounds = room.1.0; at_in_bounds_2 = room.1.1.0; stride_in_bounds = room.1.1.1 }

pub overflow_add-state : goal.overflow_add-state
overflow_add-state c =
    let h = entry-room _ _ _ _ _ _ c.entry_fits.ensures c.if-entry_fits.true in
    omega (arith, h.1.0, c.well_formed)

pub returns-then-entry_fits : goal.returns-then-entry_fits
unfolding append
returns-then-entry_fits c =
    λ w.
    let a = c.args in
    let s = slots_of a.keys.now a.times.now a.fields.now in
    let slots = ◌∙◌ {a = slots_of c.put.new.keys c.put.new.times c.put.new.fields}
    {b = put_slot a.state.entries c.word.result c.long-time.result c.part-ext.result.now s} c.put.ensures
    (λ i. put_slot a.state.entries ((c.word.ensures ∙ ap word_of c.scene_key-key.ensures) i) (c.long-time.ensures i)
    (c.part-ext.ensures i) s) in
    ap (λ (x : Answer). done_of x (table_of x.state c.put.new.keys c.put.new.times c.put.new.fields w)) c.raw.ensures
    ∙ (λ i. raw success (record { state = with_entry_count (a.state.entries + 1) a.state; slots = slots i; records = w }))
    ∙ entry_pushed a.read.values _ _ (entry_test _ _ a.read.values c.scene_key-key.ensures _
    (bytes_at a.read a.line.now 5) c.part-ext.ensures _ _ _ _ _ c.entry_fits.ensures c.if-entry_fits.true)

pub returns : goal.returns
returns c =
    λ w.
    let a = c.args in
    ap (λ (x : Answer). done_of x (table_of x.state a.keys.now a.times.now a.fields.now w)) c.raw-2.ensures
    ∙ entry-refused a.read.values _ _ (entry_test _ _ a.read.values c.scene_key-key.ensures _ _ c.part-ext.ensures _ _ _ _ _
    c.entry_fits.ensures c.if-entry_fits.false)
