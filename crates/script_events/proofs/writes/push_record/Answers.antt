-- `script_events::writes::push_record` meets its contract. Assumes nothing.
use Prim.Native.Nat.{◌<◌}
use mathlib.Core.Path.{ap, ◌∙◌}
use lib.ListN.{length, set}
use Rattle.words.specs.Constants.{success}
use Rattle.words.specs.declared.SceneKey.{SceneKey}
use Rattle.state.specs.Table.{with_current, table_of}
use Rattle.script_answers.specs.declared.Answer.{Answer}
use Rattle.script_lines.specs.Values.{value_at}
use Rattle.script_events.specs.Writes.{raw, record_word, append_record}
use Rattle.script_answers.specs.Done.{done_of}
use Rattle.script_events.proofs.WriteLaws.{record_pushed, record_refused, record_test, record_room}
use borrow.Author.Rules.{rules}
use Rattle.script_events.proofs.writes.push_record.Goals as goal

pub offset_bounds-records-n : goal.offset_bounds-records-n
offset_bounds-records-n c =
    let room : (let a = c.args in
    a.state.recorded < length a.records.now) = record_room _ _ _ c.record_fits.ensures c.if-record_fits.true in
    let h = room in
    search rules

pub bounds-records-n : goal.bounds-records-n
bounds-records-n c =
    let room : (let a = c.args in
    a.state.recorded < length a.records.now) = record_room _ _ _ c.record_fits.ensures c.if-record_fits.true in
    room

pub overflow_add-state : goal.overflow_add-state
overflow_add-state c =
    let room : (let a = c.args in
    a.state.recorded < length a.records.now) = record_room _ _ _ c.record_fits.ensures c.if-record_fits.true in
    let h = room in
    search rules

pub returns-then-record_fits : goal.returns-then-record_fits
returns-then-record_fits c =
    λ k₀ t f.
    let a = c.args in
    let values = a.read.values in
    ap (λ (x : Answer). done_of x (table_of x.state k₀ t f (set a.records.now a.state.recorded c.record_word-word.result)))
    c.raw.ensures
    ∙ (λ i. raw success (with_current (append_record ((c.record_word-word.ensures ∙ ap (λ (x : SceneKey). record_word x (value_at values 4))
    c.scene_key-key.ensures) i)) (table_of a.state k₀ t f a.records.now)))
    ∙ record_pushed values _ (record_test _ _ values c.scene_key-key.ensures _ _ _ c.record_fits.ensures c.if-record_fits.true)

pub returns : goal.returns
returns c =
    λ k₀ t f.
    let a = c.args in
    ap (λ (x : Answer). done_of x (table_of x.state k₀ t f a.records.now)) c.raw-2.ensures
    ∙ record_refused a.read.values _ (record_test _ _ a.read.values c.scene_key-key.ensures _ _ _ c.record_fits.ensures
    c.if-record_fits.false)
