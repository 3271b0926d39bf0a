-- `Copies::copy_scenes_inner` meets its contract. Assumes nothing.
use mathlib.Core.Path.{◌≡◌, sym, ap, ◌∙◌, subst⁻¹}
use native.Mathlib.Omega.{arith}
use Rattle.records.specs.declared.Scope.{Scope}
use Rattle.state.specs.declared.ScenesState.{ScenesState}
use Rattle.state.specs.Table.{Table, table_of, Entries, entries_of, current_of}
use Rattle.state.specs.Capacity.{room_for}
use Rattle.state.specs.Current.{invalidate_current}
use Rattle.state.proofs.Guard.{result_in}
use Rattle.words.specs.Refusals.{number_of, status_of}
use Rattle.words.proofs.Refusals.{refusal-number}
use Rattle.copies.specs.Copy.{Copied, copied_of, copy_sources}
use Rattle.copies.proofs.Laws.{Kept, sources_kept, inner_none, inner_stopped, inner_done}
use Rattle.copies.proofs.Copies.copy_scenes_inner.Goals as goal

pub returns-then-room_for_fab-eq0 : goal.returns-then-room_for_fab-eq0
returns-then-room_for_fab-eq0 c =
    let came : Table = let a = c.args in
    table_of a.self.state a.keys.now a.times.now a.fields.now a.records.now in
    let t = came in
    ap (result_in t.slots t.records) c.refused_by.ensures
    ∙ inner_none c.args.c t (sym c.room_for_fab.ensures ∙ c.if-room_for_fab-eq0.true)

pub returns-in-Err : goal.returns-in-Err
returns-in-Err c =
    let came : Table = let a = c.args in
    table_of a.self.state a.keys.now a.times.now a.fields.now a.records.now in
    let made : Copied = copied_of (status_of c.copy_sources-done.result.answer) (entries_of c.copy_sources-done.result.state c.copy_sources-done.new.keys c.copy_sources-done.new.times c.copy_sources-done.new.fields) in
    let some_left : (let t = came in room_for t.state t.slots.keys c.args.c.fabric ≡ 0 → ⊥) = λ z. c.if-room_for_fab-eq0.false (c.room_for_fab.ensures ∙ z) in
    let t = came in
    let stopped : Copied = copied_of (number_of c.in-Err.refusal) made.entries in
    ap (result_in made.entries.slots t.records) c.refused_by-in-Err.ensures
    ∙ inner_stopped c.args.c t some_left {o = stopped} (ap (λ a. copied_of (status_of a) made.entries) (sym c.in-Err.is) ∙ c.copy_sources-done.ensures) (refusal-number c.in-Err.refusal)

pub invalidate_current-requires : goal.invalidate_current-requires
invalidate_current-requires c =
    let came : Table = let a = c.args in
    table_of a.self.state a.keys.now a.times.now a.fields.now a.records.now in
    let made : Copied = copied_of (status_of c.copy_sources-done.result.answer) (entries_of c.copy_sources-done.result.state c.copy_sources-done.new.keys c.copy_sources-done.new.times c.copy_sources-done.new.fields) in
    let kept : (let t = came in Kept (record { state = t.state; slots = t.slots }) made.entries) = let t = came in
    let e : Entries = record { state = t.state; slots = t.slots } in
    subst⁻¹ (λ (o : Copied). Kept e o.entries) {x = made} {y = copy_sources c.args.c e} c.copy_sources-done.ensures (sources_kept c.args.c e c.requires.entries) in
    omega (arith, ap (λ (s : ScenesState). s.recorded) kept.head, c.requires.recorded)

pub returns : goal.returns
returns c =
    let came : Table = let a = c.args in
    table_of a.self.state a.keys.now a.times.now a.fields.now a.records.now in
    let made : Copied = copied_of (status_of c.copy_sources-done.result.answer) (entries_of c.copy_sources-done.result.state c.copy_sources-done.new.keys c.copy_sources-done.new.times c.copy_sources-done.new.fields) in
    let some_left : (let t = came in room_for t.state t.slots.keys c.args.c.fabric ≡ 0 → ⊥) = λ z. c.if-room_for_fab-eq0.false (c.room_for_fab.ensures ∙ z) in
    let t = came in
    let current = current_of made.entries.state t.records in
    ap (result_in _ _) c.saved.ensures
    ∙ inner_done c.args.c t some_left {o = made} c.copy_sources-done.ensures (ap status_of c.in_default.is)
    (c.invalidate_current.ensures ∙ ap (λ (s : Scope). invalidate_current s current) c.target_scope.ensures)
