-- `Copies::copy_entry` meets its contract. Assumes nothing.
use mathlib.Core.Path.{sym, ◌∙◌}
use native.Mathlib.Omega.{arith}
use Rattle.slots.specs.Slots.{slots_of}
use Rattle.state.specs.Table.{Entries, entries_of}
use Rattle.state.proofs.Laws.{found_under}
use Rattle.copies.proofs.Laws.{entry_length_lem, room-free, copy-known, copy-new, copy_full}
use Rattle.copies.proofs.Copies.copy_entry.Goals as goal

pub returns-then-room_for_fab-eq0 : goal.returns-then-room_for_fab-eq0
returns-then-room_for_fab-eq0 c =
    let came : Entries = let a = c.args in
    entries_of a.self.state a.keys.now a.times.now a.fields.now in
    copy_full c.args.at c.args.key came
    c.word-word.ensures c.find.ensures c.in_default.is (sym c.room_for_fab.ensures ∙ c.if-room_for_fab-eq0.true)

pub put_copy-requires : goal.put_copy-requires
put_copy-requires c =
    let a = c.args in
    let fits = room-free a.self.state a.keys.now a.key.fabric (λ z. c.if-room_for_fab-eq0.false (c.room_for_fab.ensures ∙ z)) in
    let size = entry_length_lem c.requires.entry_room a.at c.requires.at_lt_entries in
    record { to_in_bounds = omega arith; from_in_bounds = omega arith; to_in_bounds_2 = omega arith; stride_in_bounds = omega arith; stride_in_bounds_2 = omega arith; from_bound = omega arith }

pub returns-in_default : goal.returns-in_default
returns-in_default c =
    let came : Entries = let a = c.args in
    entries_of a.self.state a.keys.now a.times.now a.fields.now in
    copy-new c.args.at c.args.key came
    c.word-word.ensures c.find.ensures {s = slots_of c.put_copy.new.keys c.put_copy.new.times c.put_copy.new.fields} c.in_default.is
    (λ z. c.if-room_for_fab-eq0.false (c.room_for_fab.ensures ∙ z)) c.put_copy.ensures

pub put_copy-requires-2 : goal.put_copy-requires-2
put_copy-requires-2 c =
    let a = c.args in
    let under = found_under a.keys.now a.self.state.entries _ _ (sym c.find.ensures ∙ c.in-Some.is) in
    let size = entry_length_lem c.requires.entry_room a.at c.requires.at_lt_entries in
    record { to_in_bounds = omega arith; from_in_bounds = omega arith; to_in_bounds_2 = omega arith; stride_in_bounds = omega arith; stride_in_bounds_2 = omega arith; from_bound = omega arith }

pub returns : goal.returns
returns c =
    let came : Entries = let a = c.args in
    entries_of a.self.state a.keys.now a.times.now a.fields.now in
    copy-known c.args.at c.args.key came
    c.word-word.ensures c.find.ensures {s = slots_of c.put_copy-2.new.keys c.put_copy-2.new.times c.put_copy-2.new.fields} c.in-Some.is c.put_copy-2.ensures
