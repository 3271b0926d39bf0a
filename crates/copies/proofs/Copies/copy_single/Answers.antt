-- `Copies::copy_single` meets its contract. Assumes nothing.
use mathlib.Core.Path.{sym, ◌∙◌}
use Rattle.state.specs.Table.{Entries, entries_of}
use Rattle.state.proofs.Laws.{found_under}
use Rattle.words.specs.Refusals.{status_of}
use Rattle.copies.specs.Copy.{copied_of}
use Rattle.copies.proofs.Laws.{single_found, single_missing}
use Rattle.copies.proofs.Copies.copy_single.Goals as goal

pub returns-in_default : goal.returns-in_default
returns-in_default c =
    let came : Entries = let a = c.args in
    entries_of a.self.state a.keys.now a.times.now a.fields.now in
    single_missing c.args.from c.args.to came c.word.ensures c.find.ensures c.in_default.is

pub copy_entry-requires : goal.copy_entry-requires
copy_entry-requires c =
    record { entry_room = c.requires; at_lt_entries = found_under c.args.keys.now c.args.self.state.entries _ _ (sym c.find.ensures ∙ c.in-Some.is) }

pub returns : goal.returns
returns c =
    let came : Entries = let a = c.args in
    entries_of a.self.state a.keys.now a.times.now a.fields.now in
    single_found c.args.from c.args.to came c.word.ensures c.find.ensures
    {o = copied_of (status_of c.copy_entry.result.answer) (entries_of c.copy_entry.result.state c.copy_entry.new.keys c.copy_entry.new.times c.copy_entry.new.fields)} c.in-Some.is c.copy_entry.ensures
