-- `Copies::copy_sources` meets its contract. Assumes nothing.
use mathlib.Core.Path.{sym, ◌∙◌}
use Rattle.state.specs.Table.{Entries, entries_of}
use Rattle.words.specs.Refusals.{status_of}
use Rattle.copies.specs.Copy.{copied_of}
use Rattle.copies.proofs.Laws.{sources_group, sources_single}
use Rattle.copies.proofs.Copies.copy_sources.Goals as goal

pub returns-then-is_whole_group : goal.returns-then-is_whole_group
returns-then-is_whole_group c =
    let came : Entries = let a = c.args in
    entries_of a.self.state a.keys.now a.times.now a.fields.now in
    sources_group c.args.c came
    {o = copied_of (status_of c.copy_group.result.answer) (entries_of c.copy_group.result.state c.copy_group.new.keys c.copy_group.new.times c.copy_group.new.fields)}
    (sym c.is_whole_group.ensures ∙ c.if-is_whole_group.true) c.group_key.ensures c.group_key-then-is_whole_group.ensures c.copy_group.ensures

pub returns : goal.returns
returns c =
    let came : Entries = let a = c.args in
    entries_of a.self.state a.keys.now a.times.now a.fields.now in
    sources_single c.args.c came
    {o = copied_of (status_of c.copy_single.result.answer) (entries_of c.copy_single.result.state c.copy_single.new.keys c.copy_single.new.times c.copy_single.new.fields)}
    (sym c.is_whole_group.ensures ∙ c.if-is_whole_group.false) c.scene_key.ensures c.scene_key-2.ensures c.copy_single.ensures
