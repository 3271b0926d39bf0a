-- `script_groups::memberships::reset` meets its contract. Assumes nothing.
use Rattle.state.specs.Table.{Table, table_of}
use Rattle.groups.specs.Groups.{Groups, groups_of}
use Rattle.asking.specs.Asking.{factory_reset_both}
use Rattle.script_groups.specs.Memberships.{reset}
use Rattle.script_groups.proofs.GroupLaws.{both_done_lem}
use Rattle.script_groups.proofs.memberships.reset.Goals as goal

pub returns : goal.returns
unfolding reset
returns c =
    let came : Table = let a = c.args in
    table_of a.asking.state a.keys.now a.times.now a.fields.now a.records.now in
    let held : Groups = let a = c.args in
    groups_of a.asking.groups a.words.now in
    both_done_lem _ _ _ _ _ _ _ (factory_reset_both held came) c.both.ensures c.factory_reset.ensures
