-- `script_groups::memberships::leave` meets its contract. Assumes nothing.
use mathlib.Core.Path.{◌∙◌}
use Rattle.state.specs.Table.{Table, table_of}
use Rattle.groups.specs.Groups.{Groups, groups_of}
use Rattle.asking.specs.Asking.{leave_group}
use Rattle.script_groups.specs.Memberships.{both_done, leave}
use Rattle.script_groups.proofs.GroupLaws.{both_done_lem}
use Rattle.script_groups.proofs.memberships.leave.Goals as goal

pub returns : goal.returns
unfolding leave
returns c =
    let came : Table = let a = c.args in
    table_of a.asking.state a.keys.now a.times.now a.fields.now a.records.now in
    let held : Groups = let a = c.args in
    groups_of a.asking.groups a.words.now in
    both_done_lem _ _ _ _ _ _ _ (leave_group c.group_key-key.result held came) c.both.ensures c.leave.ensures
    ∙ (λ i. both_done (leave_group (c.group_key-key.ensures i) held came))
