-- `script_groups::memberships::removal` meets its contract. Assumes nothing.
use mathlib.Core.Path.{◌∙◌}
use Rattle.state.specs.Table.{Table, table_of}
use Rattle.groups.specs.Groups.{Groups, groups_of}
use Rattle.asking.specs.Asking.{remove_for_fabric_both}
use Rattle.script_groups.specs.Memberships.{both_done, removal}
use Rattle.script_groups.proofs.GroupLaws.{both_done_lem}
use Rattle.script_groups.proofs.memberships.removal.Goals as goal

pub returns : goal.returns
unfolding removal
returns c =
    let came : Table = let a = c.args in
    table_of a.asking.state a.keys.now a.times.now a.fields.now a.records.now in
    let held : Groups = let a = c.args in
    groups_of a.asking.groups a.words.now in
    both_done_lem _ _ _ _ _ _ _ (remove_for_fabric_both c.byte-fabric.result held came) c.both.ensures c.remove_for_fabric.ensures
    ∙ (λ i. both_done (remove_for_fabric_both (c.byte-fabric.ensures i) held came))
