-- `script_groups::memberships::join` meets its contract. Assumes nothing.
use mathlib.Core.Path.{ap, ◌∙◌}
use Rattle.words.specs.declared.GroupKey.{GroupKey}
use Rattle.state.specs.Table.{table_of}
use Rattle.groups.specs.Groups.{Joined, groups_of, join_group}
use Rattle.script_groups.specs.Memberships.{join_done, join}
use Rattle.script_groups.proofs.GroupLaws.{ends}
use Rattle.script_groups.proofs.memberships.join.Goals as goal

pub returns : goal.returns
unfolding join
returns c =
    let a = c.args in
    let g = groups_of a.asking.groups a.words.now in
    let done = c.join-done.ensures ∙ ap (λ (key : GroupKey). join_group key g) c.group_key.ensures in
    λ k t f w. ap (ends k t f w _) c.unsaved.ensures ∙ ap (λ (j : Joined). join_done j (table_of a.asking.state k t f w)) done
