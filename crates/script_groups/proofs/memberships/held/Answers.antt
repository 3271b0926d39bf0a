-- `script_groups::memberships::held` meets its contract. Assumes nothing.
use mathlib.Core.Path.{ap, ◌∙◌}
use Rattle.words.specs.declared.GroupKey.{GroupKey}
use Rattle.state.specs.Table.{table_of}
use Rattle.groups.specs.declared.GroupRead.{GroupRead}
use Rattle.groups.specs.Groups.{groups_of, read_group}
use Rattle.script_answers.specs.Done.{read_of}
use Rattle.script_groups.specs.Memberships.{group_done, held_done, held}
use Rattle.script_groups.proofs.GroupLaws.{ends}
use Rattle.script_groups.proofs.memberships.held.Goals as goal

pub returns : goal.returns
unfolding held
returns c =
    let a = c.args in
    let g = groups_of a.asking.groups a.words.now in
    let read = c.read-found.ensures ∙ ap (λ (key : GroupKey). read_group key g) c.group_key.ensures in
    λ k t f w.
    let table = table_of a.asking.state k t f w in
    ap (ends k t f w _) c.unsaved.ensures
    ∙ (λ i. group_done (read_of c.read-found.result.status (c.held_tail.ensures i) table) g)
    ∙ ap (λ (r : GroupRead). held_done r g table) read
