-- `script_asking::command::copy` meets its contract. Assumes nothing.
use mathlib.Core.Path.{◌∙◌}
use Rattle.state.specs.Table.{Table, table_of}
use Rattle.groups.specs.Groups.{Groups, groups_of}
use Rattle.asking.specs.Asking.{copy_asking}
use Rattle.script_answers.specs.Done.{plain}
use Rattle.script_answers.proofs.DoneLaws.{plain_done}
use Rattle.script_asking.specs.Asked.{copy_asked}
use Rattle.script_asking.proofs.command.copy.Goals as goal

pub returns : goal.returns
unfolding copy_asked
returns c =
    let came : Table = let a = c.args in
    table_of a.asking.state a.keys.now a.times.now a.fields.now a.records.now in
    let held : Groups = let a = c.args in
    groups_of a.asking.groups a.words.now in
    plain_done _ _ _ _ _ _ (copy_asking c.copy_request-c.result held came) c.plain.ensures c.copy_scene.ensures
    ∙ (λ i. plain (copy_asking (c.copy_request-c.ensures i) held came))
