-- `script_asking::command::remove_all` meets its contract. Assumes nothing.
use mathlib.Core.Path.{◌∙◌}
use Rattle.state.specs.Table.{Table, table_of}
use Rattle.groups.specs.Groups.{Groups, groups_of}
use Rattle.asking.specs.Asking.{remove_all_asking}
use Rattle.script_answers.specs.Done.{plain}
use Rattle.script_answers.proofs.DoneLaws.{plain_done}
use Rattle.script_asking.specs.Asked.{remove_all_asked}
use Rattle.script_asking.proofs.command.remove_all.Goals as goal

pub returns : goal.returns
unfolding remove_all_asked
returns c =
    let came : Table = let a = c.args in
    table_of a.asking.state a.keys.now a.times.now a.fields.now a.records.now in
    let held : Groups = let a = c.args in
    groups_of a.asking.groups a.words.now in
    plain_done _ _ _ _ _ _ (remove_all_asking c.group_key-key.result held came) c.plain.ensures c.remove_all_scenes.ensures
    ∙ (λ i. plain (remove_all_asking (c.group_key-key.ensures i) held came))
