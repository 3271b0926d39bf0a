-- `script_commands::copy` meets its contract. Assumes nothing.
use mathlib.Core.Path.{◌∙◌}
use Rattle.state.specs.Table.{Table, table_of}
use Rattle.copies.specs.Copy.{copy_scene}
use Rattle.script_answers.specs.Done.{plain}
use Rattle.script_commands.specs.Commands.{copy}
use Rattle.script_answers.proofs.DoneLaws.{plain_done}
use Rattle.script_commands.proofs.copy.Goals as goal

pub returns : goal.returns
unfolding copy
returns c =
    let came : Table = let a = c.args in
    table_of a.state a.keys.now a.times.now a.fields.now a.records.now in
    plain_done _ _ _ _ _ _ (copy_scene c.copy_request-c.result c.member-source.result c.member-target.result came)
    c.plain.ensures c.copy_scene.ensures
    ∙ (λ i. plain (copy_scene (c.copy_request-c.ensures i) (c.member-source.ensures i) (c.member-target.ensures i) came))
