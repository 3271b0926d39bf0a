-- `script_commands::store` meets its contract. Assumes nothing.
use mathlib.Core.Path.{ap, ◌∙◌}
use Rattle.state.specs.Table.{Table, table_of}
use Rattle.commands.specs.Counted.{store_counted}
use Rattle.script_commands.specs.Commands.{store_done, store}
use Rattle.script_commands.proofs.store.Goals as goal

pub returns : goal.returns
unfolding store
returns c =
    let came : Table = let a = c.args in
    table_of a.state a.keys.now a.times.now a.fields.now a.records.now in
    ap store_done c.store_scene-done.ensures
    ∙ (λ i. store_done (store_counted (c.scene_key-key.ensures i) (c.member-member.ensures i) (c.part-captured.ensures i) came))
