-- `Lifecycle::factory_reset` meets its contract. Assumes nothing.
use mathlib.Core.Path.{ap, ◌∙◌}
use mathlib.Core.Bool.{true, false}
use Rattle.words.specs.Constants.{success}
use Rattle.state.specs.declared.ScenesState.{ScenesState}
use Rattle.state.specs.Table.{table_of, bump_if}
use Rattle.state.proofs.Guard.{ungated, result_in}
use Rattle.lifecycle.specs.Lifecycle.{factory_reset}
use Rattle.lifecycle.proofs.Lifecycle.factory_reset.Goals as goal

pub returns : goal.returns
unfolding factory_reset
returns c =
    let a = c.args in
    let t = table_of a.self.state a.keys.now a.times.now a.fields.now a.records.now in
    let state = c.bump_info_dataver.ensures ∙ ap (bump_if true) c.emptied.ensures in
    ap (result_in t.slots t.records) c.unsaved.ensures
    ∙ ap (λ (x : ScenesState). result_in t.slots t.records (record { status = success; save = false; state = x })) state
    ∙ (ungated t c.requires).answers _ _
