-- `Lifecycle::startup` meets its contract. Assumes nothing.
use mathlib.Core.Path.{ap, ◌∙◌}
use mathlib.Core.Bool.{false}
use Rattle.words.specs.Constants.{success}
use Rattle.state.specs.declared.ScenesState.{ScenesState}
use Rattle.state.specs.Table.{table_of}
use Rattle.state.proofs.Guard.{ungated, result_in}
use Rattle.lifecycle.specs.Lifecycle.{startup}
use Rattle.lifecycle.proofs.Lifecycle.startup.Goals as goal

pub returns : goal.returns
unfolding startup
returns c =
    let a = c.args in
    let t = table_of a.self.state a.keys.now a.times.now a.fields.now a.records.now in
    ap (result_in t.slots t.records) c.unsaved.ensures
    ∙ ap (λ (x : ScenesState). result_in t.slots t.records (record { status = success; save = false; state = x })) c.emptied.ensures
    ∙ (ungated t c.requires).answers _ _
