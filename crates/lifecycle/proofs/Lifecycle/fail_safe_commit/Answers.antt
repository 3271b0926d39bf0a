-- `Lifecycle::fail_safe_commit` meets its contract. Assumes nothing.
use mathlib.Core.Path.{ap, ◌∙◌}
use Rattle.state.specs.Table.{table_of}
use Rattle.state.proofs.Guard.{ungated, result_in}
use Rattle.lifecycle.specs.Lifecycle.{fail_safe}
use Rattle.lifecycle.proofs.Lifecycle.fail_safe_commit.Goals as goal

pub returns : goal.returns
unfolding fail_safe
returns c =
    let a = c.args in
    let t = table_of a.self.state a.keys.now a.times.now a.fields.now a.records.now in
    ap (result_in t.slots t.records) c.unsaved.ensures ∙ (ungated t c.requires).answers _ _
