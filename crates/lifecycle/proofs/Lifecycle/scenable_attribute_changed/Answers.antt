-- `Lifecycle::scenable_attribute_changed` meets its contract. Assumes nothing.
use mathlib.Core.Path.{ap, ◌∙◌}
use mathlib.Core.Bool.{false}
use native.Mathlib.Omega.{arith}
use Rattle.words.specs.Constants.{success}
use Rattle.records.specs.declared.Scope.TheVariants.{Endpoint}
use Rattle.state.specs.Table.{Table, table_of}
use Rattle.state.specs.Current.{invalidate_current}
use Rattle.state.specs.Answer.{result_of}
use Rattle.state.proofs.Guard.{ungated, result_in}
use Rattle.state.proofs.Changes.{changed_current}
use Rattle.lifecycle.specs.Lifecycle.{scenable_attribute_changed}
use Rattle.lifecycle.proofs.Lifecycle.scenable_attribute_changed.Goals as goal

pub invalidate_current-requires : goal.invalidate_current-requires
invalidate_current-requires c =
    let came : Table = let a = c.args in
    table_of a.self.state a.keys.now a.times.now a.fields.now a.records.now in
    let h = (ungated came c.requires).room in
    omega arith

pub returns : goal.returns
unfolding scenable_attribute_changed
returns c =
    let came : Table = let a = c.args in
    table_of a.self.state a.keys.now a.times.now a.fields.now a.records.now in
    let t = came in
    ap (result_in t.slots _) c.unsaved.ensures
    ∙ ap (result_of success false) (changed_current t (invalidate_current (Endpoint c.args.endpoint)) _ _ c.invalidate_current.ensures)
    ∙ (ungated t c.requires).answers _ _
