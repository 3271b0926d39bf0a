-- `script_sets::has_none` meets its contract. Assumes nothing.
use mathlib.Core.Path.{◌≡◌, sym, ap, ◌∙◌}
use Rattle.field_sets.specs.Reader.{start, next_item}
use Rattle.script_sets.proofs.Showing.{has_end, has_other}
use Rattle.script_sets.proofs.has_none.Goals as goal

pub returns-in-Done : goal.returns-in-Done
returns-in-Done c =
    let first : next_item c.args.bytes.now start ≡ c.next.result = ap (next_item c.args.bytes.now) (sym c.start.ensures) ∙ sym c.next.ensures in
    has_end _ (first ∙ c.in-Done.is)

pub returns-in_default : goal.returns-in_default
returns-in_default c =
    let first : next_item c.args.bytes.now start ≡ c.next.result = ap (next_item c.args.bytes.now) (sym c.start.ensures) ∙ sym c.next.ensures in
    has_other _ _ first c.in_default.not-Done
