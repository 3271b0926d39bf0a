-- `script_groups::calls::needs_groups` meets its contract. Assumes nothing.
use mathlib.Core.Path.{sym, ◌∙◌}
use Rattle.script_groups.specs.Calls.{needs_groups}
use Rattle.script_groups.proofs.calls.needs_groups.Goals as goal

pub returns-then-one_of : goal.returns-then-one_of
unfolding needs_groups
returns-then-one_of c =
    rw (sym c.one_of.ensures ∙ c.if-one_of.true)

pub returns : goal.returns
unfolding needs_groups
returns c =
    rw (sym c.one_of.ensures ∙ c.if-one_of.false) c.asks.ensures
