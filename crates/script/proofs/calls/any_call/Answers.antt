-- `script::calls::any_call` meets its contract. Assumes nothing.
use mathlib.Core.Path.{sym, ◌∙◌}
use Rattle.groups.specs.Groups.{groups_of}
use Rattle.script_groups.specs.Calls.{group_called}
use Rattle.script.specs.Calls.{any_call}
use Rattle.script.proofs.calls.any_call.Goals as goal

pub returns-then-needs_groups : goal.returns-then-needs_groups
unfolding any_call
returns-then-needs_groups c =
    rw (sym c.needs_groups.ensures ∙ c.if-needs_groups.true) c.group_call.ensures

pub returns : goal.returns
unfolding any_call
returns c =
    let a = c.args in
    rw (sym c.needs_groups.ensures ∙ c.if-needs_groups.false)
    (λ i. group_called (c.call-answer.ensures i) (groups_of a.asking.groups a.words.now))
