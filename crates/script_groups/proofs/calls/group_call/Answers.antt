-- `script_groups::calls::group_call` meets its contract. Assumes nothing.
use mathlib.Core.Path.{sym, ◌∙◌}
use Rattle.groups.specs.Groups.{Groups, groups_of}
use Rattle.script_answers.specs.Done.{called_of}
use Rattle.script_groups.specs.Calls.{group_called, group_called_of, group_call}
use Rattle.script_groups.proofs.calls.group_call.Goals as goal

pub returns-then-one_of : goal.returns-then-one_of
unfolding group_call
returns-then-one_of c =
    let held : Groups = let a = c.args in
    groups_of a.asking.groups a.words.now in
    rw (sym c.one_of.ensures ∙ c.if-one_of.true)
    (λ i. group_called (called_of (c.asked_command-answer.ensures i) c.args.buffer.now) held)

pub returns-then-one_of-2 : goal.returns-then-one_of-2
unfolding group_call
returns-then-one_of-2 c =
    let held : Groups = let a = c.args in
    groups_of a.asking.groups a.words.now in
    rw (sym c.one_of.ensures ∙ c.if-one_of.false, sym c.one_of-2.ensures ∙ c.if-one_of-2.true)
    (λ i. group_called (c.asked_query-answer.ensures i) held)

pub returns : goal.returns
unfolding group_call
returns c =
    rw (sym c.one_of.ensures ∙ c.if-one_of.false, sym c.one_of-2.ensures ∙ c.if-one_of-2.false)
    (λ i. group_called_of (c.group_event.ensures i) c.args.buffer.now)
