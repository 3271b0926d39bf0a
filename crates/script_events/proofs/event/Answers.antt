-- `script_events::event` meets its contract. Assumes nothing.
use native.Mathlib.Omega.{arith}
use mathlib.Core.Path.{◌∙◌}
use borrow.Author.Tests.{ne_eqb}
use Rattle.state.specs.Table.{Table, table_of}
use Rattle.lifecycle.specs.Lifecycle.{scenable_attribute_changed, startup, fail_safe}
use Rattle.script_answers.specs.Done.{plain}
use Rattle.script_events.specs.Events.{event}
use Rattle.script_answers.proofs.DoneLaws.{plain_done}
use Rattle.script_events.proofs.event.Goals as goal

pub returns-in-84 : goal.returns-in-84
unfolding event
returns-in-84 c =
    let came : Table = let a = c.args in
    table_of a.state a.keys.now a.times.now a.fields.now a.records.now in
    let t = came in
    rw c.in-84.is (plain_done _ _ _ _ _ _ (scenable_attribute_changed c.short-endpoint.result t) c.plain.ensures
    c.scenable_attribute_changed.ensures ∙ (λ i. plain (scenable_attribute_changed (c.short-endpoint.ensures i) t)))

pub returns-in-85 : goal.returns-in-85
unfolding event
returns-in-85 c =
    let came : Table = let a = c.args in
    table_of a.state a.keys.now a.times.now a.fields.now a.records.now in
    rw c.in-85.is (plain_done _ _ _ _ _ _ (startup came) c.plain-in-85.ensures c.startup.ensures)

pub returns-in-87 : goal.returns-in-87
unfolding event
returns-in-87 c =
    let came : Table = let a = c.args in
    table_of a.state a.keys.now a.times.now a.fields.now a.records.now in
    rw c.in-87.is (plain_done _ _ _ _ _ _ (fail_safe came) c.plain-in-87.ensures c.fail_safe_commit.ensures)

pub returns-in_default : goal.returns-in_default
unfolding event
returns-in_default c =
    let came : Table = let a = c.args in
    table_of a.state a.keys.now a.times.now a.fields.now a.records.now in
    rw (ne_eqb c.args.read.letter 84 (omega arith), ne_eqb c.args.read.letter 85 (omega arith))
    (plain_done _ _ _ _ _ _ (fail_safe came) c.plain-in_default.ensures c.fail_safe_expiry.ensures)
