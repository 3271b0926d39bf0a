-- `script_asking::query::asked_query` meets its contract. Assumes nothing.
use native.Mathlib.Omega.{arith}
use borrow.Author.Tests.{ne_eqb}
use Rattle.script_answers.specs.Done.{called_of}
use Rattle.script_asking.specs.Asked.{asked_query}
use Rattle.script_asking.proofs.query.asked_query.Goals as goal

pub returns-in-86 : goal.returns-in-86
unfolding asked_query
returns-in-86 c =
    rw c.in-86.is (λ i. called_of (c.view.ensures i) c.args.buffer.now)

pub returns-in-76 : goal.returns-in-76
unfolding asked_query
returns-in-76 c =
    rw c.in-76.is (λ i. called_of (c.recall.ensures i) c.args.buffer.now)

pub returns-in_default : goal.returns-in_default
unfolding asked_query
returns-in_default c =
    rw (ne_eqb c.args.read.letter 86 (omega arith), ne_eqb c.args.read.letter 76 (omega arith)) c.list_in.ensures
