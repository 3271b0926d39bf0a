-- `script_reads::query` meets its contract. Assumes nothing.
use native.Mathlib.Omega.{arith}
use borrow.Author.Tests.{ne_eqb}
use Rattle.script_answers.specs.Done.{called_of}
use Rattle.script_reads.specs.Reads.{query}
use Rattle.script_reads.proofs.query.Goals as goal

pub returns-in-86 : goal.returns-in-86
unfolding query
returns-in-86 c =
    rw c.in-86.is (λ i. called_of (c.view.ensures i) c.args.buffer.now)

pub returns-in-76 : goal.returns-in-76
unfolding query
returns-in-76 c =
    rw c.in-76.is (λ i. called_of (c.recall.ensures i) c.args.buffer.now)

pub returns-in-77 : goal.returns-in-77
unfolding query
returns-in-77 c =
    rw c.in-77.is c.list_in.ensures

pub returns-in_default : goal.returns-in_default
unfolding query
returns-in_default c =
    rw (ne_eqb c.args.read.letter 86 (omega arith), ne_eqb c.args.read.letter 76 (omega arith), ne_eqb c.args.read.letter 77 (omega arith))
    (λ i. called_of (c.info.ensures i) c.args.buffer.now)
