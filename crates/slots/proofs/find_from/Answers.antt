-- `slots::find_from` meets its contract: no position below i holds the key word. Assumes nothing.
use mathlib.Core.Path.{sym}
use borrow.Author.Tests.{eq-eqb, ne_eqb}
use Rattle.words.proofs.Below.{first_more, first_at}
use Rattle.slots.specs.Slots.{first_key}
use Rattle.slots.proofs.find_from.Goals as goal

pub returns-then-keys-i : goal.returns-then-keys-i
unfolding first_key
returns-then-keys-i c =
    sym (first_at _ c.args.n c.loop-i.i c.loop-i-test.true c.loop-i.invariant (eq-eqb _ _ c.if-keys-i.true))

pub loop-i-preserved : goal.loop-i-preserved
unfolding first_key
loop-i-preserved c =
    first_more _ _ c.loop-i.invariant (ne_eqb _ _ c.if-keys-i.false)
