-- `script_events::writes::record_fits` meets its contract. Assumes nothing.
use mathlib.Core.Path.{sym}
use borrow.Author.Tests.{le-ltb, lt-ltb}
use Rattle.words.proofs.Tests.{and_true}
use Rattle.words.specs.Conditions.{all_of}
use Rattle.script_events.specs.Writes.{record_fits}
use Rattle.script_events.proofs.WriteLaws.{nonzero}
use Rattle.script_events.proofs.writes.record_fits.Goals as goal

pub returns-then-fabric-eq0 : goal.returns-then-fabric-eq0
unfolding record_fits all_of
returns-then-fabric-eq0 c =
    rw c.if-fabric-eq0.true

pub returns-then-state-n : goal.returns-then-state-n
unfolding record_fits all_of
returns-then-state-n c =
    simp (nonzero _ c.if-fabric-eq0.false, le-ltb _ _ c.if-state-n.true)

pub returns : goal.returns
unfolding record_fits all_of
returns c =
    simp (nonzero _ c.if-fabric-eq0.false, lt-ltb _ _ c.if-state-n.false) (sym (and_true _))
