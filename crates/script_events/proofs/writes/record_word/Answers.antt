-- `script_events::writes::record_word` meets its contract. Assumes nothing.
use borrow.Author.Tests.{ne_eqb}
use Rattle.script_events.proofs.writes.record_word.Goals as goal

pub returns-then-valid-eq0 : goal.returns-then-valid-eq0
returns-then-valid-eq0 c =
    rw c.if-valid-eq0.true c.word.ensures

pub returns : goal.returns
returns c =
    rw (ne_eqb _ _ c.if-valid-eq0.false) c.valid_record.ensures
