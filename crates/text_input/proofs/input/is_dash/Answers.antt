-- `text_input::input::is_dash` meets its contract. Assumes nothing.
use Rattle.std.proofs.Common.{eq-eqb, ne_eqb}
use Rattle.text_input.specs.Reading.{dash_of}
use Rattle.text_input.proofs.Reading.{same_read}
use Rattle.text_input.proofs.input.is_dash.Goals as goal

pub returns-then-word-eq0 : goal.returns-then-word-eq0
unfolding dash_of
returns-then-word-eq0 c =
    rw (eq-eqb _ _ c.if-word-eq0.true)

pub returns : goal.returns
unfolding dash_of
returns c =
    rw (ne_eqb _ _ c.if-word-eq0.false, same_read _ _ _ _ c.as_slice.ensures c.eq.ensures)
