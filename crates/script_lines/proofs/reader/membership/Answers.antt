-- `script_lines::reader::membership` meets its contract. Assumes nothing.
use Rattle.text_input.proofs.Reading.{same_read}
use Rattle.script_lines.specs.Lines.{member_word}
use Rattle.script_lines.proofs.reader.membership.Goals as goal
use Rattle.script_lines.proofs.reader.membership.Goals.{else-trace-via-then-trace+else-eq, else-trace-via-else-trace}

pub returns-then-eq : goal.returns-then-eq
unfolding member_word
returns-then-eq c =
    rw (c.if-trace.true, same_read _ _ _ _ c.as_slice.ensures c.if-eq.ensures)

pub returns : goal.returns
unfolding member_word
returns c =
    elim c.else-trace.branch [
      | else-trace-via-then-trace+else-eq w ↦ rw (w.if-trace.true, same_read _ _ _ _ w.as_slice.ensures w.if-eq.ensures) c.number.ensures
      | else-trace-via-else-trace w ↦ rw w.if-trace.false c.number.ensures
    ]
