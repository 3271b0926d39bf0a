-- `script_lines::reader::transition` meets its contract. Assumes nothing.
use Rattle.text_input.proofs.Reading.{same_read}
use Rattle.script_lines.specs.Lines.{override_of}
use Rattle.script_lines.proofs.reader.transition.Goals as goal
use Rattle.script_lines.proofs.reader.transition.Goals.{then-eq-via-then-eq, then-eq-via-else-eq+then-eq-2}

pub returns-then-eq : goal.returns-then-eq
unfolding override_of
returns-then-eq c =
    elim c.then-eq.branch [
      | then-eq-via-then-eq w ↦ rw (same_read _ _ _ _ c.as_slice.ensures w.if-eq.ensures)
      | then-eq-via-else-eq+then-eq-2 w ↦ rw (
        same_read _ _ _ _ c.as_slice.ensures w.if-eq.ensures,
        same_read _ _ _ _ w.as_slice-else-eq.ensures w.if-eq-2.ensures,
      )
    ]

pub returns : goal.returns
unfolding override_of
returns c =
    rw (
      same_read _ _ _ _ c.as_slice.ensures c.if-eq.ensures,
      same_read _ _ _ _ c.as_slice-else-eq.ensures c.if-eq-2.ensures,
    )
    c.number.ensures
