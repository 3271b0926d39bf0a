-- `script_answers::answers::put_modes` meets its contract. Assumes nothing.
use borrow.Author.Tests.{eq-eqb, ne_eqb}
use Rattle.script_lines.specs.Lines.{not_given}
use Rattle.text_output.specs.Writing.{puts}
use Rattle.script_answers.proofs.answers.put_modes.Goals as goal

pub returns-then-modes-eq-NOT_GIVEN : goal.returns-then-modes-eq-NOT_GIVEN
unfolding puts
returns-then-modes-eq-NOT_GIVEN c =
    rw (eq-eqb _ not_given c.if-modes-eq-NOT_GIVEN.true)

pub returns : goal.returns
returns c =
    rw (ne_eqb _ not_given c.if-modes-eq-NOT_GIVEN.false) c.put_number.ensures
