-- `script_machine::new_head` meets its contract. Assumes nothing.
use Rattle.std.proofs.Common.{ap, ◌∙◌, eq-eqb, ne_eqb}
use Rattle.state.specs.Table.{new_state_with}
use Rattle.script_lines.specs.Lines.{not_given}
use Rattle.script_machine.proofs.new_head.Goals as goal

pub returns-then-modes-eq-NOT_GIVEN : goal.returns-then-modes-eq-NOT_GIVEN
returns-then-modes-eq-NOT_GIVEN c =
    rw (eq-eqb _ not_given c.if-modes-eq-NOT_GIVEN.true) c.new.ensures

pub returns : goal.returns
returns c =
    rw (ne_eqb _ not_given c.if-modes-eq-NOT_GIVEN.false) (c.with_modes.ensures ∙ ap (new_state_with _) c.byte.ensures)
