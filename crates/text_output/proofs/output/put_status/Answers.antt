-- `text_output::output::put_status` meets its contract. Assumes nothing.
use mathlib.Core.Path.{sym, ◌∙◌}
use Rattle.text_output.specs.Writing.{puts, status_text}
use Rattle.text_output.proofs.output.put_status.Goals as goal

pub returns-then-is_fault : goal.returns-then-is_fault
unfolding puts status_text
returns-then-is_fault c =
    rw (sym c.is_fault.ensures ∙ c.if-is_fault.true) (cc)

pub returns : goal.returns
unfolding puts status_text
returns c =
    rw (sym c.is_fault.ensures ∙ c.if-is_fault.false) (cc)
