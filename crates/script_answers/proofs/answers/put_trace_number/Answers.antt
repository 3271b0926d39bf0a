-- `script_answers::answers::put_trace_number` meets its contract. Assumes nothing.
use Rattle.text_output.specs.Writing.{puts}
use Rattle.script_answers.proofs.answers.put_trace_number.Goals as goal

pub returns-then-trace : goal.returns-then-trace
returns-then-trace c =
    rw c.if-trace.true c.put_number.ensures

pub returns : goal.returns
unfolding puts
returns c =
    rw c.if-trace.false
