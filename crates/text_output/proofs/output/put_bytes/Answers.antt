-- `text_output::output::put_bytes` meets its contract. Assumes nothing.
use Rattle.text_output.specs.Writing.{puts}
use Rattle.text_output.proofs.Writing.{bytes_none, bytes_some}
use Rattle.text_output.proofs.output.put_bytes.Goals as goal

pub returns-then-bytes-eq0 : goal.returns-then-bytes-eq0
unfolding puts
returns-then-bytes-eq0 c =
    rw (bytes_none _ c.if-bytes-eq0.true) (cc)

pub returns : goal.returns
unfolding puts
returns c =
    cc (bytes_some _ c.if-bytes-eq0.false)
