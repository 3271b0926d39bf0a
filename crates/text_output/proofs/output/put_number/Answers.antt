-- `text_output::output::put_number` meets its contract. Assumes nothing.
use Rattle.text_output.specs.Writing.{puts}
use Rattle.text_output.proofs.output.put_number.Goals as goal

pub returns : goal.returns
unfolding puts
returns c =
    cc
