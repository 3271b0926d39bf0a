-- `text_output::output::put_hex_byte` meets its contract. Assumes nothing.
use Rattle.text_output.specs.Writing.{puts}
use Rattle.text_output.proofs.output.put_hex_byte.Goals as goal

pub returns : goal.returns
unfolding puts
returns c =
    cc
