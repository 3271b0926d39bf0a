-- `script_machine::too_long` meets its contract. Assumes nothing.
use Rattle.script_machine.proofs.too_long.Goals as goal

pub returns : goal.returns
returns c =
    rw c.counted.ensures at c.wrong.ensures
