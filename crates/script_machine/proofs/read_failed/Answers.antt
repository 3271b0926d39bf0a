-- `script_machine::read_failed` meets its contract. Assumes nothing.
use Rattle.script_machine.proofs.read_failed.Goals as goal

pub returns : goal.returns
returns c =
    rw c.counted.ensures at c.wrong.ensures
