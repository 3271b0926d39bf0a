-- `script_machine::Machine::sized` meets its contract. Assumes nothing.
use Rattle.script_machine.proofs.Machine.sized.Goals as goal

pub returns : goal.returns
returns c =
    record { machine = cc; output = c.put_size.ensures }
