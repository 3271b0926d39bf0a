-- `host::scenes_new_with_modes` meets its contract. Assumes nothing.
use Rattle.host.proofs.scenes_new_with_modes.Goals as goal

pub returns : goal.returns
returns c =
    c.with_modes.ensures
