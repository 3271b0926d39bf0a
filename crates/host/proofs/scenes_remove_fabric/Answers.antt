-- `host::scenes_remove_fabric` meets its contract. Assumes nothing.
use Rattle.host.proofs.scenes_remove_fabric.Goals as goal

pub returns : goal.returns
returns c =
    c.remove_for_fabric.ensures
