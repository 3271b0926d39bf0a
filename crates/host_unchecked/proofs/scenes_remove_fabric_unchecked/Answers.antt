-- `host_unchecked::scenes_remove_fabric_unchecked` meets its contract. Assumes nothing.
use Rattle.host_unchecked.proofs.scenes_remove_fabric_unchecked.Goals as goal

pub returns : goal.returns
returns c =
    c.remove_for_fabric.ensures
