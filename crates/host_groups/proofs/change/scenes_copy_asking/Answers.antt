-- `host_groups::scenes_copy_asking` meets its contract. Assumes nothing.
use Rattle.host_groups.proofs.change.scenes_copy_asking.Goals as goal

pub returns : goal.returns
returns c =
    c.copy_scene.ensures
