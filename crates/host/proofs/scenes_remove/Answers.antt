-- `host::scenes_remove` meets its contract. Assumes nothing.
use Rattle.host.proofs.scenes_remove.Goals as goal

pub returns : goal.returns
returns c =
    rw (← c.from.ensures) c.remove_scene.ensures
