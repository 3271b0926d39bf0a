-- `host::scenes_add` meets its contract. Assumes nothing.
use Rattle.host.proofs.scenes_add.Goals as goal

pub returns : goal.returns
returns c =
    rw (← c.from.ensures) c.add_scene.ensures
