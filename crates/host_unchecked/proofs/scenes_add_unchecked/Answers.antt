-- `host_unchecked::scenes_add_unchecked` meets its contract. Assumes nothing.
use Rattle.host_unchecked.proofs.scenes_add_unchecked.Goals as goal

pub returns : goal.returns
returns c =
    rw (← c.from.ensures) c.add_scene.ensures
