-- `host_unchecked::scenes_store_unchecked` meets its contract. Assumes nothing.
use Rattle.host_unchecked.proofs.scenes_store_unchecked.Goals as goal

pub returns : goal.returns
returns c =
    rw (← c.from.ensures) c.store_scene.ensures
