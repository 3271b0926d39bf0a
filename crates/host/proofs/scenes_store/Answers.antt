-- `host::scenes_store` meets its contract. Assumes nothing.
use Rattle.host.proofs.scenes_store.Goals as goal

pub returns : goal.returns
returns c =
    rw (← c.from.ensures) c.store_scene.ensures
