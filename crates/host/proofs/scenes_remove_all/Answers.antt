-- `host::scenes_remove_all` meets its contract. Assumes nothing.
use Rattle.host.proofs.scenes_remove_all.Goals as goal

pub returns : goal.returns
returns c =
    rw (← c.from.ensures) c.remove_all_scenes.ensures
