-- `host_unchecked::scenes_remove_all_unchecked` meets its contract. Assumes nothing.
use Rattle.host_unchecked.proofs.scenes_remove_all_unchecked.Goals as goal

pub returns : goal.returns
returns c =
    rw (← c.from.ensures) c.remove_all_scenes.ensures
