-- `host_unchecked::scenes_view_unchecked` meets its contract. Assumes nothing.
use Rattle.host_unchecked.proofs.scenes_view_unchecked.Goals as goal

pub returns : goal.returns
returns c =
    rw (← c.from.ensures) c.view_scene.ensures
