-- `host::scenes_view` meets its contract. Assumes nothing.
use Rattle.host.proofs.scenes_view.Goals as goal

pub returns : goal.returns
returns c =
    rw (← c.from.ensures) c.view_scene.ensures
