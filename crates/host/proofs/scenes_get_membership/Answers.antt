-- `host::scenes_get_membership` meets its contract. Assumes nothing.
use Rattle.host.proofs.scenes_get_membership.Goals as goal

pub returns : goal.returns
returns c =
    rw (← c.from.ensures) c.get_scene_membership.ensures
