-- `host_unchecked::scenes_get_membership_unchecked` meets its contract. Assumes nothing.
use Rattle.host_unchecked.proofs.scenes_get_membership_unchecked.Goals as goal

pub returns : goal.returns
returns c =
    rw (← c.from.ensures) c.get_scene_membership.ensures
