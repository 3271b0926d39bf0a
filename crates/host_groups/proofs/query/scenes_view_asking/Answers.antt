-- `host_groups::scenes_view_asking` meets its contract. Assumes nothing.
use Rattle.host_groups.proofs.query.scenes_view_asking.Goals as goal

pub returns : goal.returns
returns c =
    c.view_scene.ensures
