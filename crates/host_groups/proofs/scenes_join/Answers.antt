-- `host_groups::scenes_join` meets its contract. Assumes nothing.
use Rattle.host_groups.proofs.scenes_join.Goals as goal

pub returns : goal.returns
returns c =
    c.join.ensures
