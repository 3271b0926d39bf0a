-- `host_groups::scenes_leave` meets its contract. Assumes nothing.
use Rattle.host_groups.proofs.both.scenes_leave.Goals as goal

pub returns : goal.returns
returns c =
    c.leave.ensures
