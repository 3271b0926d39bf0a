-- `host_groups::scenes_factory_reset_and_groups` meets its contract. Assumes nothing.
use Rattle.host_groups.proofs.both.scenes_factory_reset_and_groups.Goals as goal

pub returns : goal.returns
returns c =
    c.factory_reset.ensures
