-- `host::scenes_factory_reset` meets its contract. Assumes nothing.
use Rattle.host.proofs.scenes_factory_reset.Goals as goal

pub returns : goal.returns
returns c =
    c.factory_reset.ensures
