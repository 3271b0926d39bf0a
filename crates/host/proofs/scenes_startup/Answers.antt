-- `host::scenes_startup` meets its contract. Assumes nothing.
use Rattle.host.proofs.scenes_startup.Goals as goal

pub returns : goal.returns
returns c =
    c.startup.ensures
