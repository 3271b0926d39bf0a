-- `host_unchecked::scenes_startup_unchecked` meets its contract. Assumes nothing.
use Rattle.host_unchecked.proofs.scenes_startup_unchecked.Goals as goal

-- the condition is the one that the host meets
pub startup-requires : goal.startup-requires
startup-requires c =
    c.requires

pub returns : goal.returns
returns c =
    c.startup.ensures
