-- `host::scenes_new` meets its contract. Assumes nothing.
use Rattle.host.proofs.scenes_new.Goals as goal

pub returns : goal.returns
returns c =
    c.new.ensures
