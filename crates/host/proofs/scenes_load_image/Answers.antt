-- `host::scenes_load_image` meets its contract. Assumes nothing.
use Rattle.host.proofs.scenes_load_image.Goals as goal

pub returns : goal.returns
returns c =
    c.load_image.ensures
