-- `host::scenes_save_image` meets its contract. Assumes nothing.
use Rattle.host.proofs.scenes_save_image.Goals as goal

pub returns : goal.returns
returns c =
    c.save_image.ensures
