-- `host::scenes_is_sound` meets its contract. Assumes nothing.
use Rattle.host.proofs.scenes_is_sound.Goals as goal

pub returns : goal.returns
returns c =
    c.is_sound.ensures
