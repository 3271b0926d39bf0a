-- `host_unchecked::scenes_save_image_unchecked` meets its contract. Assumes nothing.
use Rattle.host_unchecked.proofs.scenes_save_image_unchecked.Goals as goal

-- the condition is the one that the host meets
pub save_sound-requires : goal.save_sound-requires
save_sound-requires c =
    c.requires

pub returns : goal.returns
returns c =
    c.save_sound.ensures
