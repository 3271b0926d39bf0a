-- `image_load::load_image` meets its contract: on a sound table it is `load_sound`, and on any other it answers 6. Assumes nothing.
use mathlib.Core.Path.{sym, ◌∙◌}
use Rattle.image_load.proofs.Loads.{load-unsound}
use Rattle.image_load.proofs.load_image.Goals as goal

pub returns : goal.returns
returns c =
    load-unsound _ _ (sym c.is_sound.ensures ∙ c.if-is_sound.false) _ c.refused_by.ensures
