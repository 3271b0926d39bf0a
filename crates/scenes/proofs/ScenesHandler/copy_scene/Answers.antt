-- `ScenesHandler::copy_scene` meets its contract: on a sound table it is the call of this name, and on any other it answers 6. Assumes nothing.
use mathlib.Core.Path.{sym, ◌∙◌}
use Rattle.state.proofs.Guard.{unsound-outcome}
use Rattle.copies.specs.Copy.{copy_scene}
use Rattle.scenes.proofs.ScenesHandler.copy_scene.Goals as goal

pub copy_scene-requires : goal.copy_scene-requires
copy_scene-requires c =
    sym c.is_sound.ensures ∙ c.if-is_sound.true

pub returns : goal.returns
unfolding copy_scene
returns c =
    unsound-outcome _ (sym c.is_sound.ensures ∙ c.if-is_sound.false) _ _ _ c.unsound.ensures
