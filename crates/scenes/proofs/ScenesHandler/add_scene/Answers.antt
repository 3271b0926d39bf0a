-- `ScenesHandler::add_scene` meets its contract: on a sound table it is the call of this name, and on any other it answers 6. Assumes nothing.
use mathlib.Core.Path.{sym, ◌∙◌}
use Rattle.state.proofs.Guard.{unsound-outcome}
use Rattle.commands.specs.Commands.{add_scene}
use Rattle.scenes.proofs.ScenesHandler.add_scene.Goals as goal

pub add_scene-requires : goal.add_scene-requires
add_scene-requires c =
    sym c.is_sound.ensures ∙ c.if-is_sound.true

pub returns : goal.returns
unfolding add_scene
returns c =
    unsound-outcome _ (sym c.is_sound.ensures ∙ c.if-is_sound.false) _ _ _ c.unsound.ensures
