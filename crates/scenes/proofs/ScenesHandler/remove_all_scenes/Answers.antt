-- `ScenesHandler::remove_all_scenes` meets its contract: on a sound table it is the call of this name, and on any other it answers 6. Assumes nothing.
use mathlib.Core.Path.{sym, ◌∙◌}
use Rattle.state.proofs.Guard.{unsound-outcome}
use Rattle.commands.specs.Commands.{remove_all_scenes}
use Rattle.scenes.proofs.ScenesHandler.remove_all_scenes.Goals as goal

pub remove_all_scenes-requires : goal.remove_all_scenes-requires
remove_all_scenes-requires c =
    sym c.is_sound.ensures ∙ c.if-is_sound.true

pub returns : goal.returns
unfolding remove_all_scenes
returns c =
    unsound-outcome _ (sym c.is_sound.ensures ∙ c.if-is_sound.false) _ _ _ c.unsound.ensures
