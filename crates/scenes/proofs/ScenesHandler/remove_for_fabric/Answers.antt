-- `ScenesHandler::remove_for_fabric` meets its contract: on a sound table it is the call of this name, and on any other it answers 6. Assumes nothing.
use mathlib.Core.Path.{sym, ◌∙◌}
use Rattle.state.proofs.Guard.{unsound-outcome}
use Rattle.lifecycle.specs.Lifecycle.{remove_for_fabric}
use Rattle.scenes.proofs.ScenesHandler.remove_for_fabric.Goals as goal

pub remove_for_fabric-requires : goal.remove_for_fabric-requires
remove_for_fabric-requires c =
    sym c.is_sound.ensures ∙ c.if-is_sound.true

pub returns : goal.returns
unfolding remove_for_fabric
returns c =
    unsound-outcome _ (sym c.is_sound.ensures ∙ c.if-is_sound.false) _ _ _ c.unsound.ensures
