-- `ScenesHandler::factory_reset` meets its contract: on a sound table it is the call of this name, and on any other it answers 6. Assumes nothing.
use mathlib.Core.Path.{sym, ◌∙◌}
use Rattle.state.proofs.Guard.{unsound-outcome}
use Rattle.lifecycle.specs.Lifecycle.{factory_reset}
use Rattle.scenes.proofs.ScenesHandler.factory_reset.Goals as goal

pub factory_reset-requires : goal.factory_reset-requires
factory_reset-requires c =
    sym c.is_sound.ensures ∙ c.if-is_sound.true

pub returns : goal.returns
unfolding factory_reset
returns c =
    unsound-outcome _ (sym c.is_sound.ensures ∙ c.if-is_sound.false) _ _ _ c.unsound.ensures
