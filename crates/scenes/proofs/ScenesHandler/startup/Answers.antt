-- `ScenesHandler::startup` meets its contract: on a sound table it is the call of this name, and on any other it answers 6. Assumes nothing.
use mathlib.Core.Path.{sym, ◌∙◌}
use Rattle.state.proofs.Guard.{unsound-outcome}
use Rattle.lifecycle.specs.Lifecycle.{startup}
use Rattle.scenes.proofs.ScenesHandler.startup.Goals as goal

pub startup-requires : goal.startup-requires
startup-requires c =
    sym c.is_sound.ensures ∙ c.if-is_sound.true

pub returns : goal.returns
unfolding startup
returns c =
    unsound-outcome _ (sym c.is_sound.ensures ∙ c.if-is_sound.false) _ _ _ c.unsound.ensures
