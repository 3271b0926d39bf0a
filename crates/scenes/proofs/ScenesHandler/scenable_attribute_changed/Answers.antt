-- `ScenesHandler::scenable_attribute_changed` meets its contract: on a sound table it is the call of this name, and on any other it answers 6. Assumes nothing.
use mathlib.Core.Path.{sym, ◌∙◌}
use Rattle.state.proofs.Guard.{unsound-outcome}
use Rattle.lifecycle.specs.Lifecycle.{scenable_attribute_changed}
use Rattle.scenes.proofs.ScenesHandler.scenable_attribute_changed.Goals as goal

pub scenable_attribute_changed-requires : goal.scenable_attribute_changed-requires
scenable_attribute_changed-requires c =
    sym c.is_sound.ensures ∙ c.if-is_sound.true

pub returns : goal.returns
unfolding scenable_attribute_changed
returns c =
    unsound-outcome _ (sym c.is_sound.ensures ∙ c.if-is_sound.false) _ _ _ c.unsound.ensures
