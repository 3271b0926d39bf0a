-- `ScenesHandler::fail_safe_commit` meets its contract: on a sound table it is the call of this name, and on any other it answers 6. Assumes nothing.
use mathlib.Core.Path.{sym, ◌∙◌}
use Rattle.state.proofs.Guard.{unsound-outcome}
use Rattle.lifecycle.specs.Lifecycle.{fail_safe}
use Rattle.scenes.proofs.ScenesHandler.fail_safe_commit.Goals as goal

pub fail_safe_commit-requires : goal.fail_safe_commit-requires
fail_safe_commit-requires c =
    sym c.is_sound.ensures ∙ c.if-is_sound.true

pub returns : goal.returns
unfolding fail_safe
returns c =
    unsound-outcome _ (sym c.is_sound.ensures ∙ c.if-is_sound.false) _ _ _ c.unsound.ensures
