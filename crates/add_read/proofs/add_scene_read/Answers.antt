-- `add_read::add_scene_read` meets its contract: on a sound table it is `add_read_sound`, and on any other it answers 6. Assumes nothing.
use mathlib.Core.Path.{sym, ◌∙◌}
use Rattle.state.proofs.Guard.{unsound-outcome}
use Rattle.add_read.specs.Adding.{add_scene_read}
use Rattle.add_read.proofs.add_scene_read.Goals as goal

pub returns : goal.returns
unfolding add_scene_read
returns c =
    unsound-outcome _ (sym c.is_sound.ensures ∙ c.if-is_sound.false) _ _ _ c.refused_by.ensures
