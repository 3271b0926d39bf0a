-- `ScenesHandler::read_fabric_scene_info` meets its contract: on a sound table it is the call of this name, and on any other it answers 6. Assumes nothing.
use mathlib.Core.Path.{sym, ◌∙◌}
use Rattle.state.proofs.Guard.{answers_unsound}
use Rattle.reads.specs.Reads.{read_fabric_scene_info}
use Rattle.scenes.proofs.ScenesHandler.read_fabric_scene_info.Goals as goal

pub read_fabric_scene_info-requires : goal.read_fabric_scene_info-requires
read_fabric_scene_info-requires c =
    sym c.is_sound.ensures ∙ c.if-is_sound.true

pub returns : goal.returns
unfolding read_fabric_scene_info
returns c =
    c.absent.ensures ∙ answers_unsound _ (sym c.is_sound.ensures ∙ c.if-is_sound.false) _ _ _
