-- `ScenesHandler::view_scene` meets its contract: on a sound table it is the call of this name, and on any other it answers 6. Assumes nothing.
use mathlib.Core.Path.{sym, ◌∙◌}
use Rattle.state.proofs.Guard.{answers_unsound}
use Rattle.reads.specs.Reads.{view_scene}
use Rattle.scenes.proofs.ScenesHandler.view_scene.Goals as goal

pub view_scene-requires : goal.view_scene-requires
view_scene-requires c =
    sym c.is_sound.ensures ∙ c.if-is_sound.true

pub returns : goal.returns
unfolding view_scene
returns c =
    c.refused_by.ensures ∙ answers_unsound _ (sym c.is_sound.ensures ∙ c.if-is_sound.false) _ _ _
