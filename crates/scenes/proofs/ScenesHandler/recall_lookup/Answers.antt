-- `ScenesHandler::recall_lookup` meets its contract: on a sound table it is the call of this name, and on any other it answers 6. Assumes nothing.
use mathlib.Core.Path.{sym, ◌∙◌}
use Rattle.state.proofs.Guard.{answers_unsound}
use Rattle.reads.specs.Reads.{recall_lookup}
use Rattle.scenes.proofs.ScenesHandler.recall_lookup.Goals as goal

pub recall_lookup-requires : goal.recall_lookup-requires
recall_lookup-requires c =
    sym c.is_sound.ensures ∙ c.if-is_sound.true

pub returns : goal.returns
unfolding recall_lookup
returns c =
    c.refused_by.ensures ∙ answers_unsound _ (sym c.is_sound.ensures ∙ c.if-is_sound.false) _ _ _
