-- `AskingHandler::refused` meets its contract. Assumes nothing.
use mathlib.Core.Path.{ap, ◌∙◌}
use Rattle.asking.proofs.Laws.{ended_of}
use Rattle.asking.proofs.AskingHandler.refused.Goals as goal

pub returns : goal.returns
returns c =
    c.ended.ensures ∙ ap (ended_of c.args.self.groups) c.refused_by.ensures
