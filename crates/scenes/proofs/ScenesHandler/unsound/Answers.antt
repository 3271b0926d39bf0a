-- `ScenesHandler::unsound` meets its contract. Assumes nothing.
use Rattle.scenes.proofs.ScenesHandler.unsound.Goals as goal

pub returns : goal.returns
returns c =
    c.refused_by.ensures
