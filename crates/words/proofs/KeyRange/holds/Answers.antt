-- `KeyRange::holds` meets its contract: each arm is the definition's case. Assumes nothing.
use mathlib.Core.Path.{refl}
use Rattle.words.specs.Words.{within}
use Rattle.words.proofs.KeyRange.holds.Goals as goal

pub returns-in-Fabric : goal.returns-in-Fabric
unfolding within
returns-in-Fabric c =
    rw (c.in-Fabric.is, c.fabric_of.ensures) refl

pub returns-in-Endpoint : goal.returns-in-Endpoint
unfolding within
returns-in-Endpoint c =
    rw c.in-Endpoint.is refl

pub returns-in-Group : goal.returns-in-Group
unfolding within
returns-in-Group c =
    rw c.in-Group.is refl
