-- `host::scenes_version` meets its contract. Assumes nothing.
use mathlib.Core.Path.{refl}
use Rattle.host.proofs.scenes_version.Goals as goal

pub returns : goal.returns
returns c =
    refl
