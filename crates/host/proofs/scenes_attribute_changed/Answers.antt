-- `host::scenes_attribute_changed` meets its contract. Assumes nothing.
use Rattle.host.proofs.scenes_attribute_changed.Goals as goal

pub returns : goal.returns
returns c =
    c.scenable_attribute_changed.ensures
