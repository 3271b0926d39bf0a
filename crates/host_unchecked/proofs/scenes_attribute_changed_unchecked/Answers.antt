-- `host_unchecked::scenes_attribute_changed_unchecked` meets its contract. Assumes nothing.
use Rattle.host_unchecked.proofs.scenes_attribute_changed_unchecked.Goals as goal

pub returns : goal.returns
returns c =
    c.scenable_attribute_changed.ensures
