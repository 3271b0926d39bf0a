-- `host::scenes_fail_safe_expiry` meets its contract. Assumes nothing.
use Rattle.host.proofs.scenes_fail_safe_expiry.Goals as goal

pub returns : goal.returns
returns c =
    c.fail_safe_expiry.ensures
