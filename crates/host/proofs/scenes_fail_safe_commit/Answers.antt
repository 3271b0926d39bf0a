-- `host::scenes_fail_safe_commit` meets its contract. Assumes nothing.
use Rattle.host.proofs.scenes_fail_safe_commit.Goals as goal

pub returns : goal.returns
returns c =
    c.fail_safe_commit.ensures
