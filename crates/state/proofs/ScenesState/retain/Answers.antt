-- `ScenesState::retain` meets its contract. Assumes nothing.
use Rattle.state.specs.Table.{with_entry_count}
use Rattle.state.specs.Change.{retain_outside}
use Rattle.state.proofs.ScenesState.retain.Goals as goal

pub returns : goal.returns
unfolding retain_outside
returns c =
    let a = c.args in
    λ i. record { state = with_entry_count (c.retain-left.ensures.0 i) a.self; slots = c.retain-left.ensures.1 i }
