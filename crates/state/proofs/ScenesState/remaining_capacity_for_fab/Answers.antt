-- `ScenesState::remaining_capacity_for_fab` meets its contract. Assumes nothing.
use Rattle.std.proofs.Common.{arith}
use Rattle.state.specs.Capacity.{remaining}
use Rattle.state.proofs.ScenesState.remaining_capacity_for_fab.Goals as goal

pub returns : goal.returns
unfolding remaining
returns c =
    omega arith
