-- `ScenesState::room_for_fab` meets its contract. Assumes nothing.
use Rattle.std.proofs.Common.{arith}
use Rattle.state.specs.Capacity.{room_for}
use Rattle.state.proofs.ScenesState.room_for_fab.Goals as goal

pub returns-then-size-entries : goal.returns-then-size-entries
unfolding room_for
returns-then-size-entries c =
    omega arith

pub returns : goal.returns
unfolding room_for
returns c =
    omega arith
