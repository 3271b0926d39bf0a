-- `ScenesState::swap_remove` meets its contract. Assumes nothing.
use Rattle.std.proofs.Common.{◌-◌}
use Rattle.state.specs.Table.{with_entry_count}
use Rattle.state.specs.Change.{swap_remove}
use Rattle.state.proofs.ScenesState.swap_remove.Goals as goal

pub returns : goal.returns
unfolding swap_remove
returns c =
    let a = c.args in
    λ i. record { state = with_entry_count (a.self.entries - 1) a.self; slots = c.copy_slot.ensures i }
