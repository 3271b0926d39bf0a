-- `ScenesState::remember_current` meets its contract. Assumes nothing.
use Rattle.std.proofs.Common.{true, ap, ◌∙◌}
use Rattle.records.specs.Records.{Records}
use Rattle.state.specs.Table.{current_of, bump_if, with_record_count}
use Rattle.state.specs.Current.{remember_current}
use Rattle.state.proofs.ScenesState.remember_current.Goals as goal

pub returns : goal.returns
unfolding remember_current
returns c =
    let a = c.args in
    λ i. current_of ((c.bump_info_dataver.ensures ∙ ap (λ (r : Records). bump_if true (with_record_count r.count a.self)) c.remember-count.ensures) i) (c.remember-count.ensures i).words
