-- `ScenesState::invalidate_current` meets its contract. Assumes nothing.
use Rattle.std.proofs.Common.{sym, ap, ◌∙◌}
use Rattle.state.specs.declared.ScenesState.{ScenesState}
use Rattle.state.specs.Table.{current_of, bump_if}
use Rattle.state.specs.Current.{invalidate_current}
use Rattle.state.proofs.ScenesState.invalidate_current.Goals as goal

pub returns-then-clear : goal.returns-then-clear
unfolding invalidate_current
returns-then-clear c =
    let a = c.args in
    let hit = sym c.if-clear.true ∙ c.clear.ensures.0 in
    ap (λ (s : ScenesState). current_of s c.clear.new.records) c.bump_info_dataver.ensures ∙ (λ i. current_of (bump_if (hit i) a.self) (c.clear.ensures.1 i))

pub returns : goal.returns
unfolding invalidate_current
returns c =
    let a = c.args in
    let none = sym c.if-clear.false ∙ c.clear.ensures.0 in
    λ i. current_of (bump_if (none i) a.self) (c.clear.ensures.1 i)
