-- `ScenesState::may_append` meets its contract. Assumes nothing.
use Rattle.std.proofs.Common.{ltb, sym, ap, ◌∙◌}
use Rattle.state.proofs.Capacity.{may_free, may_share}
use Rattle.state.proofs.ScenesState.may_append.Goals as goal

pub returns-then-share_mode : goal.returns-then-share_mode
returns-then-share_mode c =
    let a = c.args in
    ap (ltb 0) c.room_for_fab.ensures ∙ sym (may_share a.self a.keys.now a.fabric (sym c.share_mode.ensures ∙ c.if-share_mode.true))

pub returns : goal.returns
returns c =
    let a = c.args in
    sym (may_free a.self a.keys.now a.fabric (sym c.share_mode.ensures ∙ c.if-share_mode.false))
