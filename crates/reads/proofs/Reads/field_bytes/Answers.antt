-- `Reads::field_bytes` meets its contract. Assumes nothing.
use mathlib.Core.Path.{◌∙◌}
use native.Mathlib.Omega.{arith}
use borrow.Author.Tests.{lt-ltb, le-ltb}
use Rattle.state.proofs.Laws.{sound-room, sound-length}
use Rattle.reads.specs.Reads.{field_bytes}
use Rattle.reads.proofs.Reads.field_bytes.Goals as goal

pub field_bytes-requires : goal.field_bytes-requires
field_bytes-requires c =
    let room = sound-room _ c.requires in
    record { stride_in_bounds = omega arith; at_bound = sound-length _ _ c.requires c.if-at-n.true }

pub returns-then-at-n : goal.returns-then-at-n
unfolding field_bytes
returns-then-at-n c =
    c.field_bytes.ensures ∙ simp (c.requires, lt-ltb _ _ c.if-at-n.true)

pub returns : goal.returns
unfolding field_bytes
returns c =
    simp (c.requires, le-ltb _ _ c.if-at-n.false)
