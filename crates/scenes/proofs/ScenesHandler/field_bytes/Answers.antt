-- `ScenesHandler::field_bytes` meets its contract: on a sound table it is the call of this name, and on any other no bytes. Assumes nothing.
use mathlib.Core.Path.{sym, ◌∙◌}
use Rattle.reads.specs.Reads.{field_bytes}
use Rattle.scenes.proofs.ScenesHandler.field_bytes.Goals as goal

pub field_bytes-requires : goal.field_bytes-requires
field_bytes-requires c =
    sym c.is_sound.ensures ∙ c.if-is_sound.true

pub returns : goal.returns
unfolding field_bytes
returns c =
    simp (sym c.is_sound.ensures ∙ c.if-is_sound.false)
