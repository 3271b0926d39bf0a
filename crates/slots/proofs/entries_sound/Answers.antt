-- `slots::entries_sound` meets its contract. Assumes nothing.
use native.Mathlib.Omega.{arith}
use Rattle.words.proofs.Below.{every_none}
use Rattle.slots.proofs.entries_sound.Goals as goal

pub sound_blocks-from-requires : goal.sound_blocks-from-requires
sound_blocks-from-requires c =
    record { from_le_n = omega arith; n_in_bounds = omega arith; stride_in_bounds = omega arith; from_value = every_none _ }
