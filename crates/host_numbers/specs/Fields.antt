-- Field bytes as an offset and a length in the lent slice, since no reference crosses the boundary: document 01, "Builders go" in "Forms
-- that change first".
use Rattle.std.specs.Prelude.{ℕ, ◌+◌, ◌*◌, cond, eqb, length}
use Rattle.words.specs.Constants.{stride}
use Rattle.state.specs.Table.{Table}
use Rattle.reads.specs.Reads.{field_bytes}
use Rattle.host_numbers.specs.declared.FieldBytes.{FieldBytes}

-- so many bytes behind the entry's length byte; 0 and 0 where there are none
unfoldable pub place_of : ℕ → ℕ → FieldBytes
place_of at len = cond (eqb len 0) (record { offset = 0; len = 0 }) (record { offset = at * stride + 1; len = len })

-- as many as `field_bytes` has
unfoldable pub field_place : ℕ → Table → FieldBytes
field_place at t = place_of at (length (field_bytes at t))
