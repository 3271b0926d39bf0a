-- What the letters T, U, W and E ask of the table, and what it answers. Letters are in ASCII codes.
use Rattle.std.specs.Prelude.{ℕ, cond, List, eqb}
use Rattle.state.specs.Table.{Table}
use Rattle.lifecycle.specs.Lifecycle.{scenable_attribute_changed, startup, fail_safe}
use Rattle.script_lines.specs.Values.{short, value_at}
use Rattle.script_answers.specs.Done.{Done, plain}

-- T, U, W, and E for any other
unfoldable pub event : ℕ → List ℕ → Table → Done
event letter values t =
    cond (eqb letter 84) (plain (scenable_attribute_changed (short (value_at values 0)) t))
    (cond (eqb letter 85) (plain (startup t))
    (plain (fail_safe t)))
