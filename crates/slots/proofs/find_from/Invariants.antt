-- `slots::find_from` meets its contract: no position below i holds the key word. Assumes nothing.
use mathlib.Core.Path.{◌≡◌}
use Rattle.std.specs.Prelude.{None}
use Rattle.slots.specs.Slots.{first_key}
use Rattle.slots.proofs.find_from.Given as goal

abbrev pub invariant-loop-i : goal.invariant-loop-i
invariant-loop-i l = first_key l.keys l.i l.key ≡ None
