-- `image_gate::record_clashes` meets its contract. Assumes nothing.
use mathlib.Core.Path.{sym, ◌∙◌}
use native.Mathlib.Omega.{arith}
use Rattle.image_gate.proofs.record_clashes.Goals as goal

pub returns-then-is_barred : goal.returns-then-is_barred
returns-then-is_barred c =
    rw (← c.key_of_record-key.ensures, sym c.is_barred.ensures ∙ c.if-is_barred.true)

pub overflow_cast-fabric : goal.overflow_cast-fabric
overflow_cast-fabric c =
    omega (arith, c.fabric_of-fabric.ensures, c.key_of_record-key.ensures)

pub returns : goal.returns
returns c =
    rw (
      ← c.key_of_record-key.ensures,
      sym c.is_barred.ensures ∙ c.if-is_barred.false,
      ← c.fabric_of-fabric.ensures,
      ← c.endpoint_of.ensures,
      ← c.find.ensures,
    ) c.is_some.ensures
