-- `image_gate::key_clashes` meets its contract. Assumes nothing.
use mathlib.Core.Path.{sym, ◌∙◌}
use Rattle.image_gate.proofs.key_clashes.Goals as goal

pub returns-then-is_barred : goal.returns-then-is_barred
returns-then-is_barred c =
    rw (sym c.is_barred.ensures ∙ c.if-is_barred.true)

pub returns : goal.returns
returns c =
    rw (sym c.is_barred.ensures ∙ c.if-is_barred.false, ← c.find.ensures) c.is_some.ensures
