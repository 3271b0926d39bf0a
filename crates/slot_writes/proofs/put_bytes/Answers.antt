-- `slot_writes::put_bytes` meets its contract: the first i bytes are copied behind the length byte. Assumes nothing.
use mathlib.Core.Path.{◌∙◌}
use native.Mathlib.Omega.{arith}
use lib.ListN.{length, length-set}
use Rattle.slots.proofs.Laws.{copied_none, copied_more, copied_all, overlay-set}
use Rattle.slot_writes.proofs.put_bytes.Goals as goal

pub loop-i-init : goal.loop-i-init
loop-i-init c =
    let a = c.args in
    copied_none _ _ _ (omega (arith, length-set a.fields.now a.base (length a.ext.now)))

pub bounds-fields-base-in-loop-i : goal.bounds-fields-base-in-loop-i
bounds-fields-base-in-loop-i c =
    let a = c.args in
    omega (arith, length-set a.fields.now a.base (length a.ext.now))

pub loop-i-preserved : goal.loop-i-preserved
loop-i-preserved c =
    copied_more c.loop-i.invariant (omega arith)

pub returns : goal.returns
returns c =
    let a = c.args in
    copied_all c.loop-i.invariant c.loop-i-test.false ∙ overlay-set a.fields.now a.ext.now a.base (length a.ext.now) (omega arith)
