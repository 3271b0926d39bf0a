-- `slot_writes::copy_slot` meets its contract. Assumes nothing.
use Prim.Native.Nat.{ℕ}
use mathlib.Core.Path.{◌≡◌, sym, ap, ◌∙◌}
use native.Mathlib.Omega.{arith}
use Rattle.slots.specs.Slots.{slots_of, copy_slot}
use Rattle.slots.proofs.Laws.{copy-same}
use Rattle.slot_writes.proofs.copy_slot.Goals as goal

pub returns-then-to-from : goal.returns-then-to-from
unfolding copy_slot
returns-then-to-from c =
    ap (slots_of _ _) c.copy_bytes.ensures

pub returns-else-to-from : goal.returns-else-to-from
returns-else-to-from c =
    let a = c.args in
    let s = slots_of a.keys.now a.times.now a.fields.now in
    let e : a.to ≡ a.from = omega arith in
    sym (ap (λ (t : ℕ). copy_slot a.from t s) e ∙ copy-same s a.from (omega arith))
