-- `slot_writes::retain` meets its contract: those kept of the first i entries stand in front, and the rest is as it came. Assumes nothing.
use Prim.Native.Nat.{ℕ}
use mathlib.Core.Path.{sym, ap, ◌∙◌}
use mathlib.Core.List.{List}
use native.Mathlib.Omega.{arith}
use lib.ListN.{length}
use Rattle.slots.specs.Slots.{slots_of, gathered}
use Rattle.slots.proofs.Laws.{outside_none, gathered_none}
use Rattle.slot_writes.proofs.retain.Goals as goal
use Rattle.slot_writes.proofs.retain.Goals.{then-not-holds, else-not-holds}
use Rattle.slot_writes.proofs.retain.Invariants.{turn, skip, keep}

pub loop-i-init : goal.loop-i-init
loop-i-init c =
    let a = c.args in
    let s₀ = slots_of a.keys.now a.times.now a.fields.now in
    let none = outside_none s₀.keys a.range in
    turn (record { keys = omega arith; times = omega arith; fields = omega arith }) (sym (ap length none))
    (gathered_none s₀ ∙ ap (λ (ps : List ℕ). gathered ps s₀) (sym none))

pub loop-i-preserved : goal.loop-i-preserved
loop-i-preserved c =
    let t = c.loop-i.invariant in
    elim c.if-not-holds.branch [
      | then-not-holds w ↦
          rw w.j-is (keep t (omega arith) (sym c.holds.ensures ∙ w.if-not-holds.true) ((λ d. slots_of (w.keys-is d) (w.times-is d) (w.fields-is d)) ∙ w.copy_slot.ensures))
      | else-not-holds w ↦
          rw (w.j-is, w.keys-is, w.times-is, w.fields-is) (skip t (sym c.holds.ensures ∙ w.if-not-holds.false))
    ]
