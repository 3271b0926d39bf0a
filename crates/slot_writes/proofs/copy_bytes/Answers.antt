-- `slot_writes::copy_bytes` meets its contract: the first i bytes are copied, and behind the loop the last one. Assumes nothing.
use Prim.Native.Nat.{ℕ, ◌+◌, ◌≤◌, ◌<◌}
use mathlib.Core.Path.{◌≡◌, refl, sym, subst, ◌∙◌}
use mathlib.Core.List.{List}
use native.Mathlib.Omega.{arith}
use lib.ListN.{length, get_or, set}
use Rattle.words.specs.Constants.{stride, max_fields}
use Rattle.slots.specs.Slots.{part}
use Rattle.slots.proofs.Laws.{Copied, copied_none, copied_more, copied-past, copied_all, get_d_part, length_part}
use Rattle.slot_writes.proofs.copy_bytes.Goals as goal

-- the byte at a position that nothing was written to is the one that was there, and it is the next
next-copied : {old l : List ℕ} {from to i : ℕ} (k : ℕ) → i ≡ k → to ≤ from → from + stride ≤ length old → k < stride
    → Copied old to (part from stride old) l i → Copied old to (part from stride old) (set l (to + k) (get_or l (from + k) 0)) (k + 1)
next-copied {old} {l} {from} {to} k reached h n under inv =
    let here : Copied old to (part from stride old) l k = subst (λ (i : ℕ). Copied old to (part from stride old) l i) reached inv in
    let e : get_or l (from + k) 0 ≡ get_or (part from stride old) k 0 = copied-past here (from + k) (omega arith) ∙ sym (get_d_part old from stride k under) in
    rw e (copied_more here (omega (arith, length_part old from stride n)))

pub loop-i-init : goal.loop-i-init
loop-i-init c =
    let a = c.args in
    copied_none _ _ _ (omega (arith, length_part a.fields.now a.from stride (omega arith)))

pub loop-i-preserved : goal.loop-i-preserved
loop-i-preserved c =
    next-copied _ refl (omega arith) (omega arith) (omega arith) c.loop-i.invariant

pub returns : goal.returns
returns c =
    let a = c.args in
    copied_all (next-copied max_fields (omega arith) (omega arith) (omega arith) (omega arith) c.loop-i.invariant)
    (omega (arith, length_part a.fields.now a.from stride (omega arith)))
