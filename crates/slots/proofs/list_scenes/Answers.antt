-- `slots::list_scenes` meets its contract: the scene ids of the words so far stand in front, and the rest is as it came. Assumes nothing.
use mathlib.Core.Path.{◌≡◌, sym, ap, ◌∙◌}
use mathlib.Core.List.{List}
use Prim.Native.Nat.{ℕ}
use native.Mathlib.Omega.{arith}
use lib.ListN.{length}
use Rattle.slots.specs.Slots.{laid}
use Rattle.slots.proofs.Laws.{laid_none, scenes_none, scenes-length}
use Rattle.slots.proofs.list_scenes.Goals as goal
use Rattle.slots.proofs.list_scenes.Goals.{then-holds, else-holds}
use Rattle.slots.proofs.list_scenes.Invariants.{room, hit, miss}

pub loop-i-init : goal.loop-i-init
loop-i-init c =
    let a = c.args in
    let none = scenes_none a.keys.now a.range in
    record {
      fits = c.requires.range_in_bounds;
      behind = omega arith;
      counted = sym (ap length none);
      listed = laid_none a.ids.now ∙ ap (λ (x : List ℕ). laid x a.ids.now) (sym none);
    }

pub bounds-ids-j : goal.bounds-ids-j
bounds-ids-j c =
    omega (arith, room c.loop-i.invariant (omega arith) (sym c.holds.ensures ∙ c.if-holds.true))

pub loop-i-preserved : goal.loop-i-preserved
loop-i-preserved c =
    let t = c.loop-i.invariant in
    elim c.if-holds.branch [
      | then-holds w ↦ rw (w.j-is, w.ids-is, w.scene_of.ensures) (hit t (omega arith) (sym c.holds.ensures ∙ w.if-holds.true))
      | else-holds w ↦ rw (w.j-is, w.ids-is) (miss t (sym c.holds.ensures ∙ w.if-holds.false))
    ]

pub returns : goal.returns
returns c =
    let e : c.loop-i.i ≡ c.args.n = omega arith in
    rw (← e) (c.loop-i.invariant.counted ∙ scenes-length _ _ _, c.loop-i.invariant.listed)
