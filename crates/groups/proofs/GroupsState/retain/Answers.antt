-- `GroupsState::retain` meets its contract: the words kept of the first i stand in front, and the rest is as it came. Assumes nothing.
use Prim.Native.Nat.{ℕ, ◌+◌}
use mathlib.Core.Path.{◌≡◌, sym, ap, ◌∙◌}
use mathlib.Core.List.{List, [], ◌∷◌}
use native.Mathlib.Omega.{arith}
use lib.ListN.{length, get_or, set, length-append}
use Rattle.words.specs.Words.{within}
use Rattle.slots.specs.Slots.{outside}
use Rattle.slots.proofs.Laws.{outside_none, outside-keep, outside_skip}
use Rattle.records.specs.Records.{moved}
use Rattle.records.proofs.Laws.{moved_none, moved_more}
use Rattle.groups.specs.Groups.{groups_of, with_held, retain_groups}
use Rattle.groups.proofs.GroupsState.retain.Goals as goal
use Rattle.groups.proofs.GroupsState.retain.Goals.{then-not-holds, else-not-holds}
use Rattle.groups.proofs.GroupsState.retain.Invariants.{here}

pub loop-i-init : goal.loop-i-init
loop-i-init c =
    let none = outside_none c.args.words.now c.args.range in
    record { behind = omega arith; counted = sym (ap length none); kept = rw none (sym (moved_none _)) }

pub loop-i-preserved : goal.loop-i-preserved
loop-i-preserved c =
    let a = c.args in
    let l = a.words.now in
    let i = c.loop-i.i in
    let t = c.loop-i.invariant in
    let ps = outside l i a.range in
    let word = here _ _ _ _ _ t in
    let tested : c.holds.result ≡ within a.range (get_or l i 0) = c.holds.ensures ∙ ap (within a.range) word in
    elim c.if-not-holds.branch [
      | then-not-holds w ↦
          let keep = outside-keep l a.range i (sym tested ∙ w.if-not-holds.true) in
          record {
            behind = omega arith;
            counted = w.j-is ∙ ap (λ (k : ℕ). k + 1) t.counted ∙ sym (length-append ps (i ∷ [])) ∙ ap length (sym keep);
            kept = w.words-is ∙ (λ d. set (t.kept d) (t.counted d) (word d)) ∙ moved_more ps l i (omega arith) ∙ ap (λ (qs : List ℕ). moved qs l) (sym keep);
          }
      | else-not-holds w ↦
          let skip = outside_skip l a.range i (sym tested ∙ w.if-not-holds.false) in
          record {
            behind = omega arith;
            counted = w.j-is ∙ t.counted ∙ ap length (sym skip);
            kept = rw skip (w.words-is ∙ t.kept);
          }
    ]

pub returns : goal.returns
unfolding retain_groups
returns c =
    let e : c.loop-i.i ≡ c.args.self.held = omega arith in
    rw (← e) (λ d. groups_of (with_held (c.loop-i.invariant.counted d)) (c.loop-i.invariant.kept d))
