-- `records::retain` meets its contract: the records kept of the first i stand in front, and the rest is as it came. Assumes nothing.
use Prim.Native.Nat.{ℕ, ◌+◌}
use mathlib.Core.Path.{◌≡◌, sym, ap, ◌∙◌}
use mathlib.Core.List.{List, [], ◌∷◌}
use native.Mathlib.Omega.{arith}
use lib.ListN.{length, get_or, set, length-append}
use Rattle.words.specs.Words.{fabric_of, key_of_record}
use Rattle.records.specs.Records.{others_of, moved}
use Rattle.records.proofs.Laws.{others_none, others_keep, others_skip, moved_none, moved_more}
use Rattle.records.proofs.retain.Goals as goal
use Rattle.records.proofs.retain.Goals.{then-fabric_of-fabric, else-fabric_of-fabric}
use Rattle.records.proofs.retain.Invariants.{here}

pub loop-i-init : goal.loop-i-init
loop-i-init c =
    let none = others_none c.args.records.now c.args.fabric in
    record { behind = omega arith; counted = sym (ap length none); kept = rw none (sym (moved_none _)) }

pub loop-i-preserved : goal.loop-i-preserved
loop-i-preserved c =
    let a = c.args in
    let l = a.records.now in
    let i = c.loop-i.i in
    let t = c.loop-i.invariant in
    let ps = others_of l i a.fabric in
    let word = here _ _ _ _ _ t in
    let fabric : c.fabric_of.result ≡ fabric_of (key_of_record (get_or l i 0)) = c.fabric_of.ensures ∙ ap fabric_of (c.key_of_record.ensures ∙ ap key_of_record word) in
    elim c.if-fabric_of-fabric.branch [
      | then-fabric_of-fabric w ↦
          let keep = others_keep l a.fabric i (λ e. w.if-fabric_of-fabric.true (fabric ∙ e)) in
          record {
            behind = omega arith;
            counted = w.j-is ∙ ap (λ (k : ℕ). k + 1) t.counted ∙ sym (length-append ps (i ∷ [])) ∙ ap length (sym keep);
            kept = w.records-is ∙ (λ d. set (t.kept d) (t.counted d) (word d)) ∙ moved_more ps l i (omega arith) ∙ ap (λ (qs : List ℕ). moved qs l) (sym keep);
          }
      | else-fabric_of-fabric w ↦
          let skip = others_skip l a.fabric i (sym fabric ∙ w.if-fabric_of-fabric.false) in
          record {
            behind = omega arith;
            counted = w.j-is ∙ t.counted ∙ ap length (sym skip);
            kept = rw skip (w.records-is ∙ t.kept);
          }
    ]
