-- `records::clear` meets its contract: the words so far are invalidated, and `any` says whether one was hit. Assumes nothing.
use Prim.Native.Nat.{ℕ, ◌<◌}
use mathlib.Core.Path.{◌≡◌, sym, ap, ◌∙◌}
use mathlib.Core.List.{List, ◌++◌}
use native.Mathlib.Omega.{arith}
use lib.ListN.{set, take, drop}
use lib.Seq.{length-take-le, get_or-take}
use Rattle.std.proofs.lemmas.List.{set-get_or}
use Rattle.words.specs.Words.{key_of_record}
use Rattle.words.proofs.Below.{any_none, any_hit_lem, any_miss}
use Rattle.records.specs.Records.{hits, any_hit}
use Rattle.records.proofs.Laws.{invalidated_none, invalidated_hit, invalidated_miss, invalidated_front}
use Rattle.records.proofs.clear.Goals as goal
use Rattle.records.proofs.clear.Goals.{then-is_hit, else-is_hit}
use Rattle.records.proofs.clear.Invariants.{here}

pub loop-word-init : goal.loop-word-init
unfolding any_hit
loop-word-init c =
    record { done = sym (invalidated_none _ _); told = sym (any_none _) }

pub loop-word-preserved : goal.loop-word-preserved
unfolding any_hit
loop-word-preserved c =
    let a = c.args in
    let l = a.records.now in
    let i = c.loop-word.word-index in
    let t = c.loop-word.invariant in
    let long = length-take-le a.n l c.requires in
    let under : i < a.n = omega arith in
    let word = here _ _ _ _ _ _ under t in
    let front = get_or-take a.n l i 0 under in
    elim c.if-is_hit.branch [
      | then-is_hit w ↦
          let e = ap (hits a.scope) (sym word) ∙ sym c.is_hit.ensures ∙ w.if-is_hit.true in
          record {
            done = w.word-items-is
                ∙ (λ d. set (t.done d) i ((w.key_of_record.ensures ∙ ap key_of_record (word ∙ sym front)) d))
                ∙ invalidated_hit a.scope (take a.n l) i (omega arith) (ap (hits a.scope) front ∙ e);
            told = w.any-is ∙ sym (any_hit_lem _ i e);
          }
      | else-is_hit w ↦
          let e = ap (hits a.scope) (sym word) ∙ sym c.is_hit.ensures ∙ w.if-is_hit.false in
          record {
            done = w.word-items-is ∙ set-get_or c.loop-word.word-items i 0 ∙ t.done ∙ invalidated_miss a.scope (take a.n l) i (ap (hits a.scope) front ∙ e);
            told = w.any-is ∙ t.told ∙ sym (any_miss _ i e);
          }
    ]

pub returns : goal.returns
returns c =
    let a = c.args in
    let long = length-take-le a.n a.records.now c.requires in
    let e : c.loop-word.word-index ≡ a.n = omega arith in
    let t = rw e at c.loop-word.invariant in
    (t.told, ap (λ (r : List ℕ). r ++ drop a.n a.records.now) t.done ∙ invalidated_front a.scope a.records.now a.n)
