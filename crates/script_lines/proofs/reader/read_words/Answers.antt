-- `script_lines::reader::read_words` meets its contract. Assumes nothing.
use Prim.Native.Nat.{ℕ, ◌≤◌, ◌<◌}
use mathlib.Core.Path.{◌≡◌, refl, sym, ap, subst, ◌∙◌}
use mathlib.Core.List.{List, [], ◌++◌, map}
use native.Mathlib.Omega.{arith}
use lib.ListN.{length, take, drop, length-set}
use Rattle.std.proofs.lemmas.Result.{err_from_is_err_and}
use Rattle.words.specs.Below.{positions}
use Rattle.script_lines.specs.declared.reader.Kind.{Kind}
use Rattle.script_lines.specs.Lines.{words_say, Call, words_left, word_read}
use Rattle.script_lines.proofs.LineLaws.{reads-within, words-start, words_end, words-wrong, words_more, left_end, left-wrong, left_more, kinds_length}
use Rattle.script_lines.proofs.reader.read_words.Goals as goal

pub loop-i-init : goal.loop-i-init
unfolding positions
loop-i-init c =
    (c.requires, refl, refl, λ later q. words-start _ _ _ [] [] later _, refl)

pub returns-in_err-values : goal.returns-in_err-values
returns-in_err-values c =
    let a = c.args in
    let h : c.loop-i.at ≤ length c.loop-i.line = omega (arith, c.loop-i.invariant.0) in
    let l : c.loop-i.i < length c.kinds_of-kinds.result = let k = ap length c.kinds_of-kinds.ensures ∙ kinds_length _ in omega arith in
    record {
      says =
          let e = err_from_is_err_and c.from_residual.result c.from_residual.ensures.1 in
          rw (e.1, e.2)
          (sym (words-wrong _ _ _ c.loop-i.values c.loop-i.starts c.loop-i.line c.loop-i.at c.loop-i.i _ _ _ l c.read_next-got.ensures h c.read_next-got.auto.line c.loop-i.invariant.3 _ c.in_err-values.was)
          ∙ ap (λ (ks : List Kind). words_say a.trace a.letter ks (drop a.start a.line.now)) c.kinds_of-kinds.ensures);
      line =
          sym (c.loop-i.invariant.4 ∙ left-wrong _ a.letter _ c.loop-i.values c.loop-i.starts c.loop-i.line c.loop-i.at c.loop-i.i [] _ _ l c.read_next-got.ensures h
          c.read_next-got.auto.line _ c.in_err-values.was)
          ∙ ap (λ (ks : List Kind). take a.start a.line.now ++ words_left a.trace ks (drop a.start a.line.now)) c.kinds_of-kinds.ensures;
    }

pub loop-i-preserved : goal.loop-i-preserved
loop-i-preserved c =
    let h : c.loop-i.at ≤ length c.loop-i.line = omega (arith, c.loop-i.invariant.0) in
    let l : c.loop-i.i < length c.kinds_of-kinds.result = let k = ap length c.kinds_of-kinds.ensures ∙ kinds_length _ in omega arith in
    let within = reads-within _ _ _ _ _ _ c.read_next-got.ensures h c.read_next-got.auto.line in (
      omega (arith, within),
      simp length-set c.loop-i.invariant.1,
      simp length-set c.loop-i.invariant.2,
      words_more _ _ _ c.loop-i.values c.loop-i.starts c.loop-i.line c.loop-i.at c.loop-i.i _ _ _ l c.read_next-got.ensures h c.read_next-got.auto.line c.loop-i.invariant.3 _
          c.in_ok-values.was (omega arith) (omega arith),
      c.loop-i.invariant.4
          ∙ left_more _ c.args.letter _ c.loop-i.values c.loop-i.starts c.loop-i.line c.loop-i.at c.loop-i.i [] _ _ l c.read_next-got.ensures h c.read_next-got.auto.line _
          c.in_ok-values.was,
    )

pub returns : goal.returns
returns c =
    let a = c.args in
    let k = ap length c.kinds_of-kinds.ensures ∙ kinds_length a.letter in
    let i : c.loop-i.i ≡ 10 = omega arith in
    record {
      says =
          sym (subst (λ (ks : List Kind). words_say a.trace a.letter ks (drop a.start a.line.now) ≡ Call a.letter
          (map (word_read ks c.loop-i.values c.loop-i.starts c.loop-i.line) (positions 10))) c.kinds_of-kinds.ensures
          (words_end _ _ _ c.loop-i.values c.loop-i.starts c.loop-i.line c.loop-i.at c.loop-i.i _ c.loop-i.invariant.3 (k ∙ sym i)
          ∙ ap (λ (n : ℕ). Call a.letter (map (word_read c.kinds_of-kinds.result c.loop-i.values c.loop-i.starts c.loop-i.line) (positions n))) i));
      line =
          sym (c.loop-i.invariant.4 ∙ left_end _ a.letter _ c.loop-i.values c.loop-i.starts c.loop-i.line c.loop-i.at c.loop-i.i [] (k ∙ sym i))
          ∙ ap (λ (ks : List Kind). take a.start a.line.now ++ words_left a.trace ks (drop a.start a.line.now)) c.kinds_of-kinds.ensures;
    }
