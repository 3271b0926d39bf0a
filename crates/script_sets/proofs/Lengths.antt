-- How long the line of sets is at most: a number below 2^32 has ten digits, a set eight bytes and five more for each pair. Assumes nothing.
use Prim.Native.Nat.{ℕ, zero, suc, ◌+◌, ◌*◌, ◌/◌, ◌%◌, ◌^◌, ◌≤◌, ◌<◌}
use mathlib.Core.Path.{◌≡◌, refl}
use mathlib.Core.Bool.{Bool, true, false, cond}
use mathlib.Core.List.{List, [], ◌∷◌, ◌++◌, flat_map}
use native.Mathlib.Nat.{pow-suc}
use native.Mathlib.Omega.{arith}
use lib.Dec.{eqb, ltb}
use lib.ListN.{length, length-append}
use borrow.Author.Tests.{ltb-false}
use Rattle.std.proofs.Common.{Option, Some, None, option_map}
use Rattle.state.specs.declared.ScenesState.{ScenesState}
use Rattle.text_output.specs.Writing.{Sheet, puts, writes, Puts, newline, digits_in, decimal, number}
use Rattle.text_output.proofs.Whole.{puts-text, puts_then, puts_most}
use Rattle.field_sets.specs.declared.sets.NextSet.TheVariants.{Set, End, NoSet}
use Rattle.field_sets.specs.Pairs.{pair_at}
use Rattle.field_sets.specs.Sets.{next_set, setting}
use Rattle.field_sets.specs.Reader.{ExtensionFieldSet, field_set, attributes_from, sets, sets_in}
use Rattle.field_sets.proofs.PairLaws.{pair_on}
use Rattle.field_sets.proofs.SetLaws.{set-within}
use Rattle.script_answers.specs.Answers.{head_texts}
use Rattle.script_answers.proofs.AnswerLengths.{head_puts}
use Rattle.script_sets.specs.Texts.{cluster_text, attribute_text, attributes_text, set_text, each_text, sets_text, sets_status, sets_answer, sets_line}

-- ---- pieces

digits_few : (j k n : ℕ) → n < 10 ^ suc k → length (digits_in j n) ≤ suc k
unfolding digits_in
digits_few zero k n h = omega arith
digits_few (suc j) zero n h =
    (elim (ltb n 10) as (λ t. ltb n 10 ≡ t → length (cond t ((48 + n) ∷ []) (digits_in j (n / 10) ++ ((48 + n % 10) ∷ []))) ≤ 1) [
      | true ↦ λ e. omega arith
      | false ↦ λ e. let m = ltb-false n 10 e in let w : ⊥ = omega arith in absurd w
    ]) refl
digits_few (suc j) (suc k) n h =
    elim (ltb n 10) as (λ t. length (cond t ((48 + n) ∷ []) (digits_in j (n / 10) ++ ((48 + n % 10) ∷ []))) ≤ suc (suc k)) [
      | true ↦ omega arith
      | false ↦
          let p = pow-suc 10 (suc k) in
          let r = digits_few j k (n / 10) (omega arith) in
          let l = length-append (digits_in j (n / 10)) ((48 + n % 10) ∷ []) in
          omega arith
    ]

decimal-length : (n : ℕ) → n < 2 ^ 32 → length (decimal n) ≤ 10
decimal-length n h = digits_few 20 9 n (omega arith)

cluster-length : (v k : ℕ) → v < 2 ^ 32 → length (cluster_text v k) ≤ 13
cluster-length v k h =
    let d = decimal-length v h in
    elim (eqb k 0) as (λ t. length (number v ++ cond t (58 ∷ 45 ∷ []) (58 ∷ [])) ≤ 13) [
      | true ↦ let l = length-append (number v) (58 ∷ 45 ∷ []) in omega arith
      | false ↦ let l = length-append (number v) (58 ∷ []) in omega arith
    ]

attribute-length : (a k : ℕ) → a < 2 ^ 32 → length (attribute_text a k) ≤ 11
attribute-length a k h =
    let d = decimal-length a h in
    elim (eqb k 0) as (λ t. length (decimal a ++ cond t [] (44 ∷ [])) ≤ 11) [
      | true ↦ let l = length-append (decimal a) [] in omega arith
      | false ↦ let l = length-append (decimal a) (44 ∷ []) in omega arith
    ]

module _ (b : List ℕ) where
  attributes-length : (k at : ℕ) → length (attributes_text (attributes_from b k at)) ≤ 11 * k
  unfolding attributes_from attributes_text
  attributes-length zero at = omega arith
  attributes-length (suc k) at =
      elim (pair_at b at) as
      (λ r. pair_at b at ≡ r → length (attributes_text (attributes_from b (suc k) at)) ≤ 11 * suc k) [
        | Some p ↦ λ e.
            let a : ℕ = p.attribute in
            let n : ℕ = p.next in
            let xs : List ℕ = attributes_from b k n in
            let r = attributes-length k n in
            let o = attribute-length a (length xs) (pair_on b at a n e).2 in
            let l = length-append (attribute_text a (length xs)) (attributes_text xs) in
            rw e (omega arith)
        | None ↦ λ e. rw e (omega arith)
      ] refl

  set-length : (v f k : ℕ) → v < 2 ^ 32 → length (set_text (field_set v (attributes_from b k f))) ≤ 13 + 11 * k
  set-length v f k h =
      let xs : List ℕ = attributes_from b k f in
      let a = attributes-length k f in
      let c = cluster-length v (length xs) h in
      let l = length-append (cluster_text v (length xs)) (attributes_text xs) in
      omega arith

  -- ---- the sets

  -- eleven bytes of text for five bytes at most, behind a position
  abbrev Short : ℕ → Option (List ExtensionFieldSet) → Type 0
  Short at None = Unit
  Short at (Some ss) = 5 * length (each_text ss) + 11 * at ≤ 11 * length b

  more_short :
      (v f k at n : ℕ) (r : Option (List ExtensionFieldSet)) →
      v < 2 ^ 32 →
      at + 5 * k + 8 ≤ n →
      Short n r →
      Short at (option_map (λ ss. field_set v (attributes_from b k f) ∷ ss) r)
  unfolding flat_map
  more_short v f k at n None h w s = tt
  more_short v f k at n (Some ss) h w s =
      let o = set-length v f k h in
      let l = length-append (set_text (field_set v (attributes_from b k f))) (each_text ss) in
      omega (arith, s)

  sets-short : (j at : ℕ) → at ≤ length b → Short at (sets b j at)
  unfolding sets flat_map
  sets-short zero at l = tt
  sets-short (suc j) at l =
      (elim (next_set b at) as
      (λ r.
      next_set b at ≡ r →
      Short at (setting r (Some []) None λ s. option_map (λ ss. field_set s.cluster (attributes_from b s.count s.first) ∷ ss) (sets b j s.next))) [
        | Set s ↦ λ e.
            let w = set-within b at s.cluster s.first s.count s.next e in
            more_short s.cluster s.first s.count at s.next (sets b j s.next) w.small w.roomy (sets-short j s.next w.inside)
        | End ↦ λ e. omega arith
        | NoSet ↦ λ e. tt
      ]) refl

  text-short : (r : Option (List ExtensionFieldSet)) → Short 0 r → 5 * length (sets_text r) ≤ 11 * length b + 10
  text-short None h = omega arith
  text-short (Some []) h = omega arith
  text-short (Some (s ∷ ss)) h = omega (arith, h)

  -- ---- the line, with two digits a byte in a line of at most n bytes

  pub sets-puts : (trace : Bool) (state : ScenesState) (n room : ℕ) → 2 * length b ≤ n → 11 * n + 730 ≤ 10 * room → Puts room (sets_line trace state b)
  unfolding sets_line
  sets-puts trace state n room h l =
      let t = text-short (sets_in b) (sets-short (suc (length b)) 0 (omega arith)) in
      let m : ℕ = length (sets_text (sets_in b)) in
      let head : Sheet → Sheet = writes (head_texts trace 89 (sets_answer state (sets_status (sets_in b)))) in
      puts_most (70 + m + 1) room (sets_line trace state b) (omega arith)
      (puts_then (70 + m) 1 (λ s. puts (sets_text (sets_in b)) (head s)) (puts newline)
      (puts_then 70 m head (puts (sets_text (sets_in b)))
      (head_puts trace 89 (sets_answer state (sets_status (sets_in b))))
      (puts-text m (sets_text (sets_in b)) (omega arith)))
      (puts-text 1 newline (omega arith)))
