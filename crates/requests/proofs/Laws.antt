-- The laws of the first refusal of a list, and of the pairs of an add. Assumes nothing.
use Prim.Native.Nat.{ℕ, ◌+◌, ◌<◌, ◌≤◌}
use mathlib.Core.Path.{◌≡◌, refl, sym, ap, ◌∙◌}
use mathlib.Core.Bool.{true, false, cond}
use mathlib.Core.List.{List, [], ◌∷◌, ◌++◌, map}
use native.Mathlib.Numerals.{add-one}
use lib.Dec.{eqb}
use lib.ListN.{length, drop, get_or, drop_of_length-le}
use lib.Seq.{drop-cons}
use borrow.Author.Tests.{eq-eqb, ne_eqb, eqb-true, eqb-false}
use Rattle.words.specs.declared.Refusal.{Refusal}
use Rattle.words.specs.Refusals.{number_of}
use Rattle.words.proofs.Refusals.{refusal-number}
use Rattle.requests.specs.Requests.{or_next, first_refusal, pair_gate, pairs_gate}

pub next_pass : (a b : ℕ) → a ≡ 0 → or_next a b ≡ b
unfolding or_next
next_pass a b e = rw (eq-eqb a 0 e)

pub next_refuse : (a b : ℕ) → (a ≡ 0 → ⊥) → or_next a b ≡ a
unfolding or_next
next_refuse a b n = rw (ne_eqb a 0 n)

pub next_last : (a : ℕ) → or_next a 0 ≡ a
unfolding or_next
next_last a = (elim (eqb a 0) as (λ t. eqb a 0 ≡ t → cond t 0 a ≡ a) [ true ↦ λ e. sym (eqb-true a 0 e) | false ↦ λ _. refl ]) refl

pub next_assoc : (a b c : ℕ) → or_next (or_next a b) c ≡ or_next a (or_next b c)
next_assoc a b c =
    (elim (eqb a 0) as (λ t. eqb a 0 ≡ t → or_next (or_next a b) c ≡ or_next a (or_next b c)) [
      | true ↦ λ e. let z = eqb-true a 0 e in rw (next_pass a b z, next_pass a (or_next b c) z)
      | false ↦ λ e. let n = eqb-false a 0 e in rw (next_refuse a b n, next_refuse a c n, next_refuse a (or_next b c) n)
    ]) refl

-- a list of tests in two parts
pub first_append : (xs ys : List ℕ) → first_refusal (xs ++ ys) ≡ or_next (first_refusal xs) (first_refusal ys)
unfolding first_refusal
first_append [] ys = sym (next_pass 0 (first_refusal ys) refl)
first_append (x ∷ xs) ys = ap (or_next x) (first_append xs ys) ∙ sym (next_assoc x (first_refusal xs) (first_refusal ys))

-- ---- from tests as the code makes them: each ends the list, or hands it on

-- a refusal is the first of a list that it begins, a test that is passed leaves the rest, and the last test decides
pub refused_first : (r : Refusal) (rest : List ℕ) → first_refusal (number_of r ∷ rest) ≡ number_of r
unfolding first_refusal
refused_first r rest = next_refuse (number_of r) (first_refusal rest) (refusal-number r)

pub passed_first : (rest : List ℕ) → first_refusal (0 ∷ rest) ≡ first_refusal rest
unfolding first_refusal
passed_first rest = next_pass 0 (first_refusal rest) refl

pub last_first : (a : ℕ) → first_refusal (a ∷ []) ≡ a
unfolding first_refusal
last_first a = next_last a

-- what the code makes of a list of tests, one after the other
pub ruleset first_refusals = (refused_first, passed_first, last_first)

-- ---- pairs: the loop at position i has the rest of the list before it

module _ (pairs : List ℕ) (i : ℕ) (h : i < length pairs) where
  pairs_split : pairs_gate (drop i pairs) ≡ first_refusal (pair_gate (get_or pairs i 0) ∷ map pair_gate (drop (i + 1) pairs))
  unfolding pairs_gate
  pairs_split = rw (add-one i, drop-cons pairs i 0 h)

  pub pairs_refused : (r : Refusal) → number_of r ≡ pair_gate (get_or pairs i 0) → pairs_gate (drop i pairs) ≡ number_of r
  pairs_refused r e = pairs_split ∙ ap (λ p. first_refusal (p ∷ map pair_gate (drop (i + 1) pairs))) (sym e) ∙ refused_first r _

  pub pairs_passed : 0 ≡ pair_gate (get_or pairs i 0) → pairs_gate (drop i pairs) ≡ pairs_gate (drop (i + 1) pairs)
  unfolding pairs_gate
  pairs_passed e = pairs_split ∙ ap (λ p. first_refusal (p ∷ map pair_gate (drop (i + 1) pairs))) (sym e) ∙ passed_first _

pub pairs_end : (pairs : List ℕ) (i : ℕ) → length pairs ≤ i → pairs_gate (drop i pairs) ≡ 0
unfolding pairs_gate first_refusal
pairs_end pairs i h = rw (drop_of_length-le pairs h)

-- a turn of the loop over pairs
pub ruleset pair_refusals = (pairs_refused, pairs_passed, pairs_end)
