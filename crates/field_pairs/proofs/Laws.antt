-- The laws of the listing, by what was counted. Assumes nothing.
use Prim.Native.Nat.{ℕ, ◌+◌, ◌≤◌, ◌<◌}
use mathlib.Core.Path.{◌≡◌, refl, sym, ap, ◌∙◌}
use mathlib.Core.Logic.{◌⊎◌, inl, inr}
use mathlib.Core.Bool.{true, false, cond}
use mathlib.Core.List.{List, ◌++◌}
use native.Mathlib.Omega.{arith}
use lib.Dec.{ltb}
use lib.ListN.{length, drop}
use borrow.Author.Tests.{lt-ltb, le-ltb}
use Rattle.std.proofs.Common.{Option, Some, None}
use Rattle.std.proofs.lemmas.Option.{none-some}
use Rattle.words.specs.Constants.{success, buffer_too_short, bad_field_sets}
use Rattle.text_output.specs.Writing.{sheet, puts}
use Rattle.text_output.proofs.Whole.{puts_whole}
use Rattle.field_sets.specs.Reader.{ExtensionFieldSet, pairs_of, sets_in, total_of}
use Rattle.field_pairs.specs.Words.{readable, words_in}
use Rattle.field_pairs.specs.Listing.{Listing, listing_of, answered, unlisted, listed, listing, list_pairs}

module _ (r : Option (List ExtensionFieldSet)) (buffer : List ℕ) where
  unread : total_of r ≡ None → unlisted buffer bad_field_sets ≡ listing r buffer
  unread =
      elim r as (λ x. total_of x ≡ None → unlisted buffer bad_field_sets ≡ listing x buffer) [
        | None ↦ λ e. refl
        | Some ss ↦ λ e. absurd (none-some (length (pairs_of ss)) (sym e))
      ]

  module _ (n : ℕ) where
    counted : total_of r ≡ Some n → (readable r ≡ true) × (n ≡ length (words_in r)) × (listing r buffer ≡ listed (words_in r) buffer)
    counted =
        elim r as (λ x. total_of x ≡ Some n → (readable x ≡ true) × (n ≡ length (words_in x)) × (listing x buffer ≡ listed (words_in x) buffer)) [
          | None ↦ λ e. absurd (none-some n e)
          | Some ss ↦ λ e. let l : n ≡ length (pairs_of ss) = cc in (refl, l, refl)
        ]

module _ (bytes buffer : List ℕ) where
  pub list-unread : total_of (sets_in bytes) ≡ None → unlisted buffer bad_field_sets ≡ list_pairs bytes buffer
  unfolding list_pairs
  list-unread e = unread (sets_in bytes) buffer e

  module _ (n : ℕ) (e : total_of (sets_in bytes) ≡ Some n) where
    pub list-readable : readable (sets_in bytes) ≡ true
    list-readable = (counted (sets_in bytes) buffer n e).0

    pub list-short : length buffer < n → unlisted buffer buffer_too_short ≡ list_pairs bytes buffer
    unfolding list_pairs listed
    list-short l =
        let c = counted (sets_in bytes) buffer n e in
        sym (c.2 ∙ rw (lt-ltb (length buffer) (length (words_in (sets_in bytes))) (omega (arith, c.1))))

    -- the words as they lie in the buffer
    pub list-fits :
        (r : ℕ) (out : List ℕ) →
        n ≤ length buffer →
        sheet out r ≡ puts (words_in (sets_in bytes)) (sheet buffer 0) →
        listing_of (answered success r) out ≡ list_pairs bytes buffer
    unfolding list_pairs listed
    list-fits r out l p =
        let c = counted (sets_in bytes) buffer n e in
        let xs : List ℕ = words_in (sets_in bytes) in
        let z : 0 + length xs ≡ length xs = omega arith in
        let w : sheet out r ≡ sheet (xs ++ drop (length xs) buffer) (length xs) =
        p ∙ puts_whole xs buffer 0 (omega (arith, c.1)) ∙ ap (λ (k : ℕ). sheet (xs ++ drop k buffer) k) z in
        (λ i. listing_of (answered success (w i).next) (w i).bytes)
        ∙ sym (c.2 ∙ rw (le-ltb (length buffer) (length xs) (omega (arith, c.1))))

  -- ---- what it can answer, and what a refusal leaves

  abbrev Answers : Listing → Type 0
  Answers l =
      ((l.read.status ≡ success) ⊎ ((l.read.status ≡ buffer_too_short) ⊎ (l.read.status ≡ bad_field_sets)))
      × ((l.read.status ≡ success → ⊥) → l ≡ unlisted buffer l.read.status)

  answers : Answers (list_pairs bytes buffer)
  unfolding list_pairs listed
  answers =
      elim (sets_in bytes) as (λ r. Answers (listing r buffer)) [
        | None ↦ (inr (inr refl), λ n. refl)
        | Some ss ↦
            elim (ltb (length buffer) (length (pairs_of ss))) as
            (λ t.
            Answers
            (cond t (unlisted buffer buffer_too_short)
            (listing_of (answered success (length (pairs_of ss))) (pairs_of ss ++ drop (length (pairs_of ss)) buffer)))) [
              | true ↦ (inr (inl refl), λ n. refl)
              | false ↦ (inl refl, λ n. absurd (n refl))
            ]
      ]

  pub list-numbers :
      ((list_pairs bytes buffer).read.status ≡ success)
      ⊎ (((list_pairs bytes buffer).read.status ≡ buffer_too_short) ⊎ ((list_pairs bytes buffer).read.status ≡ bad_field_sets))
  list-numbers = answers.0

  pub list-refused :
      ((list_pairs bytes buffer).read.status ≡ success → ⊥) → list_pairs bytes buffer ≡ unlisted buffer (list_pairs bytes buffer).read.status
  list-refused = answers.1
