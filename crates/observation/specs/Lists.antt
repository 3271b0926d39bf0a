-- Lists under Boolean tests: how many pass, the first that passes, and those that pass. By these the statements of demand 3 speak of the
-- entries and the record words of a table: document 01, "In the sight of a fabric".
use Rattle.std.specs.Prelude.{ℕ, ◌+◌, Bool, true, false, cond, List, [], ◌∷◌}
use Rattle.std.proofs.Math.Option.{Option, none, some}

abbrev pub bit : Bool → ℕ
bit true = 1
bit false = 0

module _ {A : Type 0} where
  -- how many elements pass the test
  abbrev pub count : (A → Bool) → List A → ℕ
  count p [] = 0
  count p (x ∷ xs) = bit (p x) + count p xs

  -- the first that passes
  abbrev pub find : (A → Bool) → List A → Option A
  find h [] = none
  find h (x ∷ xs) = cond (h x) (some x) (find h xs)

  -- those that pass, in order
  abbrev pub keep : (A → Bool) → List A → List A
  keep p [] = []
  keep p (x ∷ xs) = cond (p x) (x ∷ keep p xs) (keep p xs)
