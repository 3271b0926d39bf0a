-- Lists under Boolean tests: whether one passes, the ways in which a table's list changes, and lists that count alike.
use mathlib.Core.Path.{◌≡◌}
use mathlib.Core.Bool.{Bool, true, false, cond}
use mathlib.Core.List.{List, [], ◌∷◌}
use mathlib.Core.Option.{Option, none, some}
use Rattle.observation.specs.Lists.{count, find}

abbrev pub found : {A : Type 0} → Option A → Bool
found none = false
found (some a) = true

module _ {A : Type 0} where
  abbrev pub has : (A → Bool) → List A → Bool
  has h xs = found (find h xs)

  -- x in the place of the first that passes, or at the end if none does
  abbrev pub put : (A → Bool) → A → List A → List A
  put h x [] = x ∷ []
  put h x (y ∷ ys) = cond (h y) (x ∷ ys) (y ∷ put h x ys)

  abbrev pub behind_first : A → List A → List A
  behind_first x [] = x ∷ []
  behind_first x (y ∷ ys) = y ∷ x ∷ ys

  -- the last element first, the others after it in order
  abbrev pub last_first : List A → List A
  last_first [] = []
  last_first (x ∷ xs) = behind_first x (last_first xs)

  -- without the first that passes: the last of the list takes its place
  abbrev pub take_out : (A → Bool) → List A → List A
  take_out h [] = []
  take_out h (y ∷ ys) = cond (h y) (last_first ys) (y ∷ take_out h ys)

  -- two lists with the same elements, each as often, in any order: every test counts alike
  abbrev pub Often : List A → List A → Type 0
  Often xs ys = (p : A → Bool) → count p xs ≡ count p ys
