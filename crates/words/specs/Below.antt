-- The positions below a count: whether a test holds at all of them or at one, at how many, at which first, at which.
-- Document 01 speaks of "positions below the counts" and of the first match.
use Rattle.std.specs.Prelude.{ℕ, zero, suc, Bool, true, false, cond, ◌&&◌, ◌||◌, List, [], ◌∷◌, ◌++◌, Option, Some, None}

-- the positions below n, in order
unfoldable pub positions : ℕ → List ℕ
positions zero = []
positions (suc n) = positions n ++ (n ∷ [])

-- whether p holds at each position below n
unfoldable pub every_below : (ℕ → Bool) → ℕ → Bool
every_below p zero = true
every_below p (suc n) = every_below p n && p n

-- whether p holds at a position below n
unfoldable pub any_below : (ℕ → Bool) → ℕ → Bool
any_below p zero = false
any_below p (suc n) = any_below p n || p n

-- at how many positions below n p holds
unfoldable pub count_below : (ℕ → Bool) → ℕ → ℕ
count_below p zero = zero
count_below p (suc n) = cond (p n) (suc (count_below p n)) (count_below p n)

-- the positions below n at which p holds, in order
unfoldable pub kept_below : (ℕ → Bool) → ℕ → List ℕ
kept_below p zero = []
kept_below p (suc n) = cond (p n) (kept_below p n ++ (n ∷ [])) (kept_below p n)

-- the first of two finds
unfoldable pub or_else : Option ℕ → Option ℕ → Option ℕ
or_else (Some i) f = Some i
or_else None f = f

-- the first position below n at which p holds
unfoldable pub first_below : (ℕ → Bool) → ℕ → Option ℕ
first_below p zero = None
first_below p (suc n) = or_else (first_below p n) (cond (p n) (Some n) None)
