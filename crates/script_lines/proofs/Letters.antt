-- A search for a letter is std's. Assumes nothing.
use Prim.Native.Nat.{ℕ}
use mathlib.Core.Path.{◌≡◌, refl}
use mathlib.Core.Bool.{true, false, cond, ◌||◌}
use mathlib.Core.List.{List, [], ◌∷◌}
use native.Mathlib.Omega.{arith}
use lib.Dec.{eqb}
use Rattle.std.specs.List.{list_any}
use Rattle.script_lines.specs.Lines.{one_of}

either_way : (a b : ℕ) → eqb a b ≡ eqb b a
either_way a b = grind arith

pub is_any : (letter : ℕ) (ls : List ℕ) → list_any (λ l. eqb l letter) ls ≡ one_of letter ls
unfolding one_of
is_any letter [] = refl
is_any letter (l ∷ ls) = rw (either_way l letter, is_any letter ls) (elim (eqb letter l) as (λ t. (t || one_of letter ls) ≡ cond t true (one_of letter ls)) [ true ↦ refl | false ↦ refl ])
