-- The words of four records. Assumes nothing.
use mathlib.Core.Path.{◌≡◌}
use Prim.Native.Nat.{ℕ}
use native.Mathlib.Omega.{arith}
use mathlib.Core.List.{List, [], ◌∷◌, map}
use lib.ListN.{length}
use Rattle.notices.specs.declared.CurrentScene.{CurrentScene}
use Rattle.notices.specs.Notice.{record_at}
use Rattle.notices.specs.Packed.{pack}

-- the words of four records, one by one
pub four_words : (rs : List CurrentScene) (a b c d : ℕ) → length rs ≡ 4 → a ≡ pack (record_at rs 0) → b ≡ pack (record_at rs 1) → c ≡ pack (record_at rs 2) → d ≡ pack (record_at rs 3) → a ∷ b ∷ c ∷ d ∷ [] ≡ map pack rs
four_words (w ∷ x ∷ y ∷ z ∷ []) a b c d h e f g k = cc
four_words [] a b c d h e f g k = let w : ⊥ = omega arith in absurd w
four_words (w ∷ []) a b c d h e f g k = let w : ⊥ = omega arith in absurd w
four_words (w ∷ x ∷ []) a b c d h e f g k = let w : ⊥ = omega arith in absurd w
four_words (w ∷ x ∷ y ∷ []) a b c d h e f g k = let w : ⊥ = omega arith in absurd w
four_words (w ∷ x ∷ y ∷ z ∷ v ∷ rs) a b c d h e f g k = let w : ⊥ = omega arith in absurd w
