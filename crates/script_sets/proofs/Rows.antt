-- The texts of some sets, as the definitions compute them. Assumes nothing.
use mathlib.Core.Path.{◌≡◌, refl}
use mathlib.Core.List.{[], ◌∷◌, flat_map}
use Rattle.std.proofs.Common.{Some, None}
use Rattle.text_output.specs.Writing.{digits_in}
use Rattle.field_sets.specs.Reader.{field_set}
use Rattle.script_sets.specs.Texts.{attributes_text, sets_text}

-- ` 6:1,20 8:-`
two_sets : sets_text (Some (field_set 6 (1 ∷ 20 ∷ []) ∷ field_set 8 [] ∷ [])) ≡ 32 ∷ 54 ∷ 58 ∷ 49 ∷ 44 ∷ 50 ∷ 48 ∷ 32 ∷ 56 ∷ 58 ∷ 45 ∷ []
unfolding flat_map attributes_text digits_in
two_sets = refl

-- ` -`
no_sets_lem : sets_text (Some []) ≡ 32 ∷ 45 ∷ []
no_sets_lem = refl

-- bytes that are no list of sets
not_read : sets_text None ≡ []
not_read = refl
