-- `image_reader::record_at` meets its contract. Assumes nothing.
use mathlib.Core.Path.{sym, ◌∙◌}
use native.Mathlib.Omega.{arith}
use Rattle.image_reader.proofs.Finding.{key-found}
use Rattle.image_reader.proofs.Bounds.{key_bounds}
use Rattle.image_reader.proofs.record_at.Goals as goal

-- a key word leaves room for the mark
pub overflow_add-result : goal.overflow_add-result
overflow_add-result c =
    let key = sym (key-found _ _ _ c.find_places-places.ensures) ∙ sym c.key_at.ensures ∙ c.in_ok-key.was in
    omega (arith, key_bounds _ (λ i. (c.type_inv.bytes i).fits) _ _ key)
