-- `image_reader::entry_at` meets its contract. Assumes nothing.
use mathlib.Core.Path.{sym, ◌∙◌}
use native.Mathlib.Omega.{arith}
use Rattle.image_reader.proofs.Finding.{time-found, fields-found}
use Rattle.image_reader.proofs.Bounds.{member_u32, member-span}
use Rattle.image_reader.proofs.entry_at.Goals as goal

pub overflow_sub-fields : goal.overflow_sub-fields
overflow_sub-fields c =
    (member-span _ _ _ _ (sym (fields-found _ _ _ c.find_places-places.ensures) ∙ sym c.octets_at.ensures ∙ c.in_ok-fields.was)).0

pub overflow_cast-result : goal.overflow_cast-result
overflow_cast-result c =
    let time = sym (time-found _ _ _ c.find_places-places.ensures) ∙ sym c.number_at.ensures ∙ c.in_ok-time.was in
    omega (arith, member_u32 _ (λ i. (c.type_inv.bytes i).fits) _ _ _ time)
