-- The place of an entry's field bytes lies within the lent slice and holds them. Assumes nothing.
use Prim.Native.Nat.{ℕ, ◌+◌, ◌*◌, ◌≤◌, ◌<◌}
use mathlib.Core.Path.{◌≡◌, refl, sym, ap, ◌∙◌, subst}
use mathlib.Core.Bool.{Bool, true, false, cond, ◌&&◌}
use mathlib.Core.List.{List, []}
use native.Mathlib.Omega.{arith}
use lib.Dec.{ltb, eqb}
use lib.ListN.{length, drop_of_length-le}
use borrow.Author.Tests.{ltb-true, eqb-true, eqb-false, eq-eqb, ne_eqb}
use Rattle.words.specs.Constants.{max_scenes, max_fields, stride}
use Rattle.words.proofs.Tests.{and_left, and_right}
use Rattle.slots.specs.Slots.{part, length_at, fields_at}
use Rattle.slots.proofs.Laws.{length_part}
use Rattle.state.specs.Table.{Table}
use Rattle.state.specs.Sound.{sound}
use Rattle.reads.specs.Reads.{field_bytes}
use Rattle.host_numbers.specs.declared.FieldBytes.{FieldBytes}
use Rattle.host_numbers.specs.Fields.{place_of, field_place}
use Rattle.state.proofs.Laws.{InBounds, sound_bounds, sound-length}

no_bytes : (l : List ℕ) → length l ≡ 0 → l ≡ []
no_bytes l e = drop_of_length-le l {i = 0} (omega arith)

-- there are bytes only in a sound table, below its count
shown : (t : Table) (at : ℕ) → (length (field_bytes at t) ≡ 0 → ⊥) → (sound t && ltb at t.state.entries) ≡ true
unfolding field_bytes
shown t at =
    elim (sound t && ltb at t.state.entries) as (λ b. (length (cond b (fields_at t.slots.fields at) []) ≡ 0 → ⊥) → b ≡ true) [
      | true ↦ λ _. refl
      | false ↦ λ h. absurd (h refl)
    ]

record Located (at : ℕ) (t : Table) : Type 0 where
  pub under : at < max_scenes
  pub inside : at * stride + 1 + length (field_bytes at t) ≤ length t.slots.fields
  pub holds : part (at * stride + 1) (length (field_bytes at t)) t.slots.fields ≡ field_bytes at t

located : (at : ℕ) (t : Table) → (length (field_bytes at t) ≡ 0 → ⊥) → Located at t
unfolding field_bytes
located at t h =
    let e = shown t at h in
    let s : sound t ≡ true = and_left (sound t) _ e in
    let u : at < t.state.entries = ltb-true at t.state.entries (and_right (sound t) _ e) in
    let f : InBounds t.state _ _ _ _ = sound_bounds t s in
    let m : length_at t.slots.fields at ≤ max_fields = sound-length t at s u in
    let b : field_bytes at t ≡ fields_at t.slots.fields at = ap (λ (c : Bool). cond c (fields_at t.slots.fields at) []) e in
    let l : length (field_bytes at t) ≡ length_at t.slots.fields at = ap length b ∙ length_part t.slots.fields (at * stride + 1) _ (omega arith) in
    record {
      under = omega arith;
      inside = omega arith;
      holds = ap (λ (n : ℕ). part (at * stride + 1) n t.slots.fields) l ∙ sym b;
    }

pub below_most : (at : ℕ) (t : Table) → (length (field_bytes at t) ≡ 0 → ⊥) → at < max_scenes
below_most at t h = (located at t h).under

-- a part of the lent bytes, within them, that holds what it should
pub record Within (r : FieldBytes) (lent bytes : List ℕ) : Type 0 where
  pub inside : r.offset + r.len ≤ length lent
  pub holds : part r.offset r.len lent ≡ bytes

module _ (at : ℕ) (t : Table) where
  abbrev some : FieldBytes
  some = record { offset = at * stride + 1; len = length (field_bytes at t) }

  pub place_none : length (field_bytes at t) ≡ 0 → record { offset = 0; len = 0 } ≡ field_place at t
  unfolding field_place place_of
  place_none e = rw (eq-eqb _ 0 e)

  pub place_some : (length (field_bytes at t) ≡ 0 → ⊥) → some ≡ field_place at t
  unfolding field_place place_of
  place_some h = rw (ne_eqb _ 0 h)

  pub place_within : Within (field_place at t) t.slots.fields (field_bytes at t)
  place_within =
      (elim (eqb (length (field_bytes at t)) 0) as (λ b. eqb (length (field_bytes at t)) 0 ≡ b → Within (field_place at t) t.slots.fields (field_bytes at t)) [
        | true ↦ λ e.
            let z : length (field_bytes at t) ≡ 0 = eqb-true _ 0 e in
            subst (λ (r : FieldBytes). Within r t.slots.fields (field_bytes at t)) (place_none z)
            (record { inside = omega arith; holds = sym (no_bytes _ z) })
        | false ↦ λ e.
            let h : length (field_bytes at t) ≡ 0 → ⊥ = eqb-false _ 0 e in
            let l = located at t h in
            subst (λ (r : FieldBytes). Within r t.slots.fields (field_bytes at t)) (place_some h)
            (record { inside = l.inside; holds = l.holds })
      ]) refl
