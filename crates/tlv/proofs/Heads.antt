-- The laws of the element at a position. Assumes nothing.
use Prim.Native.Nat.{ℕ, zero, suc, ◌+◌, ◌*◌, ◌%◌, ◌^◌, ◌≤◌, ◌<◌}
use mathlib.Core.Path.{◌≡◌, refl, sym, ap, ◌∙◌}
use mathlib.Core.Bool.{Bool, true, false, cond, ◌&&◌, false≢true}
use mathlib.Core.List.{List, [], ◌∷◌}
use native.Mathlib.Nat.{pow-le-pow_right}
use native.Mathlib.Omega.{arith}
use lib.Dec.{ltb, leb}
use lib.ListN.{length, get_or}
use borrow.Author.Tests.{lt-ltb, le-ltb, le-leb, lt-leb, leb-true}
use Rattle.std.proofs.Common.{Some, None}
use Rattle.std.proofs.lemmas.Option.{cond_some}
use Rattle.tlv.specs.declared.elements.Element.{Element}
use Rattle.tlv.specs.Elements.{kind_of, form_of, known, tag_size, width, measured, length_size, plain_size, size_of}
use Rattle.tlv.specs.Elements.{control_at, context_tag, length_from, value_from, value_end, whole, element_from, element_at}

-- ---- sizes

powers : (i : ℕ) → i < 4 → get_or (1 ∷ 2 ∷ 4 ∷ 8 ∷ []) i 0 ≡ 2 ^ i
powers zero l = refl
powers (suc zero) l = refl
powers (suc (suc zero)) l = refl
powers (suc (suc (suc zero))) l = refl
powers (suc (suc (suc (suc n)))) l = absurd (omega arith)

pub width_power : (kind : ℕ) → width kind ≡ 2 ^ (kind % 4)
unfolding width
width_power kind = powers (kind % 4) (omega arith)

pub width_le : (kind : ℕ) → width kind ≤ 8
width_le kind = rw (width_power kind) (pow-le-pow_right {n = 2} (omega arith) {j = 3} (omega arith))

-- a width by a shift
pub width_shifted : (kind : ℕ) → (1 * 2 ^ (kind % 4)) % 18446744073709551616 ≡ width kind
width_shifted kind = rw (← width_power kind) (omega (arith, width_le kind))

pub tag_le : (form : ℕ) → tag_size form ≤ 8
unfolding tag_size
tag_le zero = omega arith
tag_le (suc zero) = omega arith
tag_le (suc (suc zero)) = omega arith
tag_le (suc (suc (suc zero))) = omega arith
tag_le (suc (suc (suc (suc zero)))) = omega arith
tag_le (suc (suc (suc (suc (suc zero))))) = omega arith
tag_le (suc (suc (suc (suc (suc (suc zero)))))) = omega arith
tag_le (suc (suc (suc (suc (suc (suc (suc zero))))))) = omega arith
tag_le (suc (suc (suc (suc (suc (suc (suc (suc n)))))))) = omega arith

pub length_le : (kind : ℕ) → length_size kind ≤ 8
unfolding length_size
length_le kind = elim (measured kind) as (λ t. cond t (width kind) 0 ≤ 8) [ true ↦ width_le kind | false ↦ omega arith ]

pub size_number : (b : List ℕ) (kind from : ℕ) → kind < 8 → size_of b kind from ≡ width kind
unfolding size_of measured plain_size
size_number b kind from l = rw (le-ltb 11 kind (omega arith), lt-ltb kind 8 l)

-- ---- what stands at a position

-- an element, of its control byte, its tag's number, its value's position and the value's size
abbrev element_of : ℕ → ℕ → ℕ → ℕ → Element
element_of control tag value size =
    record { kind = kind_of control; form = form_of control; tag = tag; value = value; next = value + size }

module _ (b : List ℕ) (at : ℕ) where
  pub element_outside : length b ≤ at → element_at b at ≡ None
  unfolding element_at whole
  element_outside h = rw (le-ltb at (length b) h)

  module _ (h : at < length b) where
    pub element_unknown : known (control_at b at) ≡ false → element_at b at ≡ None
    unfolding element_at whole
    element_unknown k = rw (lt-ltb at (length b) h, k)

    module _ (k : known (control_at b at) ≡ true) where
      pub element_short : length b < value_end b at → element_at b at ≡ None
      unfolding element_at whole
      element_short l = rw (lt-ltb at (length b) h, k, lt-leb (value_end b at) (length b) l)

      pub element_whole : value_end b at ≤ length b → element_at b at ≡ Some (element_from b at)
      unfolding element_at whole
      element_whole l = rw (lt-ltb at (length b) h, k, le-leb (value_end b at) (length b) l)

      -- as the code makes it, of the context tag's number and the three sizes
      module _ (g t n s : ℕ) (tag : g ≡ context_tag b at (form_of (control_at b at))) (tags : t ≡ tag_size (form_of (control_at b at))) where
        sized : size_of b (kind_of (control_at b at)) (at + 1 + t) ≡ size_of b (kind_of (control_at b at)) (at + 1 + tag_size (form_of (control_at b at)))
        sized = rw tags

        pub element_made :
            n ≡ length_size (kind_of (control_at b at)) →
            s ≡ size_of b (kind_of (control_at b at)) (at + 1 + t) →
            at + 1 + t + n + s ≤ length b →
            Some (element_of (control_at b at) g (at + 1 + t + n) s) ≡ element_at b at
        unfolding length_from value_from value_end
        element_made lengths size l = rw (tag, tags, lengths, size ∙ sized) (sym (element_whole (omega (arith, size ∙ sized))))

pub and_both : (s t : Bool) → (s && t) ≡ true → (s ≡ true) × (t ≡ true)
and_both true t e = (refl, e)
and_both false t e = absurd (false≢true e)

module _ (b : List ℕ) (at : ℕ) (h : Element) where
  element_parts : element_at b at ≡ Some h → (whole b at ≡ true) × (element_from b at ≡ h)
  unfolding element_at
  element_parts = cond_some (whole b at) (element_from b at) h

  module _ (e : element_at b at ≡ Some h) where
    pub element_same : element_from b at ≡ h
    element_same = (element_parts e).1

    element_fits : value_end b at ≤ length b
    unfolding whole
    element_fits =
        let k = (and_both (ltb at (length b)) (known (control_at b at) && leb (value_end b at) (length b)) (element_parts e).0).1 in
        leb-true (value_end b at) (length b) (and_both (known (control_at b at)) (leb (value_end b at) (length b)) k).1

    -- an element stands within the bytes, and what is behind it further on
    pub element_on : (at < h.next) × (h.next ≤ length b)
    unfolding length_from value_from value_end
    element_on =
        let n : value_end b at ≡ h.next = ap (λ (x : Element). x.next) element_same in
        (omega arith, omega (arith, element_fits))

    pub element_value : h.value ≤ h.next
    unfolding value_end
    element_value =
        let n : value_end b at ≡ h.next = ap (λ (x : Element). x.next) element_same in
        let v : value_from b at ≡ h.value = ap (λ (x : Element). x.value) element_same in
        omega arith

    -- a number has all of its bytes
    pub element_number : h.kind < 8 → h.value + width h.kind ≤ length b
    unfolding value_end
    element_number l =
        let k : get_or b at 0 % 32 ≡ h.kind = ap (λ (x : Element). x.kind) element_same in
        let v : value_from b at ≡ h.value = ap (λ (x : Element). x.value) element_same in
        let s : size_of b (get_or b at 0 % 32) (length_from b at) ≡ width h.kind = rw k (size_number b h.kind (length_from b at) l) in
        omega (arith, element_fits)

-- what the code makes of the bytes at a position
pub ruleset element_heads = (element_outside, element_unknown, element_made, tag_le, length_le)
