-- An array that is written is read back, whatever its members are: what each is read as, in order; and it is passed over as a whole.
-- Assumes nothing.
use Prim.Native.Nat.{ℕ, suc, ◌+◌}
use mathlib.Core.Path.{◌≡◌, refl, ap, subst, ◌∙◌}
use mathlib.Core.List.{List, [], ◌∷◌, ◌++◌, append_assoc, flat_map}
use native.Mathlib.Omega.{arith}
use lib.Dec.{eqb-suc-zero}
use lib.ListN.{length, length-append}
use Rattle.std.proofs.Common.{Option, Some}
use Rattle.tlv.specs.declared.elements.Element.{Element}
use Rattle.tlv.specs.declared.members.Step.TheVariants.{Member}
use Rattle.tlv.specs.Types.{array_type, end_type}
use Rattle.tlv.specs.Passing.{passed_from}
use Rattle.tlv.specs.Values.{inside_at}
use Rattle.tlv.specs.Members.{member_at}
use Rattle.tlv.specs.Encoding.{context, Holds}
use Rattle.tlv.proofs.Passes.{onward}
use Rattle.tlv.proofs.Walks.{member-ends, member_goes}
use Rattle.tlv.proofs.Trips.{holds_left, holds_right, holds_first, end_element_lem, end_through, tagged_element, tagged_inside, tagged_through}
use Rattle.image_reader.specs.Image.{prepended, members_from}
use Rattle.image_reader.proofs.Listing.{members_end, members_more}
use Rattle.image_writer.specs.Image.{array_bytes}

-- what is known of each element of a list
abbrev pub Every : {A : Type 0} → (A → Type 0) → List A → Type 0
Every P [] = Unit {0}
Every P (x ∷ xs) = P x × Every P xs

-- a member of so many bytes stands at a position, and is read as x
pub record Stands {A : Type 0} (read : ℕ → Option A) (b : List ℕ) (p n : ℕ) (x : A) : Type 0 where
  pub taken : read p ≡ Some x
  pub element : Element
  pub member : member_at b p ≡ Member element (p + n)
  pub through : (level : ℕ) → passed_from b level p ≡ onward b level (p + n)

module _ {A : Type 0} (read : ℕ → Option A) (f : A → List ℕ) (Good : A → Type 0) (b : List ℕ)
    (stands : (x : A) → Good x → (p : ℕ) → Holds b p (f x) → Stands read b p (length (f x)) x) where
  -- the members, and the end behind them
  abbrev held : List A → List ℕ
  held xs = flat_map f xs ++ (end_type ∷ [])

  first : (x : A) (xs : List A) (p : ℕ) → Holds b p (held (x ∷ xs)) → Holds b p (f x) × Holds b (p + length (f x)) (held xs)
  unfolding flat_map
  first x xs p h =
      let g = subst (Holds b p) (append_assoc (f x) (flat_map f xs) (end_type ∷ [])) h in
      (holds_left b p (f x) (held xs) g, holds_right b p (f x) (held xs) g)

  pub members_read_lem : (xs : List A) → Every Good xs → (p : ℕ) → Holds b p (held xs) → members_from read b p ≡ Some xs
  unfolding flat_map
  members_read_lem [] g p h =
      members_end read b p (member-ends b p (omega (arith, h.room)) _ (end_element_lem b p (holds_first b p end_type [] h) (omega (arith, h.room))) refl)
  members_read_lem (x ∷ xs) g p h =
      let q = first x xs p h in
      let s = stands x g.0 p q.0 in
      members_more read b p s.element (p + length (f x)) s.member x s.taken
      ∙ ap (prepended (Some x)) (members_read_lem xs g.1 (p + length (f x)) q.1)

  members_through : (xs : List A) → Every Good xs → (p level : ℕ) → Holds b p (held xs)
      → passed_from b (suc level) p ≡ onward b level (p + length (held xs))
  unfolding flat_map
  members_through [] g p level h = end_through b p (holds_first b p end_type [] h) (omega (arith, h.room)) level
  members_through (x ∷ xs) g p level h =
      let q = first x xs p h in
      let e : p + length (f x) + length (held xs) ≡ p + length (held (x ∷ xs)) =
      omega (arith, length-append (f x) (held xs), ap length (append_assoc (f x) (flat_map f xs) (end_type ∷ []))) in
      (stands x g.0 p q.0).through (suc level)
      ∙ rw (eqb-suc-zero level)
      (members_through xs g.1 (p + length (f x)) level q.1 ∙ ap (onward b level) e)

  -- ---- the whole array

  module _ (tag p : ℕ) (xs : List A) (g : Every Good xs) (h : Holds b p (array_bytes tag (flat_map f xs))) where
    array_head : Holds b p (context tag array_type)
    array_head = holds_left b p (context tag array_type) (held xs) h

    array-held : Holds b (p + 2) (held xs)
    array-held = holds_right b p (context tag array_type) (held xs) h

    pub array_inside : inside_at array_type b p ≡ Some (p + 2)
    array_inside = tagged_inside b p tag array_type array_head (omega arith) (omega arith)

    pub array-read : members_from read b (p + 2) ≡ Some xs
    array-read = members_read_lem xs g (p + 2) array-held

    pub array-member : member_at b p
        ≡ Member (record { kind = array_type; form = 1; tag = tag; value = p + 2; next = p + 2 }) (p + length (array_bytes tag (flat_map f xs)))
    array-member =
        let e : p + 2 + length (held xs) ≡ p + length (array_bytes tag (flat_map f xs)) = omega (arith, length-append (context tag array_type) (held xs)) in
        member_goes b p (omega (arith, h.room)) _ (tagged_element b p tag array_type array_head (omega arith) (omega arith)) (λ z. omega arith) _
        (tagged_through b p tag array_type array_head (omega arith) (omega arith) 0 ∙ members_through xs g (p + 2) 0 array-held ∙ ap Some e)
