-- What is written is read back. Assumes nothing.
use Prim.Native.Nat.{ℕ, zero, suc, ◌+◌, ◌/◌, ◌%◌, ◌^◌, ◌≤◌, ◌<◌}
use mathlib.Core.Path.{◌≡◌, refl, sym, ap, ◌∙◌}
use mathlib.Core.Bool.{Bool, true, false, cond}
use mathlib.Core.List.{List, [], ◌∷◌, ◌++◌}
use native.Mathlib.Nat.{pow-succ'}
use native.Mathlib.Omega.{arith}
use lib.Dec.{eqb, ltb, eqb-suc-zero}
use lib.ListN.{length, get_or, length-append, get_or-append}
use lib.Seq.{get_or-append-add}
use borrow.Author.Tests.{lt-ltb, le-ltb, le-leb, eq-eqb, ne_eqb, ltb-true}
use Rattle.std.proofs.Common.{Some, None}
use Rattle.tlv.specs.declared.elements.Element.{Element}
use Rattle.tlv.specs.declared.members.Step.TheVariants.{Member}
use Rattle.tlv.specs.Elements.{known, opens, tag_size, width, measured, length_size, plain_size, little, size_of, context_tag, length_from}
use Rattle.tlv.specs.Elements.{value_from, value_end, element_at}
use Rattle.tlv.specs.Passing.{passed_from}
use Rattle.tlv.specs.Values.{unsigned, number_at, bool_at, octets, span, octets_at, inside_at}
use Rattle.tlv.specs.Members.{member_at}
use Rattle.tlv.specs.Encoding.{low_first, smallest, context, number_bytes, octets_bytes, bool_bytes, number_size, octets_size, Holds}
use Rattle.tlv.proofs.Heads.{size_number, element_whole}
use Rattle.tlv.proofs.Passes.{nested-plain, nested_open, nested_end, onward, onto}
use Rattle.tlv.proofs.Walks.{member_goes}
use Rattle.tlv.proofs.Codes.{low_length, smallest_le, number-length, octets-length}

-- ---- what is held

module _ (b : List ℕ) (at : ℕ) where
  pub holds_left : (xs ys : List ℕ) → Holds b at (xs ++ ys) → Holds b at xs
  holds_left xs ys h = record {
    room = omega (arith, h.room, length-append xs ys);
    same = λ i l. h.same i (omega (arith, length-append xs ys)) ∙ get_or-append xs ys 0 i l;
  }

  pub holds_right : (xs ys : List ℕ) → Holds b at (xs ++ ys) → Holds b (at + length xs) ys
  holds_right xs ys h = record {
    room = omega (arith, h.room, length-append xs ys);
    same = λ i l.
        let e : at + length xs + i ≡ at + (length xs + i) = omega arith in
        rw e (h.same (length xs + i) (omega (arith, length-append xs ys)) ∙ get_or-append-add xs ys i 0);
  }

  module _ (x : ℕ) (xs : List ℕ) (h : Holds b at (x ∷ xs)) where
    pub holds_first : get_or b at 0 ≡ x
    holds_first = let e : at ≡ at + 0 = omega arith in ap (λ (k : ℕ). get_or b k 0) e ∙ h.same 0 (omega arith)

    pub holds_rest : Holds b (at + 1) xs
    holds_rest = record {
      room = omega (arith, h.room);
      same = λ i l. let e : at + 1 + i ≡ at + suc i = omega arith in rw e (h.same (suc i) (omega arith));
    }

-- ---- numbers

pub little-held : (b : List ℕ) (n v at : ℕ) → Holds b at (low_first n v) → v < 256 ^ n → little n b at ≡ v
unfolding little low_first
little-held b zero v at h l = omega arith
little-held b (suc n) v at h l =
    let p = pow-succ' 256 n in
    let m : v / 256 < 256 ^ n = omega arith in
    omega (arith, holds_first b at (v % 256) (low_first n (v / 256)) h, little-held b n (v / 256) (at + 1) (holds_rest b at (v % 256) (low_first n (v / 256)) h) m)

-- ---- an element under a context tag

module _ (b : List ℕ) (at tag kind : ℕ) (c : get_or b at 0 ≡ 32 + kind) (t : get_or b (at + 1) 0 ≡ tag) (k : kind < 24) where
  kind_of_lem : get_or b at 0 % 32 ≡ kind
  kind_of_lem = omega arith

  form_of : get_or b at 0 / 32 ≡ 1
  form_of = omega arith

  is_known : known (get_or b at 0) ≡ true
  unfolding known
  is_known = rw (lt-ltb (get_or b at 0 % 32) 24 (omega (arith, kind_of_lem)))

  tag_of : context_tag b at (get_or b at 0 / 32) ≡ tag
  unfolding context_tag
  tag_of = rw form_of t

  length_from_lem : length_from b at ≡ at + 2
  unfolding length_from tag_size
  length_from_lem = rw form_of (omega arith)

  module _ (from next : ℕ) (f : at + 2 + length_size kind ≡ from) (n : from + size_of b kind (at + 2) ≡ next) (l : next ≤ length b) where
    value-from : value_from b at ≡ from
    unfolding value_from
    value-from = rw (length_from_lem, kind_of_lem) f

    value_end_lem : value_end b at ≡ next
    unfolding value_end
    value_end_lem = rw (value-from, length_from_lem, kind_of_lem) n

    abbrev context_element : Element
    context_element = record { kind = kind; form = 1; tag = tag; value = from; next = next }

    pub element_context : element_at b at ≡ Some context_element
    element_context =
        element_whole b at (omega arith) is_known (omega (arith, value_end_lem))
        ∙ (λ i. Some (record { kind = kind_of_lem i; form = form_of i; tag = tag_of i; value = value-from i; next = value_end_lem i }))

    pub member-context : kind < 21 → member_at b at ≡ Member context_element next
    unfolding opens
    member-context p =
        let o : opens kind ≡ false = rw (le-ltb 20 kind (omega arith)) in
        member_goes b at (omega arith) context_element element_context (λ z. omega arith) next
        (onto b 0 at 0 context_element element_context (nested-plain kind 0 o (λ z. omega arith)))

    -- it leaves the open containers as they were
    context_through : kind < 21 → (level : ℕ) → passed_from b level at ≡ onward b level next
    unfolding opens
    context_through p level =
        let o : opens kind ≡ false = rw (le-ltb 20 kind (omega arith)) in
        onto b level at level context_element element_context (nested-plain kind level o (λ z. omega arith))

-- ---- a number under a context tag

smallest-fits : (v : ℕ) → v < 18446744073709551616 → v < 256 ^ width (smallest v)
unfolding smallest width
smallest-fits v l =
    elim (ltb v 256) as (λ t. ltb v 256 ≡ t → v < 256 ^ get_or (1 ∷ 2 ∷ 4 ∷ 8 ∷ []) (cond t 4 (cond (ltb v 65536) 5 (cond (ltb v 4294967296) 6 7)) % 4) 0) [
      | true ↦ λ q. omega (arith, ltb-true v 256 q)
      | false ↦ λ p.
          elim (ltb v 65536) as (λ t. ltb v 65536 ≡ t → v < 256 ^ get_or (1 ∷ 2 ∷ 4 ∷ 8 ∷ []) (cond t 5 (cond (ltb v 4294967296) 6 7) % 4) 0) [
            | true ↦ λ q. omega (arith, ltb-true v 65536 q)
            | false ↦ λ r.
                elim (ltb v 4294967296) as (λ t. ltb v 4294967296 ≡ t → v < 256 ^ get_or (1 ∷ 2 ∷ 4 ∷ 8 ∷ []) (cond t 6 7 % 4) 0)
                [ true ↦ λ q. omega (arith, ltb-true v 4294967296 q) | false ↦ λ q. omega arith ] refl
          ] refl
    ] refl

module _ (v : ℕ) where
  pub smallest_u8 : v < 256 → smallest v ≤ 4
  unfolding smallest
  smallest_u8 l = rw (lt-ltb v 256 l) (omega arith)

  pub smallest_u16 : v < 65536 → smallest v ≤ 5
  unfolding smallest
  smallest_u16 l =
      elim (ltb v 256) as (λ t. cond t 4 (cond (ltb v 65536) 5 (cond (ltb v 4294967296) 6 7)) ≤ 5)
      [ true ↦ omega arith | false ↦ rw (lt-ltb v 65536 l) (omega arith) ]

  pub smallest_u32 : v < 4294967296 → smallest v ≤ 6
  unfolding smallest
  smallest_u32 l =
      elim (ltb v 256) as (λ t. cond t 4 (cond (ltb v 65536) 5 (cond (ltb v 4294967296) 6 7)) ≤ 6) [
        | true ↦ omega arith
        | false ↦
            elim (ltb v 65536) as (λ t. cond t 5 (cond (ltb v 4294967296) 6 7) ≤ 6)
            [ true ↦ omega arith | false ↦ rw (lt-ltb v 4294967296 l) (omega arith) ]
      ]

module _ (b : List ℕ) (at tag v : ℕ) (h : Holds b at (number_bytes tag v)) where
  plain-length : length_size (smallest v) ≡ 0
  unfolding length_size measured
  plain-length = rw (le-ltb 11 (smallest v) (omega (arith, smallest_le v)))

  plain_size_lem : (from : ℕ) → size_of b (smallest v) from ≡ width (smallest v)
  plain_size_lem from = size_number b (smallest v) from (smallest_le v).1

  abbrev pub number_element : Element
  number_element = record { kind = smallest v; form = 1; tag = tag; value = at + 2; next = at + number_size v }

  first : get_or b at 0 ≡ 32 + smallest v
  first = holds_first b at (32 + smallest v) (tag ∷ low_first (width (smallest v)) v) h

  rest : Holds b (at + 1) (tag ∷ low_first (width (smallest v)) v)
  rest = holds_rest b at (32 + smallest v) (tag ∷ low_first (width (smallest v)) v) h

  low : Holds b (at + 1 + 1) (low_first (width (smallest v)) v)
  low = holds_rest b (at + 1) tag (low_first (width (smallest v)) v) rest

  pub number_element_lem : element_at b at ≡ Some number_element
  number_element_lem =
      element_context b at tag (smallest v) first (holds_first b (at + 1) tag (low_first (width (smallest v)) v) rest) (omega (arith, smallest_le v))
      (at + 2) (at + number_size v) (omega (arith, plain-length)) (omega (arith, plain_size_lem (at + 2))) (omega (arith, h.room, number-length tag v))

  pub number-member : member_at b at ≡ Member number_element (at + number_size v)
  number-member =
      member-context b at tag (smallest v) first (holds_first b (at + 1) tag (low_first (width (smallest v)) v) rest) (omega (arith, smallest_le v))
      (at + 2) (at + number_size v) (omega (arith, plain-length)) (omega (arith, plain_size_lem (at + 2))) (omega (arith, h.room, number-length tag v))
      (omega (arith, smallest_le v))

  pub number_through : (level : ℕ) → passed_from b level at ≡ onward b level (at + number_size v)
  number_through =
      context_through b at tag (smallest v) first (holds_first b (at + 1) tag (low_first (width (smallest v)) v) rest) (omega (arith, smallest_le v))
      (at + 2) (at + number_size v) (omega (arith, plain-length)) (omega (arith, plain_size_lem (at + 2))) (omega (arith, h.room, number-length tag v))
      (omega (arith, smallest_le v))

  pub number-held : (most : ℕ) → smallest v ≤ most → v < 18446744073709551616 → number_at most b at ≡ Some v
  unfolding number_at unsigned
  number-held most l m =
      let e : at + 1 + 1 ≡ at + 2 = omega arith in
      let s = smallest_le v in
      rw (number_element_lem, lt-ltb 3 (smallest v) s.0, le-leb (smallest v) most l, lt-ltb (smallest v) 8 s.1)
      (ap Some (ap (little (width (smallest v)) b) (sym e) ∙ little-held b (width (smallest v)) v (at + 1 + 1) low (smallest-fits v m)))

-- ---- a boolean under a context tag

module _ (b : List ℕ) (at tag : ℕ) (flag : Bool) (h : Holds b at (bool_bytes tag flag)) where
  flag_first : get_or b at 0 ≡ 32 + cond flag 9 8
  flag_first = holds_first b at (32 + cond flag 9 8) (tag ∷ []) h

  flag-tag : get_or b (at + 1) 0 ≡ tag
  flag-tag = holds_first b (at + 1) tag [] (holds_rest b at (32 + cond flag 9 8) (tag ∷ []) h)

  flag_small : (f : Bool) → cond f 9 8 < 21
  flag_small true = omega arith
  flag_small false = omega arith

  flag-length : (f : Bool) → length_size (cond f 9 8) ≡ 0
  unfolding length_size measured
  flag-length true = refl
  flag-length false = refl

  flag-size : (f : Bool) → size_of b (cond f 9 8) (at + 2) ≡ 0
  unfolding size_of measured plain_size
  flag-size true = refl
  flag-size false = refl

  abbrev pub bool_element : Element
  bool_element = record { kind = cond flag 9 8; form = 1; tag = tag; value = at + 2; next = at + 2 }

  bool_element_lem : element_at b at ≡ Some bool_element
  bool_element_lem =
      element_context b at tag (cond flag 9 8) flag_first flag-tag (omega (arith, flag_small flag))
      (at + 2) (at + 2) (omega (arith, flag-length flag)) (omega (arith, flag-size flag)) h.room

  pub bool_member : member_at b at ≡ Member bool_element (at + 2)
  bool_member =
      member-context b at tag (cond flag 9 8) flag_first flag-tag (omega (arith, flag_small flag))
      (at + 2) (at + 2) (omega (arith, flag-length flag)) (omega (arith, flag-size flag)) h.room (flag_small flag)

  pub bool_through : (level : ℕ) → passed_from b level at ≡ onward b level (at + 2)
  bool_through =
      context_through b at tag (cond flag 9 8) flag_first flag-tag (omega (arith, flag_small flag))
      (at + 2) (at + 2) (omega (arith, flag-length flag)) (omega (arith, flag-size flag)) h.room (flag_small flag)

  flag-says : (f : Bool) → cond (eqb (cond f 9 8) 8) (Some false) (cond (eqb (cond f 9 8) 9) (Some true) None) ≡ Some f
  flag-says true = refl
  flag-says false = refl

  pub bool_held : bool_at b at ≡ Some flag
  unfolding bool_at
  bool_held = rw bool_element_lem (flag-says flag)

-- ---- an octet string under a context tag

module _ (b : List ℕ) (at tag : ℕ) (xs : List ℕ) (h : Holds b at (octets_bytes tag xs)) (m : length xs < 18446744073709551616) where
  abbrev octets_kind : ℕ
  octets_kind = smallest (length xs) + 12

  -- the length, and what stands behind it
  abbrev length_bytes : List ℕ
  length_bytes = low_first (width (smallest (length xs))) (length xs)

  octets_first : get_or b at 0 ≡ 32 + octets_kind
  octets_first = holds_first b at (32 + octets_kind) (tag ∷ (length_bytes ++ xs)) h

  octets_rest : Holds b (at + 1) (tag ∷ (length_bytes ++ xs))
  octets_rest = holds_rest b at (32 + octets_kind) (tag ∷ (length_bytes ++ xs)) h

  octets-tag : get_or b (at + 1) 0 ≡ tag
  octets-tag = holds_first b (at + 1) tag (length_bytes ++ xs) octets_rest

  octets_body : Holds b (at + 1 + 1) (length_bytes ++ xs)
  octets_body = holds_rest b (at + 1) tag (length_bytes ++ xs) octets_rest

  octets-width : width octets_kind ≡ width (smallest (length xs))
  unfolding width
  octets-width = let e : octets_kind % 4 ≡ smallest (length xs) % 4 = omega arith in rw e

  is_measured : measured octets_kind ≡ true
  unfolding measured
  is_measured = let s = smallest_le (length xs) in rw (lt-ltb 11 octets_kind (omega arith), lt-ltb octets_kind 20 (omega arith))

  octets-length-size : length_size octets_kind ≡ width (smallest (length xs))
  unfolding length_size
  octets-length-size = rw is_measured octets-width

  octets-size : size_of b octets_kind (at + 2) ≡ length xs
  unfolding size_of
  octets-size =
      let e : at + 2 ≡ at + 1 + 1 = omega arith in
      rw (is_measured, octets-width, e)
      (little-held b (width (smallest (length xs))) (length xs) (at + 1 + 1) (holds_left b (at + 1 + 1) length_bytes xs octets_body) (smallest-fits (length xs) m))

  abbrev pub octets_from : ℕ
  octets_from = at + 2 + width (smallest (length xs))

  abbrev pub octets_element : Element
  octets_element = record { kind = octets_kind; form = 1; tag = tag; value = octets_from; next = at + octets_size (length xs) }

  octets_element_lem : element_at b at ≡ Some octets_element
  octets_element_lem =
      element_context b at tag octets_kind octets_first octets-tag (omega (arith, smallest_le (length xs)))
      octets_from (at + octets_size (length xs)) (omega (arith, octets-length-size)) (omega (arith, octets-size)) (omega (arith, h.room, octets-length tag xs))

  pub octets-member : member_at b at ≡ Member octets_element (at + octets_size (length xs))
  octets-member =
      member-context b at tag octets_kind octets_first octets-tag (omega (arith, smallest_le (length xs)))
      octets_from (at + octets_size (length xs)) (omega (arith, octets-length-size)) (omega (arith, octets-size)) (omega (arith, h.room, octets-length tag xs))
      (omega (arith, smallest_le (length xs)))

  pub octets_through : (level : ℕ) → passed_from b level at ≡ onward b level (at + octets_size (length xs))
  octets_through =
      context_through b at tag octets_kind octets_first octets-tag (omega (arith, smallest_le (length xs)))
      octets_from (at + octets_size (length xs)) (omega (arith, octets-length-size)) (omega (arith, octets-size)) (omega (arith, h.room, octets-length tag xs))
      (omega (arith, smallest_le (length xs)))

  pub octets-held : octets_at b at ≡ Some (span octets_from (at + octets_size (length xs)))
  unfolding octets_at octets
  octets-held =
      let s = smallest_le (length xs) in
      rw (octets_element_lem, lt-ltb 15 octets_kind (omega arith), lt-ltb octets_kind 20 (omega arith))

  -- and the bytes stand there
  pub octets_stand : Holds b octets_from xs
  octets_stand =
      let e : at + 1 + 1 + length length_bytes ≡ octets_from = omega (arith, low_length (width (smallest (length xs))) (length xs)) in
      rw e at (holds_right b (at + 1 + 1) length_bytes xs octets_body)

-- ---- the start of a container under a context tag

module _ (b : List ℕ) (at tag kind : ℕ) (h : Holds b at (context tag kind)) (o : 20 < kind) (k : kind < 24) where
  tagged-length : length_size kind ≡ 0
  unfolding length_size measured
  tagged-length = rw (lt-ltb 11 kind (omega arith), le-ltb kind 20 (omega arith))

  tagged-size : size_of b kind (at + 2) ≡ 0
  unfolding size_of measured plain_size
  tagged-size =
      rw (
        lt-ltb 11 kind (omega arith),
        le-ltb kind 20 (omega arith),
        le-ltb kind 8 (omega arith),
        ne_eqb kind 10 (λ e. omega arith),
        ne_eqb kind 11 (λ e. omega arith),
      )

  pub tagged_element : element_at b at ≡ Some (record { kind = kind; form = 1; tag = tag; value = at + 2; next = at + 2 })
  tagged_element =
      let rest = holds_rest b at (32 + kind) (tag ∷ []) h in
      element_context b at tag kind (holds_first b at (32 + kind) (tag ∷ []) h) (holds_first b (at + 1) tag [] rest) k
      (at + 2) (at + 2) (omega (arith, tagged-length)) (omega (arith, tagged-size)) h.room

  pub tagged_inside : inside_at kind b at ≡ Some (at + 2)
  unfolding inside_at
  tagged_inside = rw (tagged_element, eq-eqb kind kind refl)

  pub tagged_through : (level : ℕ) → passed_from b level at ≡ passed_from b (suc level) (at + 2)
  unfolding opens
  tagged_through level =
      let e : opens kind ≡ true = rw (lt-ltb 20 kind o, lt-ltb kind 24 k) in
      onto b level at (suc level) _ tagged_element (nested_open kind level e) ∙ rw (eqb-suc-zero level)

-- ---- the start of a container without a tag

module _ (b : List ℕ) (at kind : ℕ) (c : get_or b at 0 ≡ kind) (o : 20 < kind) (k : kind < 24) (l : at < length b) where
  open_kind : get_or b at 0 % 32 ≡ kind
  open_kind = omega arith

  open_form : get_or b at 0 / 32 ≡ 0
  open_form = omega arith

  open_known : known (get_or b at 0) ≡ true
  unfolding known
  open_known = rw (lt-ltb (get_or b at 0 % 32) 24 (omega (arith, open_kind)))

  open_from : length_from b at ≡ at + 1
  unfolding length_from tag_size
  open_from = rw open_form (omega arith)

  open_value : value_from b at ≡ at + 1
  unfolding value_from length_size measured
  open_value = rw (open_from, open_kind, lt-ltb 11 kind (omega arith), le-ltb kind 20 (omega arith)) (omega arith)

  open_end : value_end b at ≡ at + 1
  unfolding value_end size_of measured plain_size
  open_end =
      rw (
        open_value,
        open_kind,
        lt-ltb 11 kind (omega arith),
        le-ltb kind 20 (omega arith),
        le-ltb kind 8 (omega arith),
        ne_eqb kind 10 (λ z. omega arith),
        ne_eqb kind 11 (λ z. omega arith),
      ) (omega arith)

  open_tag : context_tag b at (get_or b at 0 / 32) ≡ 0
  unfolding context_tag
  open_tag = rw open_form

  abbrev pub open_element : Element
  open_element = record { kind = kind; form = 0; tag = 0; value = at + 1; next = at + 1 }

  pub open_element_lem : element_at b at ≡ Some open_element
  open_element_lem =
      element_whole b at l open_known (omega (arith, open_end))
      ∙ (λ i. Some (record { kind = open_kind i; form = open_form i; tag = open_tag i; value = open_value i; next = open_end i }))

  pub open_inside : inside_at kind b at ≡ Some (at + 1)
  unfolding inside_at
  open_inside = rw (open_element_lem, eq-eqb kind kind refl)

  pub open_through : (level : ℕ) → passed_from b level at ≡ passed_from b (suc level) (at + 1)
  unfolding opens
  open_through level =
      let e : opens kind ≡ true = rw (lt-ltb 20 kind o, lt-ltb kind 24 k) in
      onto b level at (suc level) open_element open_element_lem (nested_open kind level e) ∙ rw (eqb-suc-zero level)

-- ---- the end of a container

module _ (b : List ℕ) (at : ℕ) (c : get_or b at 0 ≡ 24) (l : at < length b) where
  end_kind : get_or b at 0 % 32 ≡ 24
  end_kind = omega arith

  end_form : get_or b at 0 / 32 ≡ 0
  end_form = omega arith

  end_known : known (get_or b at 0) ≡ true
  unfolding known
  end_known = rw (le-ltb (get_or b at 0 % 32) 24 (omega (arith, end_kind)), eq-eqb (get_or b at 0) 24 c)

  end_from : length_from b at ≡ at + 1
  unfolding length_from tag_size
  end_from = rw end_form (omega arith)

  end_value : value_from b at ≡ at + 1
  unfolding value_from length_size measured
  end_value = rw (end_from, end_kind) (omega arith)

  end_behind : value_end b at ≡ at + 1
  unfolding value_end size_of measured plain_size
  end_behind = rw (end_value, end_kind) (omega arith)

  end_tag : context_tag b at (get_or b at 0 / 32) ≡ 0
  unfolding context_tag
  end_tag = rw end_form

  abbrev end_element : Element
  end_element = record { kind = 24; form = 0; tag = 0; value = at + 1; next = at + 1 }

  pub end_element_lem : element_at b at ≡ Some end_element
  end_element_lem =
      element_whole b at l end_known (omega (arith, end_behind))
      ∙ (λ i. Some (record { kind = end_kind i; form = end_form i; tag = end_tag i; value = end_value i; next = end_behind i }))

  pub end_through : (level : ℕ) → passed_from b (suc level) at ≡ onward b level (at + 1)
  end_through level = onto b (suc level) at level end_element end_element_lem (nested_end 24 (suc level) refl ∙ omega arith)
