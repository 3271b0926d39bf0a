-- Field bytes that are written are read back. Assumes nothing.
use Prim.Native.Nat.{ℕ, suc, ◌+◌, ◌^◌, ◌≤◌, ◌<◌}
use mathlib.Core.Path.{◌≡◌, refl, sym, ap, subst, ◌∙◌}
use mathlib.Core.Bool.{false}
use mathlib.Core.List.{List, [], ◌∷◌, ◌++◌, append_assoc, map, map-map, map-id, flat_map}
use native.Mathlib.Omega.{arith}
use lib.ListN.{length, get_or, length-append}
use borrow.Author.Tests.{lt-ltb, le-ltb, eq-eqb, ne_eqb}
use Rattle.std.proofs.Common.{Option, Some, None, option_map}
use Rattle.tlv.specs.declared.elements.Element.{Element}
use Rattle.tlv.specs.Types.{struct_type, array_type, end_type, u64_type}
use Rattle.tlv.specs.Elements.{opens, element_at}
use Rattle.tlv.specs.Passing.{reading}
use Rattle.tlv.specs.Members.{tagged}
use Rattle.tlv.specs.Encoding.{smallest, context, number_bytes, number_size, Holds}
use Rattle.tlv.proofs.Codes.{smallest_le, number-length}
use Rattle.tlv.proofs.Trips.{holds_left, holds_right, holds_first, holds_rest}
use Rattle.tlv.proofs.Trips.{number_element, number_element_lem, number-held, tagged_element, open_element_lem, end_element_lem}
use Rattle.tlv_skip.specs.Skipping.{skipped}
use Rattle.tlv_skip.proofs.Skips.{skip_plain}
use Rattle.field_sets.specs.declared.sets.FieldSet.{FieldSet}
use Rattle.field_sets.specs.declared.sets.NextSet.TheVariants.{Set, End, NoSet}
use Rattle.field_sets.specs.Pairs.{max_depth, number_tag, structure_at, number_once, whole_pair, pair_at, array_of, pairs_at}
use Rattle.field_sets.specs.Sets.{pairs_tag, set_of, set_at, next_set}
use Rattle.field_sets.specs.Reader.{ExtensionFieldSet, field_set, attributes_from, sets_from}
use Rattle.field_sets.proofs.PairLaws.{paired_from, pair_number, pair_other, pair_ends, pair_begins}
use Rattle.field_sets.proofs.PairLaws.{arrayed_from, array_goes, array-ends, array_begins}
use Rattle.field_sets.proofs.SetLaws.{settled_from, set-number, set-array, set-ends, set_begins}
use Rattle.field_sets.proofs.ReaderLaws.{in_front, sets_end, sets_more}
use Rattle.field_examples.specs.Encoding.{Other, WrittenPair, WrittenSet, bare, other_bytes, pair_bytes, set_bytes, field_bytes}
use Rattle.field_examples.specs.Encoding.{Every, SmallOther, SmallPair, SmallSet, AllSmall, ReadsBack}
use Rattle.field_examples.specs.Encoding.{plain_pair, plain_set, SmallNumbers, PlainReadsBack}

-- ---- what is held, part by part

-- the bytes of a list of things, one behind the other
module _ {A : Type 0} (f : A → List ℕ) (x : A) (xs : List A) where
  more_length : length (flat_map f (x ∷ xs)) ≡ length (f x) + length (flat_map f xs)
  unfolding flat_map
  more_length = length-append (f x) (flat_map f xs)

  module _ (b : List ℕ) (at : ℕ) (ys : List ℕ) (h : Holds b at (flat_map f (x ∷ xs) ++ ys)) where
    all_held : Holds b at (f x ++ (flat_map f xs ++ ys))
    unfolding flat_map
    all_held = subst (Holds b at) (append_assoc (f x) (flat_map f xs) ys) h

    first_held : Holds b at (f x)
    first_held = holds_left b at (f x) (flat_map f xs ++ ys) all_held

    more_held : Holds b (at + length (f x)) (flat_map f xs ++ ys)
    more_held = holds_right b at (f x) (flat_map f xs ++ ys) all_held

module _ (b : List ℕ) where
  -- ---- the start of a structure

  module _ (at : ℕ) (xs : List ℕ) (h : Holds b at (struct_type ∷ xs)) where
    abbrev struct_element : Element
    struct_element = record { kind = struct_type; form = 0; tag = 0; value = at + 1; next = at + 1 }

    struct_element_lem : element_at b at ≡ Some struct_element
    struct_element_lem = open_element_lem b at struct_type (holds_first b at struct_type xs h) (omega arith) (omega arith) (omega (arith, h.room))

    struct_inside : structure_at b at ≡ Some (at + 1)
    unfolding structure_at
    struct_inside = rw struct_element_lem

  -- ---- a number

  module _ (at tag v : ℕ) (h : Holds b at (number_bytes tag v)) where
    number_goes : smallest v ≡ end_type → ⊥
    number_goes z = omega (arith, smallest_le v)

    number-other : 1 ≤ tag → tagged number_tag (number_element b at tag v h) ≡ false
    unfolding tagged
    number-other l = rw (ne_eqb tag 0 (λ z. omega arith))

    number-skipped : skipped max_depth b at ≡ Some (at + number_size v)
    unfolding opens
    number-skipped =
        let o : opens (smallest v) ≡ false = rw (le-ltb 20 (smallest v) (omega (arith, smallest_le v))) in
        skip_plain b at _ (number_element_lem b at tag v h) max_depth o

    number-once : v < 2 ^ 32 → number_once b at None ≡ Some v
    number-once l = rw (number-held b at tag v h u64_type (omega (arith, smallest_le v)) (omega arith), lt-ltb v (2 ^ 32) l)

  -- what stands behind it
  number_behind : (at tag v : ℕ) (ys : List ℕ) → Holds b at (number_bytes tag v ++ ys) → Holds b (at + number_size v) ys
  number_behind at tag v ys h =
      let e : at + length (number_bytes tag v) ≡ at + number_size v = omega (arith, number-length tag v) in
      subst (λ (k : ℕ). Holds b k ys) e (holds_right b at (number_bytes tag v) ys h)

  -- ---- a pair

  others-read :
      (a : ℕ) (os : List Other) → Every SmallOther os → (at : ℕ) →
      Holds b at (flat_map other_bytes os ++ (end_type ∷ [])) →
      paired_from b (Some a) at ≡ Some (whole_pair a (at + length (flat_map other_bytes os) + 1))
  unfolding flat_map
  others-read a [] s at h =
      pair_ends b (Some a) at _ (end_element_lem b at (holds_first b at end_type [] h) (omega (arith, h.room))) refl ∙ ap (λ (n : ℕ). Some (whole_pair a n)) (omega arith)
  others-read a (o ∷ os) s at h =
      let g = first_held other_bytes o os b at (end_type ∷ []) h in
      let n = number-length o.tag o.value in
      let e : at + length (other_bytes o) ≡ at + number_size o.value = omega (arith, n) in
      let r = subst (λ (k : ℕ). Holds b k (flat_map other_bytes os ++ (end_type ∷ []))) e (more_held other_bytes o os b at (end_type ∷ []) h) in
      pair_other b (Some a) at _ (number_element_lem b at o.tag o.value g) (number_goes at o.tag o.value g)
      (number-other at o.tag o.value g s.0.tagged) _ (number-skipped at o.tag o.value g)
      ∙ others-read a os s.1 (at + number_size o.value) r
      ∙ ap (λ (n : ℕ). Some (whole_pair a n)) (omega (arith, n, more_length other_bytes o os))

  pair_read :
      (p : WrittenPair) → SmallPair p → (at : ℕ) → Holds b at (pair_bytes p) →
      pair_at b at ≡ Some (whole_pair p.attribute (at + length (pair_bytes p)))
  unfolding pair_at tagged
  pair_read p s at h =
      let os = flat_map other_bytes p.others in
      let within = holds_rest b at struct_type (number_bytes number_tag p.attribute ++ (os ++ (end_type ∷ []))) h in
      let number = holds_left b (at + 1) (number_bytes number_tag p.attribute) (os ++ (end_type ∷ [])) within in
      let behind = number_behind (at + 1) number_tag p.attribute (os ++ (end_type ∷ [])) within in
      let n = number-length number_tag p.attribute in
      rw (struct_inside at (number_bytes number_tag p.attribute ++ (os ++ (end_type ∷ []))) h)
      (sym (pair_begins b (at + 1))
      ∙ pair_number b None (at + 1) _ (number_element_lem b (at + 1) number_tag p.attribute number)
      (number_goes (at + 1) number_tag p.attribute number) refl p.attribute (number-once (at + 1) number_tag p.attribute number s.attribute)
      ∙ others-read p.attribute p.others s.others (at + 1 + number_size p.attribute) behind
      ∙ ap (λ (n : ℕ). Some (whole_pair p.attribute n))
      (omega (arith, n, length-append (number_bytes number_tag p.attribute) (os ++ (end_type ∷ [])), length-append os (end_type ∷ []))))

  -- ---- an array of pairs

  -- what stands behind the pairs: the end of the array, and more
  pairs-read :
      (first : ℕ) (ps : List WrittenPair) → Every SmallPair ps → (count at : ℕ) (rest : List ℕ) →
      Holds b at (flat_map pair_bytes ps ++ (end_type ∷ rest)) →
      arrayed_from b first count at ≡ Some (array_of first (count + length ps) (at + length (flat_map pair_bytes ps) + 1))
  unfolding flat_map
  pairs-read first [] s count at rest h =
      array-ends b first count at _ (end_element_lem b at (holds_first b at end_type rest h) (omega (arith, h.room))) refl
      ∙ ap (λ (n : ℕ). Some (array_of first n (at + 1))) (omega arith)
      ∙ ap (λ (n : ℕ). Some (array_of first (count + 0) n)) (omega arith)
  pairs-read first (p ∷ ps) s count at rest h =
      let g = first_held pair_bytes p ps b at (end_type ∷ rest) h in
      array_goes b first count at _ (struct_element_lem at _ g) (λ z. omega arith) p.attribute _ (pair_read p s.0 at g)
      ∙ pairs-read first ps s.1 (count + 1) (at + length (pair_bytes p)) rest (more_held pair_bytes p ps b at (end_type ∷ rest) h)
      ∙ ap (λ (n : ℕ). Some (array_of first n (at + length (pair_bytes p) + length (flat_map pair_bytes ps) + 1))) (omega arith)
      ∙ ap (λ (n : ℕ). Some (array_of first (count + suc (length ps)) n)) (omega (arith, more_length pair_bytes p ps))

  attributes-read :
      (ps : List WrittenPair) → Every SmallPair ps → (at : ℕ) (rest : List ℕ) →
      Holds b at (flat_map pair_bytes ps ++ rest) →
      attributes_from b (length ps) at ≡ map (λ (p : WrittenPair). p.attribute) ps
  unfolding attributes_from
  attributes-read [] s at rest h = refl
  attributes-read (p ∷ ps) s at rest h =
      rw (pair_read p s.0 at (first_held pair_bytes p ps b at rest h))
      (ap (λ (xs : List ℕ). p.attribute ∷ xs) (attributes-read ps s.1 (at + length (pair_bytes p)) rest (more_held pair_bytes p ps b at rest h)))

  -- ---- a set

  module _ (s : WrittenSet) (fits : SmallSet s) (at : ℕ) (h : Holds b at (set_bytes s)) where
    -- the bytes of the pairs, and what stands behind them, behind the array's head, and behind the cluster number
    abbrev pairs : List ℕ
    pairs = flat_map pair_bytes s.pairs

    abbrev ends : List ℕ
    ends = end_type ∷ end_type ∷ []

    abbrev headed : List ℕ
    headed = context pairs_tag array_type ++ (pairs ++ ends)

    abbrev members : List ℕ
    members = number_bytes number_tag s.cluster ++ headed

    -- the positions of the array, of its first pair, and behind it
    abbrev array_from : ℕ
    array_from = at + 1 + number_size s.cluster

    abbrev first : ℕ
    first = array_from + 2

    abbrev behind : ℕ
    behind = first + length pairs + 1

    members_held : Holds b (at + 1) members
    members_held = holds_rest b at struct_type members h

    cluster-held : Holds b (at + 1) (number_bytes number_tag s.cluster)
    cluster-held = holds_left b (at + 1) (number_bytes number_tag s.cluster) headed members_held

    array-held : Holds b array_from headed
    array-held = number_behind (at + 1) number_tag s.cluster headed members_held

    head-held : Holds b array_from (context pairs_tag array_type)
    head-held = holds_left b array_from (context pairs_tag array_type) (pairs ++ ends) array-held

    pairs-held : Holds b first (pairs ++ ends)
    pairs-held = holds_right b array_from (context pairs_tag array_type) (pairs ++ ends) array-held

    end_held : Holds b behind (end_type ∷ [])
    end_held = holds_rest b (first + length pairs) end_type (end_type ∷ []) (holds_right b first pairs ends pairs-held)

    array-read : pairs_at b first ≡ Some (array_of first (length s.pairs) behind)
    array-read =
        sym (array_begins b first)
        ∙ pairs-read first s.pairs fits.pairs 0 first (end_type ∷ []) pairs-held
        ∙ ap (λ (n : ℕ). Some (array_of first n behind)) (omega arith)

    members_read_lem : settled_from b None None (at + 1) ≡ Some (set_of s.cluster first (length s.pairs) (behind + 1))
    unfolding tagged
    members_read_lem =
        set-number b None None (at + 1) _ (number_element_lem b (at + 1) number_tag s.cluster cluster-held)
        (number_goes (at + 1) number_tag s.cluster cluster-held) refl s.cluster
        (number-once (at + 1) number_tag s.cluster cluster-held fits.cluster)
        ∙ set-array b (Some s.cluster) None array_from _ (tagged_element b array_from pairs_tag array_type head-held (omega arith) (omega arith))
        (λ z. omega arith) refl refl first (length s.pairs) behind array-read
        ∙ set-ends b (Some s.cluster) (Some (array_of first (length s.pairs) behind)) behind _
        (end_element_lem b behind (holds_first b behind end_type [] end_held) (omega (arith, end_held.room))) refl

    abbrev next : ℕ
    next = at + length (set_bytes s)

    next_position : behind + 1 ≡ next
    next_position =
        omega (
          arith,
          number-length number_tag s.cluster,
          length-append (number_bytes number_tag s.cluster) headed,
          length-append (context pairs_tag array_type) (pairs ++ ends),
          length-append pairs ends,
        )

    set-read : next_set b at ≡ Set (set_of s.cluster first (length s.pairs) next)
    unfolding next_set set_at
    set-read =
        rw (ne_eqb (length b) 0 (λ z. omega (arith, h.room)), struct_element_lem at members h, struct_inside at members h)
        (ap (λ (r : Option FieldSet). reading r NoSet Set) (sym (set_begins b (at + 1)) ∙ members_read_lem)
        ∙ ap (λ (n : ℕ). Set (set_of s.cluster first (length s.pairs) n)) next_position)

    set_in_front : (r : Option (List ExtensionFieldSet)) → in_front b s.cluster first (length s.pairs) r ≡ option_map (λ ss. bare s ∷ ss) r
    set_in_front r =
        ap (λ (xs : List ℕ). option_map (λ ss. field_set s.cluster xs ∷ ss) r) (attributes-read s.pairs fits.pairs first ends pairs-held)

  -- ---- the sets up to the end

  end_read : (at : ℕ) → Holds b at (end_type ∷ []) → at + 1 ≡ length b → next_set b at ≡ End
  unfolding next_set
  end_read at h e =
      rw (
        ne_eqb (length b) 0 (λ z. omega arith),
        end_element_lem b at (holds_first b at end_type [] h) (omega arith),
        eq-eqb (at + 1) (length b) e,
      )

  sets-read :
      (ss : List WrittenSet) → AllSmall ss → (at : ℕ) → Holds b at (field_bytes ss) → at + length (field_bytes ss) ≡ length b →
      sets_from b at ≡ Some (map bare ss)
  unfolding flat_map
  sets-read [] s at h e = sets_end b at (end_read at h e)
  sets-read (x ∷ xs) s at h e =
      let g = first_held set_bytes x xs b at (end_type ∷ []) h in
      let n = next x s.0 at g in
      sets_more b at x.cluster (first x s.0 at g) (length x.pairs) n (set-read x s.0 at g)
      ∙ set_in_front x s.0 at g (sets_from b n)
      ∙ ap (option_map (λ ss. bare x ∷ ss))
      (sets-read xs s.1 n (more_held set_bytes x xs b at (end_type ∷ []) h)
      (omega (
        arith,
        e,
        length-append (flat_map set_bytes (x ∷ xs)) (end_type ∷ []),
        length-append (flat_map set_bytes xs) (end_type ∷ []),
        more_length set_bytes x xs,
      )))

-- ---- the theorems

pub reads_back : ReadsBack
reads_back ss s =
    let b = field_bytes ss in
    let h : Holds b 0 b = record { room = omega arith; same = λ i l. let e : 0 + i ≡ i = omega arith in ap (λ (k : ℕ). get_or b k 0) e } in
    sets-read b ss s 0 h (omega arith)

-- the plain encoding has no other numbers
plain_pairs_small : (xs : List ℕ) → Every (λ (a : ℕ). a < 2 ^ 32) xs → Every SmallPair (map plain_pair xs)
plain_pairs_small [] s = tt
plain_pairs_small (x ∷ xs) s = (record { attribute = s.0; others = tt }, plain_pairs_small xs s.1)

plain_small : (ss : List ExtensionFieldSet) → Every SmallNumbers ss → AllSmall (map plain_set ss)
plain_small [] s = tt
plain_small (x ∷ xs) s =
    (record { cluster = s.0.cluster; pairs = plain_pairs_small x.attributes s.0.attributes }, plain_small xs s.1)

plain-attributes : (xs : List ℕ) → map (λ (p : WrittenPair). p.attribute) (map plain_pair xs) ≡ xs
plain-attributes xs = map-map (λ (p : WrittenPair). p.attribute) plain_pair xs ∙ map-id xs

plain-bare : (ss : List ExtensionFieldSet) → map bare (map plain_set ss) ≡ ss
plain-bare [] = refl
plain-bare (x ∷ xs) = λ i. field_set x.cluster (plain-attributes x.attributes i) ∷ plain-bare xs i

pub plain_reads_back : PlainReadsBack
plain_reads_back ss s = reads_back (map plain_set ss) (plain_small ss s) ∙ ap Some (plain-bare ss)
