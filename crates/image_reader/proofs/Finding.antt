-- The laws of finding the members of a structure in one walk. Assumes nothing.
use Prim.Native.Nat.{ℕ, ◌≤◌, ◌<◌}
use mathlib.Core.Path.{◌≡◌, refl, sym, ap, subst, ◌∙◌}
use mathlib.Core.Bool.{Bool, true, false, cond, ◌&&◌}
use mathlib.Core.List.{List, [], ◌∷◌}
use native.Mathlib.Omega.{arith}
use lib.Dec.{eqb, ltb}
use lib.ListN.{length, get_or, set, replicate, length-set}
use lib.Seq.{get_or-set_same, get_or-set_other}
use borrow.Author.Tests.{eq-eqb, ne_eqb, eqb-true, eqb-false, lt-ltb, le-ltb}
use Rattle.std.proofs.Common.{None}
use Rattle.tlv.specs.declared.elements.Element.{Element}
use Rattle.tlv.specs.declared.members.Step.TheVariants.{Member, End, Damaged}
use Rattle.tlv.specs.Types.{u8_type, u16_type, u32_type, array_type, context_tagged}
use Rattle.tlv.specs.Values.{number_at, bool_at, octets_at, inside_at}
use Rattle.tlv.specs.Members.{Search, Found, Missing, Spoiled, member_at, tagged, found_from}
use Rattle.tlv.proofs.Heads.{and_both, element_outside}
use Rattle.tlv.proofs.Walks.{member_on, find-ends, find_breaks, find_here, find_on}
use Rattle.image_reader.specs.Entries.{searching, member_number, member_bool, member_octets, key_from}
use Rattle.image_reader.specs.Image.{array_under}
use Rattle.image_reader.specs.Places.{tags, place_of, places_from, noted, key_at}

-- ---- what is read at the place of a member is what the member says: nothing stands behind the last byte

module _ (b : List ℕ) (tag from : ℕ) where
  number_placed : (most : ℕ) → number_at most b (place_of tag b from) ≡ member_number tag most b from
  unfolding number_at member_number
  number_placed most =
      elim (found_from tag b from) as (λ r. number_at most b (searching r (length b) (λ at. at)) ≡ searching r None (number_at most b)) [
        | Found at ↦ refl
        | Missing ↦ rw (element_outside b (length b) (omega arith))
        | Spoiled ↦ rw (element_outside b (length b) (omega arith))
      ]

  bool_placed : bool_at b (place_of tag b from) ≡ member_bool tag b from
  unfolding bool_at member_bool
  bool_placed =
      elim (found_from tag b from) as (λ r. bool_at b (searching r (length b) (λ at. at)) ≡ searching r None (bool_at b)) [
        | Found at ↦ refl
        | Missing ↦ rw (element_outside b (length b) (omega arith))
        | Spoiled ↦ rw (element_outside b (length b) (omega arith))
      ]

  octets_placed : octets_at b (place_of tag b from) ≡ member_octets tag b from
  unfolding octets_at member_octets
  octets_placed =
      elim (found_from tag b from) as (λ r. octets_at b (searching r (length b) (λ at. at)) ≡ searching r None (octets_at b)) [
        | Found at ↦ refl
        | Missing ↦ rw (element_outside b (length b) (omega arith))
        | Spoiled ↦ rw (element_outside b (length b) (omega arith))
      ]

  array_placed : inside_at array_type b (place_of tag b from) ≡ array_under tag b from
  unfolding inside_at array_under
  array_placed =
      elim (found_from tag b from) as (λ r. inside_at array_type b (searching r (length b) (λ at. at)) ≡ searching r None (inside_at array_type b)) [
        | Found at ↦ refl
        | Missing ↦ rw (element_outside b (length b) (omega arith))
        | Spoiled ↦ rw (element_outside b (length b) (omega arith))
      ]

key_placed : (b : List ℕ) (from : ℕ) → key_at b (places_from b from) ≡ key_from b from
unfolding key_at key_from
key_placed b from = rw (number_placed b 0 from u8_type, number_placed b 1 from u16_type, number_placed b 2 from u16_type, number_placed b 3 from u8_type)

-- the members of an entry, of a record and of an image, at the places that were found
module _ (b : List ℕ) (from : ℕ) (ps : List ℕ) (e : ps ≡ places_from b from) where
  pub key-found : key_at b ps ≡ key_from b from
  key-found = ap (key_at b) e ∙ key_placed b from

  pub time-found : number_at u32_type b (get_or ps 4 0) ≡ member_number 4 u32_type b from
  time-found = ap (λ (qs : List ℕ). number_at u32_type b (get_or qs 4 0)) e ∙ number_placed b 4 from u32_type

  pub fields-found : octets_at b (get_or ps 5 0) ≡ member_octets 5 b from
  fields-found = ap (λ (qs : List ℕ). octets_at b (get_or qs 5 0)) e ∙ octets_placed b 5 from

  pub valid-found : bool_at b (get_or ps 4 0) ≡ member_bool 4 b from
  valid-found = ap (λ (qs : List ℕ). bool_at b (get_or qs 4 0)) e ∙ bool_placed b 4 from

  pub entries-found : inside_at array_type b (get_or ps 0 0) ≡ array_under 0 b from
  entries-found = ap (λ (qs : List ℕ). inside_at array_type b (get_or qs 0 0)) e ∙ array_placed b 0 from

  pub records-found : inside_at array_type b (get_or ps 1 0) ≡ array_under 1 b from
  records-found = ap (λ (qs : List ℕ). inside_at array_type b (get_or qs 1 0)) e ∙ array_placed b 1 from

-- ---- the walk: what was noted so far counts before what is still to come

module _ (b : List ℕ) (at : ℕ) where
  abbrev pub or_place : ℕ → ℕ → ℕ
  or_place tag p = cond (eqb p (length b)) (place_of tag b at) p

  abbrev pub completed : List ℕ → List ℕ
  completed ps =
      or_place 0 (get_or ps 0 0)
      ∷ or_place 1 (get_or ps 1 0)
      ∷ or_place 2 (get_or ps 2 0)
      ∷ or_place 3 (get_or ps 3 0)
      ∷ or_place 4 (get_or ps 4 0)
      ∷ or_place 5 (get_or ps 5 0)
      ∷ []

  six : (ps : List ℕ) → length ps ≡ tags → get_or ps 0 0 ∷ get_or ps 1 0 ∷ get_or ps 2 0 ∷ get_or ps 3 0 ∷ get_or ps 4 0 ∷ get_or ps 5 0 ∷ [] ≡ ps
  six [] e = let w : ⊥ = omega arith in absurd w
  six (a ∷ []) e = let w : ⊥ = omega arith in absurd w
  six (a ∷ c ∷ []) e = let w : ⊥ = omega arith in absurd w
  six (a ∷ c ∷ d ∷ []) e = let w : ⊥ = omega arith in absurd w
  six (a ∷ c ∷ d ∷ f ∷ []) e = let w : ⊥ = omega arith in absurd w
  six (a ∷ c ∷ d ∷ f ∷ g ∷ []) e = let w : ⊥ = omega arith in absurd w
  six (a ∷ c ∷ d ∷ f ∷ g ∷ h ∷ []) e = refl
  six (a ∷ c ∷ d ∷ f ∷ g ∷ h ∷ i ∷ ps) e = let w : ⊥ = omega arith in absurd w

  -- where no member stands any more, what was noted is all
  settled : (tag p : ℕ) → place_of tag b at ≡ length b → or_place tag p ≡ p
  settled tag p q =
      (elim (eqb p (length b)) as (λ t. eqb p (length b) ≡ t → cond t (place_of tag b at) p ≡ p) [
        | true ↦ λ e. q ∙ sym (eqb-true p (length b) e)
        | false ↦ λ e. refl
      ]) refl

  all_settled : (ps : List ℕ) → length ps ≡ tags → ((tag : ℕ) → place_of tag b at ≡ length b) → completed ps ≡ ps
  all_settled ps l q =
      rw (
        settled 0 (get_or ps 0 0) (q 0),
        settled 1 (get_or ps 1 0) (q 1),
        settled 2 (get_or ps 2 0) (q 2),
        settled 3 (get_or ps 3 0) (q 3),
        settled 4 (get_or ps 4 0) (q 4),
        settled 5 (get_or ps 5 0) (q 5),
      )
      (six ps l)

  pub places_end : (ps : List ℕ) → length ps ≡ tags → member_at b at ≡ End → completed ps ≡ ps
  places_end ps l e = all_settled ps l (λ tag. ap (λ (r : Search). searching r (length b) (λ i. i)) (find-ends tag b at e))

  pub places_damaged : (ps : List ℕ) → length ps ≡ tags → member_at b at ≡ Damaged → completed ps ≡ ps
  places_damaged ps l e = all_settled ps l (λ tag. ap (λ (r : Search). searching r (length b) (λ i. i)) (find_breaks tag b at e))

-- at first nothing is noted
pub places-start : (b : List ℕ) (from : ℕ) → completed b from (replicate tags (length b)) ≡ places_from b from
places-start b from = rw (eq-eqb (length b) (length b) refl)

module _ (ps : List ℕ) (e : Element) (at none : ℕ) where
  noted-length : length (noted ps e at none) ≡ length ps
  unfolding noted
  noted-length =
      elim (eqb e.form context_tagged && (ltb e.tag tags && eqb (get_or ps e.tag 0) none)) as (λ t. length (cond t (set ps e.tag at) ps) ≡ length ps) [
        | true ↦ length-set ps e.tag at
        | false ↦ refl
      ]

  pub noted_untagged : (e.form ≡ context_tagged → ⊥) → noted ps e at none ≡ ps
  unfolding noted
  noted_untagged f = rw (ne_eqb e.form context_tagged f)

  module _ (f : e.form ≡ context_tagged) where
    pub noted_above : tags ≤ e.tag → noted ps e at none ≡ ps
    unfolding noted
    noted_above l = rw (eq-eqb e.form context_tagged f, le-ltb e.tag tags l)

    module _ (l : e.tag < tags) where
      -- the first member with a tag
      pub noted_first : get_or ps e.tag 0 ≡ none → noted ps e at none ≡ set ps e.tag at
      unfolding noted
      noted_first p = rw (eq-eqb e.form context_tagged f, lt-ltb e.tag tags l, eq-eqb (get_or ps e.tag 0) none p)

      pub noted_again : (get_or ps e.tag 0 ≡ none → ⊥) → noted ps e at none ≡ ps
      unfolding noted
      noted_again p = rw (eq-eqb e.form context_tagged f, lt-ltb e.tag tags l, ne_eqb (get_or ps e.tag 0) none p)

  -- other places stay
  noted_other : (tag : ℕ) → tagged tag e ≡ false → get_or (noted ps e at none) tag 0 ≡ get_or ps tag 0
  unfolding noted tagged
  noted_other tag =
      let first : Bool = ltb e.tag tags && eqb (get_or ps e.tag 0) none in
      elim (eqb e.form context_tagged) as (λ f. (f && eqb e.tag tag) ≡ false → get_or (cond (f && first) (set ps e.tag at) ps) tag 0 ≡ get_or ps tag 0) [
        | true ↦ λ g.
            elim first as (λ t. get_or (cond t (set ps e.tag at) ps) tag 0 ≡ get_or ps tag 0) [
              | true ↦ get_or-set_other ps e.tag tag at 0 (λ q. eqb-false e.tag tag g (sym q))
              | false ↦ refl
            ]
        | false ↦ λ g. refl
      ]

module _ (b : List ℕ) (at : ℕ) (e : Element) (next : ℕ) (m : member_at b at ≡ Member e next) (ps : List ℕ) (l : length ps ≡ tags) where
  abbrev after : List ℕ
  after = noted ps e at (length b)

  placed : Search → ℕ
  placed r = searching r (length b) (λ i. i)

  -- a member with the tag
  step_here : e.tag < tags → tagged e.tag e ≡ true → or_place b next e.tag (get_or after e.tag 0) ≡ or_place b at e.tag (get_or ps e.tag 0)
  unfolding placed tagged
  step_here h s =
      let f = eqb-true e.form context_tagged (and_both (eqb e.form context_tagged) (eqb e.tag e.tag) s).0 in
      let o = member_on b at e next m in
      (elim (eqb (get_or ps e.tag 0) (length b)) as (λ t. eqb (get_or ps e.tag 0) (length b) ≡ t
      → or_place b next e.tag (get_or after e.tag 0) ≡ cond t (place_of e.tag b at) (get_or ps e.tag 0)) [
        | true ↦ λ t.
            ap (λ (qs : List ℕ). or_place b next e.tag (get_or qs e.tag 0)) (noted_first ps e at (length b) f h (eqb-true _ _ t))
            ∙ ap (or_place b next e.tag) (get_or-set_same ps e.tag at 0 (omega arith))
            ∙ rw (ne_eqb at (length b) (λ q. let w : ⊥ = omega arith in absurd w)) (sym (ap placed (find_here e.tag b at e next m s)))
        | false ↦ λ t.
            ap (λ (qs : List ℕ). or_place b next e.tag (get_or qs e.tag 0)) (noted_again ps e at (length b) f h (eqb-false _ _ t))
            ∙ rw t refl
      ]) refl

  step_on : (tag : ℕ) → tagged tag e ≡ false → or_place b next tag (get_or after tag 0) ≡ or_place b at tag (get_or ps tag 0)
  unfolding placed
  step_on tag s =
      ap (or_place b next tag) (noted_other ps e at (length b) tag s)
      ∙ ap (λ (p : ℕ). cond (eqb (get_or ps tag 0) (length b)) p (get_or ps tag 0)) (sym (ap placed (find_on tag b at e next m s)))

  step_place : (tag : ℕ) → tag < tags → or_place b next tag (get_or after tag 0) ≡ or_place b at tag (get_or ps tag 0)
  unfolding tagged
  step_place tag h =
      (elim (tagged tag e) as (λ s. tagged tag e ≡ s → or_place b next tag (get_or after tag 0) ≡ or_place b at tag (get_or ps tag 0)) [
        | true ↦ λ s.
            let g = eqb-true e.tag tag (and_both (eqb e.form context_tagged) (eqb e.tag tag) s).1 in
            subst (λ (t : ℕ). t < tags → tagged t e ≡ true → or_place b next t (get_or after t 0) ≡ or_place b at t (get_or ps t 0)) g step_here h s
        | false ↦ step_on tag
      ]) refl

  step_all : completed b next after ≡ completed b at ps
  step_all = λ i.
      step_place 0 (omega arith) i
      ∷ step_place 1 (omega arith) i
      ∷ step_place 2 (omega arith) i
      ∷ step_place 3 (omega arith) i
      ∷ step_place 4 (omega arith) i
      ∷ step_place 5 (omega arith) i
      ∷ []

  pub places-step : (qs : List ℕ) → qs ≡ after → (length qs ≡ tags) × (completed b next qs ≡ completed b at ps)
  places-step qs q = (ap length q ∙ noted-length ps e at (length b) ∙ l, ap (completed b next) q ∙ step_all)

-- what the code reads at the places that it found
pub ruleset founds = (key-found, time-found, fields-found, valid-found, entries-found, records-found)

pub ruleset notes = (noted_untagged, noted_above, noted_first, noted_again)

-- one member more is looked at
pub ruleset places = (places-start, places-step, places_end, places_damaged, member_on)
