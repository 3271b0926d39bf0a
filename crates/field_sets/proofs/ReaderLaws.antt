-- The laws of the sets in field bytes, of the pairs in them, and of what the reader yields. Assumes nothing.
use Prim.Native.Nat.{ℕ, zero, suc, ◌+◌, ◌-◌, ◌≤◌, ◌<◌}
use mathlib.Core.Path.{◌≡◌, refl, ap, subst, ◌∙◌}
use mathlib.Core.Bool.{true, false, cond}
use mathlib.Core.List.{List, [], ◌∷◌, map, flat_map}
use native.Mathlib.Omega.{arith}
use lib.Dec.{eqb}
use lib.ListN.{length, length-append, length-map}
use Rattle.std.proofs.Common.{Option, Some, None, option_map}
use Rattle.std.proofs.lemmas.Option.{none-some, same_Some}
use Rattle.tlv.specs.Types.{end_type}
use Rattle.tlv.specs.Elements.{element_at}
use Rattle.tlv.specs.Passing.{reading}
use Rattle.tlv_skip.specs.Containers.{Known, Refused, onward, taken, taken_from}
use Rattle.tlv_skip.proofs.Taking.{known_so, unknown}
use Rattle.field_sets.specs.declared.pairs.Pairs.{Pairs}
use Rattle.field_sets.specs.declared.sets.FieldSet.{FieldSet}
use Rattle.field_sets.specs.declared.sets.NextSet.TheVariants.{Set, End, NoSet}
use Rattle.field_sets.specs.Pairs.{whole_pair, pair_at, pair_counted, array_of, pairs_at}
use Rattle.field_sets.specs.Sets.{set_of, next_set, setting}
use Rattle.field_sets.specs.Reader.{ExtensionFieldSet, field_set, attributes_from, sets, sets_from, pair_word, pairs_of, total_of}
use Rattle.field_sets.proofs.PairLaws.{arrayed, counted_on}
use Rattle.field_sets.proofs.SetLaws.{set-within}

-- so many pairs more
abbrev pub raised : ℕ → Option ℕ → Option ℕ
raised n (Some m) = Some (n + m)
raised n None = None

raised_none : (t : Option ℕ) → raised 0 t ≡ t
raised_none (Some m) = ap Some (omega arith)
raised_none None = refl

module _ (b : List ℕ) where
  -- ---- as many attribute numbers as pairs

  attributes_more : (at a m d : ℕ) → pair_at b at ≡ Some (whole_pair a m) → attributes_from b (suc d) at ≡ a ∷ attributes_from b d m
  unfolding attributes_from
  attributes_more at a m d e = rw e

  none_counted : (at : ℕ) → length (attributes_from b 0 at) ≡ 0
  unfolding attributes_from
  none_counted at = refl

  attributes-counted : (k count at c n : ℕ) → taken (pair_counted b) b k count at ≡ Known c n → length (attributes_from b (c - count) at) ≡ c - count
  unfolding taken pair_counted
  attributes-counted zero count at c n = λ e. unknown c n e
  attributes-counted (suc k) count at c n =
      elim (element_at b at) as
      (λ r.
      reading r Refused (λ h. cond (eqb h.kind end_type) (Known count h.next) (onward (reading (pair_at b at) Refused (λ q. Known (count + 1) q.next)) Refused (taken (pair_counted b) b k)))
      ≡ Known c n → length (attributes_from b (c - count) at) ≡ c - count) [
        | Some h ↦
            elim (eqb h.kind end_type) as
            (λ t.
            cond t (Known count h.next) (onward (reading (pair_at b at) Refused (λ q. Known (count + 1) q.next)) Refused (taken (pair_counted b) b k))
            ≡ Known c n → length (attributes_from b (c - count) at) ≡ c - count) [
              | true ↦ λ f.
                  let z : 0 ≡ c - count = omega (arith, known_so count c h.next n f) in
                  subst (λ (d : ℕ). length (attributes_from b d at) ≡ d) z (none_counted at)
              | false ↦
                  elim (pair_at b at) as
                  (λ r.
                  pair_at b at ≡ r →
                  onward (reading r Refused (λ q. Known (count + 1) q.next)) Refused (taken (pair_counted b) b k) ≡ Known c n →
                  length (attributes_from b (c - count) at) ≡ c - count) [
                    | Some q ↦ λ p f.
                        let m : ℕ = q.next in
                        let o = counted_on b k (count + 1) m c n f in
                        let z : suc (c - (count + 1)) ≡ c - count = omega (arith, o.0) in
                        subst (λ (d : ℕ). length (attributes_from b d at) ≡ d) z
                        (ap length (attributes_more at q.attribute m (c - (count + 1)) p) ∙ ap suc (attributes-counted k (count + 1) m c n f))
                    | None ↦ λ p f. unknown c n f
                  ] refl
            ]
        | None ↦ λ f. unknown c n f
      ]

  pub attributes-count : (f c n : ℕ) → pairs_at b f ≡ Some (array_of f c n) → length (attributes_from b c f) ≡ c
  unfolding pairs_at
  attributes-count f c n =
      elim (taken_from (pair_counted b) b 0 f) as
      (λ r. taken_from (pair_counted b) b 0 f ≡ r → arrayed b f r ≡ Some (array_of f c n) → length (attributes_from b c f) ≡ c) [
        | Known d m ↦ λ e q.
            let y : d ≡ c = ap (λ (x : Pairs). x.count) (same_Some (array_of f d m) (array_of f c n) q) in
            let z : d - 0 ≡ c = omega (arith, y) in
            subst (λ (i : ℕ). length (attributes_from b i f) ≡ i) z (attributes-counted (suc (length b)) 0 f d m e)
        | Refused ↦ λ e q. absurd (none-some _ q)
      ] refl

  -- ---- the sets from a position on

  -- a set in front of those that were read behind it
  abbrev pub in_front : ℕ → ℕ → ℕ → Option (List ExtensionFieldSet) → Option (List ExtensionFieldSet)
  in_front v f c r = option_map (λ ss. field_set v (attributes_from b c f) ∷ ss) r

  abbrev stepped : ℕ → FieldSet → Option (List ExtensionFieldSet)
  stepped k s = in_front s.cluster s.first s.count (sets b k s.next)

  -- it does not matter how many sets are allowed, once they are enough
  sets_enough : (k j at : ℕ) → at ≤ length b → length b < k + at → length b < j + at → sets b k at ≡ sets b j at
  unfolding sets
  sets_enough zero j at l p q = let w : ⊥ = omega arith in absurd w
  sets_enough (suc k) zero at l p q = let w : ⊥ = omega arith in absurd w
  sets_enough (suc k) (suc j) at l p q =
      elim (next_set b at) as (λ r. next_set b at ≡ r → setting r (Some []) None (stepped k) ≡ setting r (Some []) None (stepped j)) [
        | Set s ↦ λ e.
            let w = set-within b at s.cluster s.first s.count s.next e in
            ap (in_front s.cluster s.first s.count) (sets_enough k j s.next w.inside (omega (arith, w.roomy)) (omega (arith, w.roomy)))
        | End ↦ λ e. refl
        | NoSet ↦ λ e. refl
      ] refl

  module _ (at : ℕ) where
    pub sets_end : next_set b at ≡ End → sets_from b at ≡ Some []
    unfolding sets
    sets_end e = rw e

    pub sets_none : next_set b at ≡ NoSet → sets_from b at ≡ None
    unfolding sets
    sets_none e = rw e

    pub sets_more : (v f c n : ℕ) → next_set b at ≡ Set (set_of v f c n) → sets_from b at ≡ in_front v f c (sets_from b n)
    unfolding sets
    sets_more v f c n e =
        let w = set-within b at v f c n e in
        rw e (ap (in_front v f c) (sets_enough (length b) (suc (length b)) n w.inside (omega (arith, w.roomy)) (omega (arith, w.roomy))))

  -- ---- how many pairs there are

  pairs_more : (v : ℕ) (xs : List ℕ) (ss : List ExtensionFieldSet) → length (pairs_of (field_set v xs ∷ ss)) ≡ length xs + length (pairs_of ss)
  unfolding pairs_of flat_map
  pairs_more v xs ss = length-append (map (pair_word v) xs) (pairs_of ss) ∙ ap (λ (n : ℕ). n + length (pairs_of ss)) (length-map xs (pair_word v))

  total_more :
      (total v f c : ℕ) (r : Option (List ExtensionFieldSet)) →
      length (attributes_from b c f) ≡ c →
      raised total (total_of (in_front v f c r)) ≡ raised (total + c) (total_of r)
  total_more total v f c None e = refl
  total_more total v f c (Some ss) e =
      ap Some (ap (λ (n : ℕ). total + n) (pairs_more v (attributes_from b c f) ss ∙ ap (λ (n : ℕ). n + length (pairs_of ss)) e) ∙ omega arith)

  -- from a position on, with so many in front of it
  abbrev pub total_from : ℕ → ℕ → Option ℕ
  total_from total at = raised total (total_of (sets_from b at))

  module _ (total at : ℕ) where
    pub total_ends : next_set b at ≡ End → total_from total at ≡ Some total
    unfolding pairs_of flat_map
    total_ends e = ap (λ (r : Option (List ExtensionFieldSet)). raised total (total_of r)) (sets_end at e) ∙ ap Some (omega arith)

    pub total_fails : next_set b at ≡ NoSet → total_from total at ≡ None
    total_fails e = ap (λ (r : Option (List ExtensionFieldSet)). raised total (total_of r)) (sets_none at e)

    pub total_goes : (v f c n : ℕ) → next_set b at ≡ Set (set_of v f c n) → total_from total at ≡ total_from (total + c) n
    total_goes v f c n e =
        let w = set-within b at v f c n e in
        ap (λ (r : Option (List ExtensionFieldSet)). raised total (total_of r)) (sets_more at v f c n e)
        ∙ total_more total v f c (sets_from b n) (attributes-count f c w.behind w.pairs)

  pub total_begins : total_from 0 0 ≡ total_of (sets_from b 0)
  total_begins = raised_none (total_of (sets_from b 0))

-- how the pairs are counted
pub ruleset total_laws = (total_ends, total_fails, total_goes, total_begins)
