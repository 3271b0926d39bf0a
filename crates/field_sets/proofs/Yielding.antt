-- The reader yields the sets of the bytes and their pairs, in order, and then says that it is done; or it refuses them. Assumes nothing.
use Prim.Native.Nat.{ℕ, zero, suc, ◌+◌, ◌-◌, ◌≤◌, ◌<◌}
use mathlib.Core.Path.{◌≡◌, refl, sym, ap, subst}
use mathlib.Core.List.{List, [], ◌∷◌, ◌++◌, map, flat_map}
use native.Mathlib.Omega.{arith}
use lib.ListN.{length}
use borrow.Author.Tests.{ne_eqb}
use Rattle.std.proofs.Common.{Option, Some, None, option_map}
use Rattle.tlv.specs.Passing.{reading}
use Rattle.field_sets.specs.declared.sets.NextSet.TheVariants.{Set, End, NoSet}
use Rattle.field_sets.specs.declared.reader.Item.TheVariants as item
use Rattle.field_sets.specs.Pairs.{whole_pair, pair_at}
use Rattle.field_sets.specs.Sets.{set_of, next_set, setting}
use Rattle.field_sets.specs.Reader.{ExtensionFieldSet, field_set, attributes_from, sets, cursor_of, next_item}
use Rattle.field_sets.specs.Reader.{Yield, cluster, attribute, items_of, yielded, Walk, done, refused, at_cluster, at_attribute, Yields}
use Rattle.field_sets.proofs.SetLaws.{set-within}
use Rattle.field_sets.proofs.ReaderLaws.{in_front, attributes-count}

-- attributes in front of what is yielded behind them
abbrev with_attributes : List ℕ → Option (List Yield) → Option (List Yield)
with_attributes xs r = option_map (λ ys. map attribute xs ++ ys) r

none_first : (r : Option (List Yield)) → with_attributes [] r ≡ r
none_first None = refl
none_first (Some ys) = refl

one_first : (a : ℕ) (xs : List ℕ) (r : Option (List Yield)) → yielded (attribute a) (with_attributes xs r) ≡ with_attributes (a ∷ xs) r
one_first a xs None = refl
one_first a xs (Some ys) = refl

set_first : (v : ℕ) (xs : List ℕ) (r : Option (List ExtensionFieldSet)) →
    yielded (cluster v) (with_attributes xs (items_of r)) ≡ items_of (option_map (λ ss. field_set v xs ∷ ss) r)
unfolding flat_map
set_first v xs None = refl
set_first v xs (Some ss) = refl

module _ (b : List ℕ) where
  -- ---- the pairs of a set

  pair_next : (pair left set a n : ℕ) → pair_at b pair ≡ Some (whole_pair a n) → next_item b (cursor_of pair (suc left) set) ≡ item.Attribute a (cursor_of n left set)
  unfolding next_item
  pair_next pair left set a n e =
      let z : suc left - 1 ≡ left = omega arith in
      rw (ne_eqb (suc left) 0 (λ p. let w : ⊥ = omega (arith, p) in absurd w), e) (ap (λ (k : ℕ). item.Attribute a (cursor_of n k set)) z)

  walk_pairs :
      (left pair set : ℕ) (r : Option (List Yield)) →
      ((p : ℕ) → Walk b (cursor_of p 0 set) r) →
      length (attributes_from b left pair) ≡ left →
      Walk b (cursor_of pair left set) (with_attributes (attributes_from b left pair) r)
  unfolding attributes_from
  walk_pairs zero pair set r w = λ l. subst (Walk b (cursor_of pair 0 set)) (sym (none_first r)) (w pair)
  walk_pairs (suc left) pair set r w =
      elim (pair_at b pair) as
      (λ q.
      pair_at b pair ≡ q →
      length (reading q [] (λ p. p.attribute ∷ attributes_from b left p.next)) ≡ suc left →
      Walk b (cursor_of pair (suc left) set) (with_attributes (reading q [] (λ p. p.attribute ∷ attributes_from b left p.next)) r)) [
        | Some p ↦ λ e l.
            let a : ℕ = p.attribute in
            let n : ℕ = p.next in
            subst (Walk b (cursor_of pair (suc left) set)) (one_first a (attributes_from b left n) r)
            (at_attribute
            (cursor_of pair (suc left) set)
            (cursor_of n left set)
            a
            (with_attributes (attributes_from b left n) r)
            (pair_next pair left set a n e)
            (walk_pairs left n set r w (omega (arith, l))))
        | None ↦ λ e l. let w : ⊥ = omega (arith, l) in absurd w
      ] refl

  -- ---- the sets

  module _ (pair set : ℕ) where
    set_next : (v f c n : ℕ) → next_set b set ≡ Set (set_of v f c n) → next_item b (cursor_of pair 0 set) ≡ item.Cluster v (cursor_of f c n)
    unfolding next_item
    set_next v f c n e = rw e

    set-done : next_set b set ≡ End → next_item b (cursor_of pair 0 set) ≡ item.Done
    unfolding next_item
    set-done e = rw e

    set-refused : next_set b set ≡ NoSet → next_item b (cursor_of pair 0 set) ≡ item.Refused
    unfolding next_item
    set-refused e = rw e

  walk_sets : (k at : ℕ) → at ≤ length b → length b < k + at → (p : ℕ) → Walk b (cursor_of p 0 at) (items_of (sets b k at))
  unfolding sets flat_map
  walk_sets zero at l m p = let w : ⊥ = omega arith in absurd w
  walk_sets (suc k) at l m p =
      elim (next_set b at) as
      (λ r. next_set b at ≡ r → Walk b (cursor_of p 0 at) (items_of (setting r (Some []) None (λ s. in_front b s.cluster s.first s.count (sets b k s.next))))) [
        | Set s ↦ λ e.
            let v : ℕ = s.cluster in
            let f : ℕ = s.first in
            let c : ℕ = s.count in
            let n : ℕ = s.next in
            let w = set-within b at v f c n e in
            subst (Walk b (cursor_of p 0 at)) (set_first v (attributes_from b c f) (sets b k n))
            (at_cluster
            (cursor_of p 0 at)
            (cursor_of f c n)
            v
            (with_attributes (attributes_from b c f) (items_of (sets b k n)))
            (set_next p at v f c n e)
            (walk_pairs
            c
            f
            n
            (items_of (sets b k n))
            (walk_sets k n w.inside (omega (arith, w.roomy)))
            (attributes-count b f c w.behind w.pairs)))
        | End ↦ λ e. done (cursor_of p 0 at) (set-done p at e)
        | NoSet ↦ λ e. refused (cursor_of p 0 at) (set-refused p at e)
      ] refl

pub yields : Yields
yields b = walk_sets b (suc (length b)) 0 (omega arith) (omega arith) 0
