-- What a step of the reader says of the bytes. Assumes nothing.
use Prim.Native.Nat.{ℕ, ◌-◌}
use mathlib.Core.Path.{◌≡◌, refl, sym, ap, ◌∙◌}
use mathlib.Core.Bool.{true, false, cond}
use mathlib.Core.List.{List}
use native.Mathlib.Omega.{arith}
use lib.Dec.{eqb}
use borrow.Author.Tests.{eqb-true, eqb-false}
use Rattle.std.proofs.Common.{Option, Some, None}
use Rattle.tlv.specs.Passing.{reading}
use Rattle.field_sets.specs.declared.pairs.Pair.{Pair}
use Rattle.field_sets.specs.declared.sets.NextSet.{NextSet}
use Rattle.field_sets.specs.declared.sets.NextSet.TheVariants.{Set, End, NoSet}
use Rattle.field_sets.specs.declared.reader.Cursor.{Cursor}
use Rattle.field_sets.specs.declared.reader.Item.{Item}
use Rattle.field_sets.specs.declared.reader.Item.TheVariants.{Cluster, Attribute, Done, Refused}
use Rattle.field_sets.specs.Pairs.{whole_pair, pair_at}
use Rattle.field_sets.specs.Sets.{set_of, next_set, setting}
use Rattle.field_sets.specs.Reader.{cursor_of, set_at_cursor, pair_at_cursor, next_item}

-- items of two kinds are never the same
abbrev kind : Item → ℕ
kind (Cluster v d) = 0
kind (Attribute v d) = 1
kind Done = 2
kind Refused = 3

other : {A : Type 0} (i j : Item) → (kind i ≡ kind j → ⊥) → i ≡ j → A
other i j n e = absurd (n (ap kind e))

module _ (b : List ℕ) (c : Cursor) where
  -- ---- what is yielded where no pair is left, and where some are

  abbrev of_set : NextSet → Item
  of_set r = setting r Done Refused λ s. Cluster s.cluster (cursor_of s.first s.count s.next)

  abbrev of_pair : Option Pair → Item
  of_pair r = reading r Refused λ p. Attribute p.attribute (cursor_of p.next (c.left - 1) c.set)

  -- by cases of what is left and of what stands there
  at_item :
      (P : Item → Type 0) →
      (c.left ≡ 0 → (v f k n : ℕ) → next_set b c.set ≡ Set (set_of v f k n) → P (Cluster v (cursor_of f k n))) →
      (c.left ≡ 0 → next_set b c.set ≡ End → P Done) →
      (c.left ≡ 0 → next_set b c.set ≡ NoSet → P Refused) →
      ((c.left ≡ 0 → ⊥) → (a n : ℕ) → pair_at b c.pair ≡ Some (whole_pair a n) → P (Attribute a (cursor_of n (c.left - 1) c.set))) →
      ((c.left ≡ 0 → ⊥) → pair_at b c.pair ≡ None → P Refused) →
      P (next_item b c)
  unfolding next_item
  at_item P set end broken pairs none =
      (elim (eqb c.left 0) as (λ t. eqb c.left 0 ≡ t → P (cond t (set_at_cursor b c) (pair_at_cursor b c))) [
        | true ↦ λ e.
            (elim (next_set b c.set) as (λ r. next_set b c.set ≡ r → P (of_set r)) [
              | Set s ↦ λ g. set (eqb-true c.left 0 e) s.cluster s.first s.count s.next g
              | End ↦ λ g. end (eqb-true c.left 0 e) g
              | NoSet ↦ λ g. broken (eqb-true c.left 0 e) g
            ]) refl
        | false ↦ λ e.
            (elim (pair_at b c.pair) as (λ r. pair_at b c.pair ≡ r → P (of_pair r)) [
              | Some p ↦ λ g. pairs (eqb-false c.left 0 e) p.attribute p.next g
              | None ↦ λ g. none (eqb-false c.left 0 e) g
            ]) refl
      ]) refl

  -- ---- a cluster, an attribute, the end, and a refusal

  pub record AtCluster (v : ℕ) (d : Cursor) : Type 0 where
    pub over : c.left ≡ 0
    pub set : next_set b c.set ≡ Set (set_of v d.pair d.left d.set)

  pub at_cluster_lem : (v : ℕ) (d : Cursor) → next_item b c ≡ Cluster v d → AtCluster v d
  at_cluster_lem v d =
      at_item (λ i. i ≡ Cluster v d → AtCluster v d)
      (λ z w f k n g q.
      let x : w ≡ v = cc in
      let y : cursor_of f k n ≡ d = cc in
      record { over = z; set = g ∙ (λ i. Set (set_of (x i) (y i).pair (y i).left (y i).set)) })
      (λ z g q. other Done (Cluster v d) (λ h. omega arith) q)
      (λ z g q. other Refused (Cluster v d) (λ h. omega arith) q)
      (λ z a n g q. other (Attribute a (cursor_of n (c.left - 1) c.set)) (Cluster v d) (λ h. omega arith) q)
      (λ z g q. other Refused (Cluster v d) (λ h. omega arith) q)

  pub record AtAttribute (v : ℕ) (d : Cursor) : Type 0 where
    pub more : c.left ≡ 0 → ⊥
    pub pair : pair_at b c.pair ≡ Some (whole_pair v d.pair)
    pub left : d.left ≡ c.left - 1
    pub set : d.set ≡ c.set

  pub at_attribute_lem : (v : ℕ) (d : Cursor) → next_item b c ≡ Attribute v d → AtAttribute v d
  at_attribute_lem v d =
      at_item (λ i. i ≡ Attribute v d → AtAttribute v d)
      (λ z w f k n g q. other (Cluster w (cursor_of f k n)) (Attribute v d) (λ h. omega arith) q)
      (λ z g q. other Done (Attribute v d) (λ h. omega arith) q)
      (λ z g q. other Refused (Attribute v d) (λ h. omega arith) q)
      (λ z a n g q.
      let x : a ≡ v = cc in
      let y : cursor_of n (c.left - 1) c.set ≡ d = cc in
      record {
        more = z;
        pair = g ∙ (λ i. Some (whole_pair (x i) (y i).pair));
        left = ap (λ (x : Cursor). x.left) (sym y);
        set = ap (λ (x : Cursor). x.set) (sym y);
      })
      (λ z g q. other Refused (Attribute v d) (λ h. omega arith) q)

  pub at_end_lem : next_item b c ≡ Done → (c.left ≡ 0) × (next_set b c.set ≡ End)
  at_end_lem =
      at_item (λ i. i ≡ Done → (c.left ≡ 0) × (next_set b c.set ≡ End))
      (λ z w f k n g q. other (Cluster w (cursor_of f k n)) Done (λ h. omega arith) q)
      (λ z g q. (z, g))
      (λ z g q. other Refused Done (λ h. omega arith) q)
      (λ z a n g q. other (Attribute a (cursor_of n (c.left - 1) c.set)) Done (λ h. omega arith) q)
      (λ z g q. other Refused Done (λ h. omega arith) q)

  -- no set stands there, or no pair
  pub at_refusal :
      {A : Type 0} →
      next_item b c ≡ Refused →
      (c.left ≡ 0 → next_set b c.set ≡ NoSet → A) →
      ((c.left ≡ 0 → ⊥) → pair_at b c.pair ≡ None → A) →
      A
  at_refusal {A} =
      at_item (λ i. i ≡ Refused → (c.left ≡ 0 → next_set b c.set ≡ NoSet → A) → ((c.left ≡ 0 → ⊥) → pair_at b c.pair ≡ None → A) → A)
      (λ z w f k n g q s p. other (Cluster w (cursor_of f k n)) Refused (λ h. omega arith) q)
      (λ z g q s p. other Done Refused (λ h. omega arith) q)
      (λ z g q s p. s z g)
      (λ z a n g q s p. other (Attribute a (cursor_of n (c.left - 1) c.set)) Refused (λ h. omega arith) q)
      (λ z g q s p. p z g)
