-- What the reader still yields from a cursor, as words. Assumes nothing.
use Prim.Native.Nat.{ℕ, zero, suc, ◌+◌, ◌-◌, ◌≤◌, ◌<◌}
use mathlib.Core.Path.{◌≡◌, refl, sym, ap, ◌∙◌}
use mathlib.Core.Bool.{true, false, cond, false≢true}
use mathlib.Core.List.{List, [], ◌∷◌, ◌++◌, map, flat_map}
use native.Mathlib.Omega.{arith}
use lib.Dec.{ltb}
use lib.ListN.{length, set, length-set}
use Rattle.std.proofs.Common.{Option, Some, None}
use Rattle.text_output.specs.Writing.{Sheet, sheet, put_byte, puts}
use Rattle.field_sets.specs.declared.sets.NextSet.TheVariants.{Set, End, NoSet}
use Rattle.field_sets.specs.declared.reader.Cursor.{Cursor}
use Rattle.field_sets.specs.declared.reader.Item.TheVariants.{Cluster, Attribute, Done, Refused}
use Rattle.field_sets.specs.Pairs.{whole_pair, pair_at}
use Rattle.field_sets.specs.Sets.{set_of, next_set}
use Rattle.field_sets.specs.Reader.{ExtensionFieldSet, attributes_from, sets_from, pair_word, pairs_of}
use Rattle.field_sets.specs.Reader.{cursor_of, start, next_item}
use Rattle.field_sets.proofs.SetLaws.{set-within}
use Rattle.field_sets.proofs.Steps.{AtAttribute, at_cluster_lem, at_attribute_lem, at_end_lem, at_refusal}
use Rattle.field_sets.proofs.ReaderLaws.{in_front, attributes-count, sets_end, sets_none, sets_more}
use Rattle.field_pairs.specs.Words.{readable, words_in}

module _ (b : List ℕ) where
  -- the words of the pairs that are to come: of the cluster that was yielded last, and of the sets behind it
  abbrev pub rest_of : ℕ → Cursor → List ℕ
  rest_of cluster c = map (pair_word cluster) (attributes_from b c.left c.pair) ++ words_in (sets_from b c.set)

  -- all of them can be read
  pub record Readable (c : Cursor) : Type 0 where
    pub pairs : length (attributes_from b c.left c.pair) ≡ c.left
    pub sets : readable (sets_from b c.set) ≡ true
    pub inside : c.set ≤ length b

  -- how many steps are left at most
  abbrev pub steps_left : Cursor → ℕ
  steps_left c = c.left + (length b - c.set)

  -- ---- the next item, by whether pairs are left

  words_more : (v f c : ℕ) (r : Option (List ExtensionFieldSet)) → readable (in_front b v f c r) ≡ true →
      (readable r ≡ true) × (words_in (in_front b v f c r) ≡ map (pair_word v) (attributes_from b c f) ++ words_in r)
  unfolding pairs_of flat_map
  words_more v f c None e = absurd (false≢true e)
  words_more v f c (Some ss) e = (refl, refl)

  -- a step to a cluster
  pub record ToCluster (cluster : ℕ) (c : Cursor) (v : ℕ) (d : Cursor) : Type 0 where
    pub rest : rest_of cluster c ≡ rest_of v d
    pub readable : Readable d
    pub less : steps_left d < steps_left c

  -- a step to an attribute
  pub record ToAttribute (cluster : ℕ) (c : Cursor) (a : ℕ) (d : Cursor) : Type 0 where
    pub rest : rest_of cluster c ≡ pair_word cluster a ∷ rest_of cluster d
    pub readable : Readable d
    pub less : steps_left d < steps_left c

  -- ---- what each item says

  attributes_none : (left pair : ℕ) → left ≡ 0 → attributes_from b left pair ≡ []
  unfolding attributes_from
  attributes_none zero pair z = refl
  attributes_none (suc left) pair z = let w : ⊥ = omega (arith, z) in absurd w

  attributes_one :
      (left at a n : ℕ) → (left ≡ 0 → ⊥) → pair_at b at ≡ Some (whole_pair a n) → attributes_from b left at ≡ a ∷ attributes_from b (left - 1) n
  unfolding attributes_from
  attributes_one zero at a n z e = absurd (z refl)
  attributes_one (suc left) at a n z e =
      let k : left ≡ suc left - 1 = omega arith in
      rw e (ap (λ (i : ℕ). a ∷ attributes_from b i n) k)

  attributes-unread : (left at : ℕ) → (left ≡ 0 → ⊥) → pair_at b at ≡ None → attributes_from b left at ≡ []
  unfolding attributes_from
  attributes-unread zero at z e = absurd (z refl)
  attributes-unread (suc left) at z e = rw e

  module _ (cluster : ℕ) (c : Cursor) (q : Readable c) where
    -- a set that stands at the cursor
    set-step : (v f k n : ℕ) → c.left ≡ 0 → next_set b c.set ≡ Set (set_of v f k n) → ToCluster cluster c v (cursor_of f k n)
    set-step v f k n z e =
        let w = set-within b c.set v f k n e in
        let m = sets_more b c.set v f k n e in
        let p = words_more v f k (sets_from b n) (ap readable (sym m) ∙ q.sets) in
        record {
          rest =
              ap (λ (xs : List ℕ). map (pair_word cluster) xs ++ words_in (sets_from b c.set)) (attributes_none c.left c.pair z)
              ∙ ap words_in m
              ∙ p.1;
          readable = record { pairs = attributes-count b f k w.behind w.pairs; sets = p.0; inside = w.inside };
          less = omega (arith, w.roomy, w.inside, z);
        }

    -- a pair that stands there
    pair_step : (a : ℕ) (d : Cursor) → AtAttribute b c a d → ToAttribute cluster c a d
    pair_step a d t =
        let k : attributes_from b c.left c.pair ≡ a ∷ attributes_from b d.left d.pair =
        attributes_one c.left c.pair a d.pair t.more t.pair ∙ ap (λ (i : ℕ). a ∷ attributes_from b i d.pair) (sym t.left) in
        let s = sym t.set in
        record {
          rest = λ i. map (pair_word cluster) (k i) ++ words_in (sets_from b (s i));
          readable = record {
            pairs = omega (arith, ap length k, q.pairs, t.left, t.more);
            sets = ap (λ (i : ℕ). readable (sets_from b i)) t.set ∙ q.sets;
            inside = omega (arith, t.set, q.inside);
          };
          less = omega (arith, t.left, t.set, t.more);
        }

    -- nothing is left
    end_step : c.left ≡ 0 → next_set b c.set ≡ End → rest_of cluster c ≡ []
    unfolding pairs_of flat_map
    end_step z e =
        ap (λ (xs : List ℕ). map (pair_word cluster) xs ++ words_in (sets_from b c.set)) (attributes_none c.left c.pair z)
        ∙ ap words_in (sets_end b c.set e)

    -- what can be read is not refused
    set-refused : {A : Type 0} → next_set b c.set ≡ NoSet → A
    set-refused e = absurd (false≢true (ap readable (sym (sets_none b c.set e)) ∙ q.sets))

    pair_refused : {A : Type 0} → (c.left ≡ 0 → ⊥) → pair_at b c.pair ≡ None → A
    pair_refused z e = let w : ⊥ = omega (arith, ap length (attributes-unread c.left c.pair z e), q.pairs, z) in absurd w

    -- ---- by what the reader yields

    pub to_cluster : (v : ℕ) (d : Cursor) → next_item b c ≡ Cluster v d → ToCluster cluster c v d
    to_cluster v d e = let t = at_cluster_lem b c v d e in set-step v d.pair d.left d.set t.over t.set

    pub to_attribute : (a : ℕ) (d : Cursor) → next_item b c ≡ Attribute a d → ToAttribute cluster c a d
    to_attribute a d e = pair_step a d (at_attribute_lem b c a d e)

    pub to_end : next_item b c ≡ Done → rest_of cluster c ≡ []
    to_end e = let t = at_end_lem b c e in end_step t.0 t.1

    pub to_refusal : {A : Type 0} → next_item b c ≡ Refused → A
    to_refusal e = at_refusal b c e (λ z g. set-refused g) (λ z g. pair_refused z g)

  -- ---- from the start

  pub readable-start : readable (sets_from b 0) ≡ true → Readable start
  unfolding attributes_from
  readable-start e = record { pairs = refl; sets = e; inside = omega arith }

  pub rest_start : (cluster : ℕ) → rest_of cluster start ≡ words_in (sets_from b 0)
  unfolding attributes_from
  rest_start cluster = refl

-- ---- words put one behind the other

put-length : (w : ℕ) (s : Sheet) → length (put_byte w s).bytes ≡ length s.bytes
unfolding put_byte
put-length w s =
    elim (ltb s.next (length s.bytes)) as
    (λ t. length (cond {A = Sheet} t (sheet (set s.bytes s.next w) (s.next + 1)) s).bytes ≡ length s.bytes) [
      | true ↦ length-set s.bytes s.next w
      | false ↦ refl
    ]

-- a word leaves the buffer as long as it was
pub same-room : (w : ℕ) (s t : Sheet) → t ≡ put_byte w s → length t.bytes ≡ length s.bytes
same-room w s t e = ap (λ (x : Sheet). length x.bytes) e ∙ put-length w s

pub put_step : (w v : ℕ) (s t : Sheet) → w ≡ v → t ≡ put_byte w s → (xs : List ℕ) → puts xs t ≡ puts (v ∷ xs) s
unfolding puts
put_step w v s t e f xs = ap (puts xs) (f ∙ ap (λ (x : ℕ). put_byte x s) e)

pub put_same : (xs ys : List ℕ) (s : Sheet) → xs ≡ ys → puts xs s ≡ puts ys s
put_same xs ys s e = ap (λ (zs : List ℕ). puts zs s) e

pub put-nothing : (xs : List ℕ) (s : Sheet) → xs ≡ [] → s ≡ puts xs s
unfolding puts
put-nothing xs s e = ap (λ (ys : List ℕ). puts ys s) (sym e)
