-- What is still to be written of the sets, from a cursor on. Assumes nothing.
use Prim.Native.Nat.{ℕ, zero, suc, ◌+◌, ◌-◌, ◌≤◌}
use mathlib.Core.Path.{◌≡◌, refl, sym, ap, subst, ◌∙◌}
use mathlib.Core.Bool.{Bool, true, false, false≢true}
use mathlib.Core.List.{List, [], ◌∷◌, ◌++◌, append_assoc, flat_map}
use native.Mathlib.Omega.{arith}
use lib.ListN.{length}
use Rattle.std.proofs.Common.{Option, Some, None, IsSome, unwrap_or}
use Rattle.std.proofs.lemmas.Option.{none-some}
use Rattle.words.specs.Constants.{success, bad_field_sets}
use Rattle.state.specs.declared.ScenesState.{ScenesState}
use Rattle.text_output.specs.Writing.{Sheet, puts, writes, newline}
use Rattle.text_output.proofs.Writing.{puts-append, puts_none}
use Rattle.field_sets.specs.declared.reader.Cursor.{Cursor}
use Rattle.field_sets.specs.declared.reader.Item.{Item}
use Rattle.field_sets.specs.declared.reader.Item.TheVariants.{Cluster, Attribute, Done, Refused}
use Rattle.field_sets.specs.Pairs.{whole_pair, pair_at}
use Rattle.field_sets.specs.Reader.{ExtensionFieldSet, field_set, attributes_from, sets_from, sets_in, total_of, start, next_item}
use Rattle.field_sets.proofs.SetLaws.{set-within}
use Rattle.field_sets.proofs.Steps.{at_cluster_lem, at_attribute_lem, at_end_lem, at_refusal}
use Rattle.field_sets.proofs.ReaderLaws.{attributes-count, in_front, sets_end, sets_none, sets_more}
use Rattle.script_answers.specs.Answers.{head_texts}
use Rattle.script_sets.specs.Texts.{cluster_text, attribute_text, attributes_text, each_text, no_sets, sets_text, sets_status, sets_answer, sets_line}

-- one text in front of another
puts_two : (x y z : List ℕ) (s : Sheet) → puts ((x ++ y) ++ z) s ≡ puts (y ++ z) (puts x s)
puts_two x y z s = ap (λ (t : List ℕ). puts t s) (append_assoc x y z) ∙ puts-append x (y ++ z) s

module _ (b : List ℕ) where
  -- ---- the attributes of pairs

  attributes_none : (k at : ℕ) → k ≡ 0 → attributes_from b k at ≡ []
  unfolding attributes_from
  attributes_none zero at e = refl
  attributes_none (suc k) at e = absurd (omega (arith, e))

  attributes-next : (k at a n : ℕ) → (k ≡ 0 → ⊥) → pair_at b at ≡ Some (whole_pair a n) → attributes_from b k at ≡ a ∷ attributes_from b (k - 1) n
  unfolding attributes_from
  attributes-next zero at a n z e = absurd (z refl)
  attributes-next (suc k) at a n z e = let o : k ≡ suc k - 1 = omega arith in rw e (ap (λ (j : ℕ). a ∷ attributes_from b j n) o)

  attributes_broken : (k at : ℕ) → (k ≡ 0 → ⊥) → pair_at b at ≡ None → attributes_from b k at ≡ []
  unfolding attributes_from
  attributes_broken zero at z e = absurd (z refl)
  attributes_broken (suc k) at z e = rw e

  -- ---- what is to be written

  abbrev pending : Cursor → List ExtensionFieldSet → List ℕ
  pending c ss = attributes_text (attributes_from b c.left c.pair) ++ each_text ss

  -- the sets behind a cursor are read, its pairs are there, and what is to be written makes one sheet of another
  pub record Ahead (c : Cursor) (s t : Sheet) : Type 0 where
    pub sets : List ExtensionFieldSet
    pub read : sets_from b c.set ≡ Some sets
    pub counted : length (attributes_from b c.left c.pair) ≡ c.left
    pub inside : c.set ≤ length b
    pub rest : puts (pending c sets) s ≡ t

  -- no pair is left
  pending_over : (c : Cursor) (ss : List ExtensionFieldSet) → c.left ≡ 0 → pending c ss ≡ each_text ss
  unfolding attributes_text
  pending_over c ss z = ap (λ (xs : List ℕ). attributes_text xs ++ each_text ss) (attributes_none c.left c.pair z)

  pub begins : IsSome (sets_in b) → (s : Sheet) → Ahead start s (puts (each_text (unwrap_or (sets_in b) [])) s)
  begins h s =
      elim (sets_in b) as (λ r. sets_in b ≡ r → IsSome r → Ahead start s (puts (each_text (unwrap_or r [])) s)) [
        | None ↦ λ e i. absurd (false≢true i)
        | Some ss ↦ λ e i. record {
          sets = ss;
          read = e;
          counted = ap length (attributes_none 0 0 refl);
          inside = omega arith;
          rest = ap (λ (t : List ℕ). puts t s) (pending_over start ss refl);
        }
      ] refl h

  module _ (c : Cursor) (s t : Sheet) (a : Ahead c s t) where
    -- a set in front of those behind it
    cluster-sets :
        (v : ℕ) (d : Cursor) (r : Option (List ExtensionFieldSet)) →
        c.left ≡ 0 →
        sets_from b d.set ≡ r →
        in_front b v d.pair d.left r ≡ Some a.sets →
        length (attributes_from b d.left d.pair) ≡ d.left →
        d.set ≤ length b →
        Ahead d (puts (cluster_text v d.left) s) t
    unfolding flat_map
    cluster-sets v d None z e q n i = absurd (none-some a.sets q)
    cluster-sets v d (Some ss) z e q n i =
        let xs : List ℕ = attributes_from b d.left d.pair in
        let g : field_set v xs ∷ ss ≡ a.sets = cc in
        record {
          sets = ss;
          read = e;
          counted = n;
          inside = i;
          rest =
              ap (λ (k : ℕ). puts (attributes_text xs ++ each_text ss) (puts (cluster_text v k) s)) (sym n)
              ∙ sym (puts_two (cluster_text v (length xs)) (attributes_text xs) (each_text ss) s)
              ∙ ap (λ (x : List ExtensionFieldSet). puts (each_text x) s) g
              ∙ ap (λ (x : List ℕ). puts x s) (sym (pending_over c a.sets z))
              ∙ a.rest;
        }

    pub shows_cluster : (v : ℕ) (d : Cursor) (u : Sheet) → next_item b c ≡ Cluster v d → u ≡ puts (cluster_text v d.left) s → Ahead d u t
    shows_cluster v d u e q =
        let k = at_cluster_lem b c v d e in
        let w = set-within b c.set v d.pair d.left d.set k.set in
        subst (λ (x : Sheet). Ahead d x t) (sym q)
        (cluster-sets v d (sets_from b d.set) k.over refl
        (sym (sets_more b c.set v d.pair d.left d.set k.set) ∙ a.read)
        (attributes-count b d.pair d.left w.behind w.pairs)
        w.inside)

    pub shows_attribute : (v : ℕ) (d : Cursor) (u : Sheet) → next_item b c ≡ Attribute v d → u ≡ puts (attribute_text v d.left) s → Ahead d u t
    unfolding attributes_text
    shows_attribute v d u e q =
        let k = at_attribute_lem b c v d e in
        let xs : List ℕ = attributes_from b d.left d.pair in
        let more : attributes_from b c.left c.pair ≡ v ∷ xs =
        attributes-next c.left c.pair v d.pair k.more k.pair
        ∙ ap (λ (j : ℕ). v ∷ attributes_from b j d.pair) (sym k.left) in
        let all : suc (length xs) ≡ c.left = sym (ap length more) ∙ a.counted in
        let n : length xs ≡ d.left = omega (arith, all, k.left) in
        record {
          sets = a.sets;
          read = ap (sets_from b) k.set ∙ a.read;
          counted = n;
          inside = omega (arith, a.inside, k.set);
          rest =
              ap (puts (attributes_text xs ++ each_text a.sets)) q
              ∙ ap (λ (j : ℕ). puts (attributes_text xs ++ each_text a.sets) (puts (attribute_text v j) s)) (sym n)
              ∙ sym (puts_two (attribute_text v (length xs)) (attributes_text xs) (each_text a.sets) s)
              ∙ ap (λ (ys : List ℕ). puts (attributes_text ys ++ each_text a.sets) s) (sym more)
              ∙ a.rest;
        }

    pub shows_end : next_item b c ≡ Done → s ≡ t
    unfolding flat_map
    shows_end e =
        let k = at_end_lem b c e in
        let g : Some [] ≡ Some a.sets = sym (sets_end b c.set k.1) ∙ a.read in
        let none_left : [] ≡ a.sets = cc in
        sym (puts_none s)
        ∙ ap (λ (x : List ExtensionFieldSet). puts (each_text x) s) none_left
        ∙ ap (λ (x : List ℕ). puts x s) (sym (pending_over c a.sets k.0))
        ∙ a.rest

    pub shows_no_refusal : {A : Type 0} → next_item b c ≡ Refused → A
    shows_no_refusal e =
        at_refusal b c e
        (λ z g. absurd (none-some a.sets (sym (sets_none b c.set g) ∙ a.read)))
        (λ z g. absurd (z (sym a.counted ∙ ap length (attributes_broken c.left c.pair z g))))

    -- ---- how far it is to the end

    pub nearer_cluster : (v : ℕ) (d : Cursor) → next_item b c ≡ Cluster v d → suc (length b - d.set + d.left) ≤ length b - c.set + c.left
    nearer_cluster v d e =
        let k = at_cluster_lem b c v d e in
        let w = set-within b c.set v d.pair d.left d.set k.set in
        omega (arith, w.roomy, w.inside)

    pub nearer_attribute : (v : ℕ) (d : Cursor) → next_item b c ≡ Attribute v d → suc (length b - d.set + d.left) ≤ length b - c.set + c.left
    nearer_attribute v d e =
        let k = at_attribute_lem b c v d e in
        let more : (c.left ≡ 0 → ⊥) = k.more in
        omega (arith, k.left, k.set, more)

  -- ---- whether there are any sets

  has_some : (v f k : ℕ) (r : Option (List ExtensionFieldSet)) → no_sets (in_front b v f k r) ≡ false
  has_some v f k None = refl
  has_some v f k (Some ss) = refl

  pub has_end : next_item b start ≡ Done → true ≡ no_sets (sets_in b)
  has_end e = ap no_sets (sym (sets_end b 0 (at_end_lem b start e).1))

  has_cluster : (v : ℕ) (d : Cursor) → next_item b start ≡ Cluster v d → false ≡ no_sets (sets_in b)
  has_cluster v d e =
      let k = at_cluster_lem b start v d e in
      sym (ap no_sets (sets_more b 0 v d.pair d.left d.set k.set) ∙ has_some v d.pair d.left (sets_from b d.set))

  has_no_attribute : {A : Type 0} (v : ℕ) (d : Cursor) → next_item b start ≡ Attribute v d → A
  has_no_attribute v d e = absurd ((at_attribute_lem b start v d e).more refl)

  has_refusal : next_item b start ≡ Refused → false ≡ no_sets (sets_in b)
  has_refusal e = at_refusal b start e (λ z g. ap no_sets (sym (sets_none b 0 g))) (λ z g. absurd (z refl))

  -- whatever it yields but the end
  pub has_other : (i : Item) → next_item b start ≡ i → (i ≡ Done → ⊥) → false ≡ no_sets (sets_in b)
  has_other (Cluster v d) e n = has_cluster v d e
  has_other (Attribute v d) e n = has_no_attribute v d e
  has_other Done e n = absurd (n refl)
  has_other Refused e n = has_refusal e

-- ---- all sets

pub text_none : (r : Option (List ExtensionFieldSet)) → no_sets r ≡ true → sets_text r ≡ 32 ∷ 45 ∷ []
text_none None e = absurd (false≢true e)
text_none (Some []) e = refl
text_none (Some (s ∷ ss)) e = absurd (false≢true e)

pub text_some : (r : Option (List ExtensionFieldSet)) → IsSome r → no_sets r ≡ false → sets_text r ≡ each_text (unwrap_or r [])
text_some None i e = absurd (false≢true i)
text_some (Some []) i e = absurd (false≢true (sym e))
text_some (Some (s ∷ ss)) i e = refl

-- ---- the line

pub total_none : (r : Option (List ExtensionFieldSet)) → total_of r ≡ None → r ≡ None
total_none None e = refl
total_none (Some ss) e = absurd (none-some _ (sym e))

pub total_some : (r : Option (List ExtensionFieldSet)) (n : ℕ) → total_of r ≡ Some n → IsSome r
total_some None n e = absurd (none-some n e)
total_some (Some ss) n e = refl

status_some : (r : Option (List ExtensionFieldSet)) → IsSome r → success ≡ sets_status r
status_some None i = absurd (false≢true i)
status_some (Some ss) i = refl

module _ (trace : Bool) (state : ScenesState) (b : List ℕ) (s : Sheet) where
  abbrev pub headed : ℕ → Sheet
  headed status = writes (head_texts trace 89 (sets_answer state status)) s

  -- t is the sheet with the head, v with the sets, u with the line's end
  pub line_refused : (t u : Sheet) → sets_in b ≡ None → t ≡ headed bad_field_sets → u ≡ puts newline t → u ≡ sets_line trace state b s
  unfolding sets_line
  line_refused t u e p q =
      q
      ∙ ap (puts newline) (p ∙ sym (puts_none (headed bad_field_sets)))
      ∙ ap (λ (r : Option (List ExtensionFieldSet)). puts newline (puts (sets_text r) (headed (sets_status r)))) (sym e)

  pub line_shown :
      (t v u : Sheet) →
      IsSome (sets_in b) →
      t ≡ headed success →
      v ≡ puts (sets_text (sets_in b)) t →
      u ≡ puts newline v →
      u ≡ sets_line trace state b s
  unfolding sets_line
  line_shown t v u i p q r =
      r
      ∙ ap (puts newline) (q ∙ ap (puts (sets_text (sets_in b))) p)
      ∙ ap (λ (k : ℕ). puts newline (puts (sets_text (sets_in b)) (headed k))) (status_some (sets_in b) i)
