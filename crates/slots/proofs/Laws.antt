-- The laws of what is read of the lent lists and written over them. Assumes nothing.
use Prim.Native.Nat.{ℕ, zero, suc, ◌+◌, ◌*◌, ◌-◌, ◌≤◌, ◌<◌}
use mathlib.Core.Path.{◌≡◌, refl, sym, ap, ◌∙◌}
use mathlib.Core.Bool.{Bool, true, false, not, cond}
use mathlib.Core.List.{List, [], ◌∷◌, ◌++◌, map, append_assoc, append-nil, map-append}
use native.Mathlib.Numerals.{add-one}
use mathlib.Core.Logic.{⊎_elim}
use native.Mathlib.Nat.{zero-add, add-sub_cancel_left, le_of_suc-le-suc, eq-or-lt_of_le}
use native.Mathlib.Omega.{arith}
use lib.ListN.{length, take, drop, take-append-drop, get_or, set, length-append, length-set, length-drop, length-map, get_or-append}
use lib.Seq.{paste, paste-zero, paste-suc, drop-paste, length-paste, drop_at, drop-cons, take-length, length-take-le, take-suc-set, drop-set-lt, append_snoc, set_split, drop-drop, take-append_seam, drop-append_seam, get_or-drop, get_or-take}
use Rattle.std.specs.List.{copy_within}
use Rattle.std.proofs.lemmas.List.{set-get_or}
use Rattle.words.proofs.Below.{kept_none, kept_hit, kept_miss, kept_le, kept_under}
use Rattle.words.specs.Below.{any_below, count_below, kept_below}
use Rattle.words.specs.Constants.{stride, max_fields}
use Rattle.words.specs.Words.{within, scene_of}
use Rattle.words.specs.declared.KeyRange.{KeyRange}
use Rattle.std.specs.Prelude.{Option, Ok, Err}
use Rattle.slots.specs.declared.Unsound.{Unsound}
use Rattle.slots.specs.Slots.{Slots, searched, of_four, of_eight, count_keys, length_at, fields_at, length_then, part, overlay, laid, chunks, gathered, outside, scenes_inside, copy_slot}

-- ---- the positions of a block

pub four_any : (p : ℕ → Bool) (i : ℕ) → any_below (λ j. p (i + j)) 4 ≡ of_four p i
unfolding any_below
four_any p i = let e : i + 0 ≡ i = omega arith in rw e

pub eight_any : (p : ℕ → Bool) (i : ℕ) → any_below (λ j. p (i + j)) 8 ≡ of_eight p i
unfolding any_below
eight_any p i = let e : i + 0 ≡ i = omega arith in rw e

-- ---- what a search tells

pub search_sound : (b : Bool) (f g : Option ℕ) → Ok g ≡ searched b f → (b ≡ true) × (g ≡ f)
search_sound true f g e = (refl, cc)
search_sound false f g e = cc

pub search_unsound : (b : Bool) (f : Option ℕ) {u : Unsound} → Err u ≡ searched b f → b ≡ false
search_unsound true f e = cc
search_unsound false f e = refl

-- ---- lists that are alike from a position on

pub same_drop : (a b : List ℕ) (m k : ℕ) → m ≤ k → drop m a ≡ drop m b → drop k a ≡ drop k b
same_drop a b m k h e =
    let q : m + (k - m) ≡ k = omega arith in
    rw (← q, ← drop-drop (k - m) m a, ← drop-drop (k - m) m b, e)

same_get_d : (a b : List ℕ) (m k : ℕ) → m ≤ k → drop m a ≡ drop m b → get_or a k 0 ≡ get_or b k 0
same_get_d a b m k h e =
    let q : m + (k - m) ≡ k = omega arith in
    rw (← q, ← get_or-drop m a (k - m) 0, ← get_or-drop m b (k - m) 0, e)

pub get_d_part : (l : List ℕ) (from n i : ℕ) → i < n → get_or (part from n l) i 0 ≡ get_or l (from + i) 0
get_d_part l from n i h = get_or-take n (drop from l) i 0 h ∙ get_or-drop from l i 0

pub length_part : (l : List ℕ) (from n : ℕ) → from + n ≤ length l → length (part from n l) ≡ n
length_part l from n h = length-take-le n (drop from l) (omega (arith, length-drop from l))

-- the length byte and the bytes up to it, as they stand
pub length_then_lem : (f : List ℕ) (at : ℕ) → at * stride + stride ≤ length f → length_at f at ≤ max_fields → length_then (fields_at f at) ≡ part (at * stride) (length_at f at + 1) f
length_then_lem f at h l =
    let n = length_at f at in
    let e : length (fields_at f at) ≡ n = length_part f (at * stride + 1) n (omega arith) in
    ap (λ (k : ℕ). k ∷ fields_at f at) e
    ∙ ap (λ (k : ℕ). n ∷ part k n f) (add-one (at * stride))
    ∙ ap (take (suc n)) (sym (drop-cons f (at * stride) 0 (omega arith)))
    ∙ ap (λ (k : ℕ). part (at * stride) k f) (sym (add-one n))

-- ---- what is written over a list

-- the copy of a whole list
pub paste_overlay : (old new : List ℕ) (at : ℕ) → paste old at new (length new) ≡ overlay at new old
unfolding overlay
paste_overlay old new at = rw (take-length new)

-- the bytes from one place to another, as `copy_within` copies them
pub copied_within : (f : List ℕ) (from end to n : ℕ) → end ≡ from + n → from + n ≤ length f → copy_within f from end to ≡ overlay to (part from n f) f
unfolding overlay
copied_within f from end to n e h = rw (e, length_part f from n h, add-sub_cancel_left from n)

pub length-overlay : (old new : List ℕ) (at : ℕ) → at + length new ≤ length old → length (overlay at new old) ≡ length old
length-overlay old new at h = ap length (sym (paste_overlay old new at)) ∙ length-paste old at new (length new) h (omega arith)

-- what stands behind what was written
pub overlay-behind : (at : ℕ) (new old : List ℕ) → at ≤ length old → drop (at + length new) (overlay at new old) ≡ drop (at + length new) old
unfolding overlay
overlay-behind at new old h =
    drop_at (take at old ++ new) (drop (at + length new) old) (at + length new)
    (length-append (take at old) new ∙ ap (λ (k : ℕ). k + length new) (length-take-le at old h))

set-overlay : (l : List ℕ) (i v : ℕ) → i < length l → set l i v ≡ overlay i (v ∷ []) l
unfolding overlay
set-overlay l i v h = set_split l i v h ∙ sym (append_snoc (take i l) v (drop (suc i) l)) ∙ rw (add-one i)

-- an element and then a list behind it
pub overlay-set : (old new : List ℕ) (at v : ℕ) → at < length old → overlay (at + 1) new (set old at v) ≡ overlay at (v ∷ new) old
unfolding overlay
overlay-set old new at v h =
    let e : at + 1 + length new ≡ at + suc (length new) = omega arith in
    let l : at < at + suc (length new) = omega arith in
    rw (e, add-one at, take-suc-set old at v h, drop-set-lt (at + suc (length new)) old at v l, append_snoc (take at old) v new)

-- ---- a loop that writes new over old, at its turn i

pub record Copied (old : List ℕ) (at : ℕ) (new l : List ℕ) (i : ℕ) : Type 0 where
  pub reached : i ≤ length new
  pub fits : at + length new ≤ length old
  pub same_length : length l ≡ length old
  pub copied : l ≡ paste old at new i

pub copied_none : (old : List ℕ) (at : ℕ) (new : List ℕ) → at + length new ≤ length old → Copied old at new old 0
copied_none old at new h = record { reached = omega arith; fits = h; same_length = refl; copied = paste-zero old at new }

module _ {old : List ℕ} {at : ℕ} {new l : List ℕ} {i : ℕ} (c : Copied old at new l i) where
  pub copied_more : i < length new → Copied old at new (set l (at + i) (get_or new i 0)) (i + 1)
  copied_more h = record {
    reached = omega arith;
    fits = c.fits;
    same_length = length-set l (at + i) (get_or new i 0) ∙ c.same_length;
    copied = ap (λ (k : List ℕ). set k (at + i) (get_or new i 0)) c.copied
        ∙ paste-suc old at new i 0 (omega arith) h
        ∙ ap (λ (n : ℕ). paste old at new n) (sym (add-one i));
  }

  -- what it has not reached is what stood there
  pub copied-past : (k : ℕ) → at + i ≤ k → get_or l k 0 ≡ get_or old k 0
  copied-past k h =
      ap (λ (m : List ℕ). get_or m k 0) c.copied
      ∙ same_get_d (paste old at new i) old (at + i) k h (drop-paste old at new i (omega arith) c.reached)

  -- and so is what stands before
  pub copied-before : (k : ℕ) → k < at → get_or l k 0 ≡ get_or old k 0
  copied-before k h =
      let e : length (take at old) ≡ at = length-take-le at old (omega arith) in
      ap (λ (m : List ℕ). get_or m k 0) c.copied
      ∙ get_or-append (take at old ++ take i new) (drop (at + i) old) 0 k (omega (arith, length-append (take at old) (take i new)))
      ∙ get_or-append (take at old) (take i new) 0 k (omega arith)
      ∙ get_or-take at old k 0 h

  pub copied_all : length new ≤ i → l ≡ overlay at new old
  copied_all h =
      let e : i ≡ length new = omega arith in
      c.copied ∙ ap (λ (n : ℕ). paste old at new n) e ∙ paste_overlay old new at

-- ---- what is laid over the front of a list

laid-overlay : (new old : List ℕ) → laid new old ≡ overlay 0 new old
unfolding laid overlay
laid-overlay new old = rw (zero-add (length new))

pub laid-length : (new old : List ℕ) → length new ≤ length old → length (laid new old) ≡ length old
laid-length new old h = ap length (laid-overlay new old) ∙ length-overlay old new 0 (omega arith)

-- what stands behind it stays
laid-behind : (new old : List ℕ) → drop (length new) (laid new old) ≡ drop (length new) old
unfolding laid
laid-behind new old = drop-append_seam new (drop (length new) old)

-- the next part behind it
laid_more : (new p old : List ℕ) (at : ℕ) → length new ≡ at → overlay at p (laid new old) ≡ laid (new ++ p) old
unfolding laid overlay
laid_more new p old at e =
    let n : length new + length p ≡ length (new ++ p) = sym (length-append new p) in
    rw (← e, take-append_seam new (drop (length new) old), ← n)
    (ap (λ (l : List ℕ). new ++ p ++ l) (same_drop (laid new old) old (length new) (length new + length p) (omega arith) (laid-behind new old)))

-- one more element behind it
pub laid_one : (new old : List ℕ) (at v : ℕ) → length new ≡ at → at < length old → set (laid new old) at v ≡ laid (new ++ (v ∷ [])) old
laid_one new old at v e h =
    let m : length (laid new old) ≡ length old = laid-length new old (omega arith) in
    set-overlay (laid new old) at v (omega arith) ∙ laid_more new (v ∷ []) old at e

pub laid_none : (old : List ℕ) → old ≡ laid [] old
unfolding laid
laid_none old = refl

-- ---- the entries at some positions

-- each of the positions is below n
abbrev pub Under : List ℕ → ℕ → Type 0
Under ps n = (k : ℕ) → k < length ps → get_or ps k 0 < n

abbrev pub picked : List ℕ → List ℕ → List ℕ
picked l ps = map (λ k. get_or l k 0) ps

-- there are n entries, at least
pub record Bounds (s : Slots) (n : ℕ) : Type 0 where
  pub keys : n ≤ length s.keys
  pub times : n ≤ length s.times
  pub fields : n * stride ≤ length s.fields

picked_more : (l ps : List ℕ) (i : ℕ) → length ps ≤ i → i < length l
    → set (laid (picked l ps) l) (length ps) (get_or (laid (picked l ps) l) i 0) ≡ laid (picked l (ps ++ (i ∷ []))) l
picked_more l ps i h k =
    let n : length (picked l ps) ≡ length ps = length-map ps (λ j. get_or l j 0) in
    ap (λ (v : ℕ). set (laid (picked l ps) l) (length ps) v) (same_get_d (laid (picked l ps) l) l (length (picked l ps)) i (omega arith) (laid-behind (picked l ps) l))
    ∙ laid_one (picked l ps) l (length ps) (get_or l i 0) n (omega arith)
    ∙ ap (λ (new : List ℕ). laid new l) (sym (map-append (λ j. get_or l j 0) ps (i ∷ [])))

pub length-chunks : (ps f : List ℕ) (n : ℕ) → Under ps n → n * stride ≤ length f → length (chunks ps f) ≡ length ps * stride
unfolding chunks
length-chunks [] f n u h = refl
length-chunks (p ∷ ps) f n u h =
    let l : p < n = u 0 (omega arith) in
    let e : length (part (p * stride) stride f) ≡ stride = length_part f (p * stride) stride (omega arith) in
    let r : length (chunks ps f) ≡ length ps * stride = length-chunks ps f n (λ k m. u (suc k) (omega arith)) h in
    omega (arith, length-append (part (p * stride) stride f) (chunks ps f))

chunks_more : (ps f : List ℕ) (i : ℕ) → chunks (ps ++ (i ∷ [])) f ≡ chunks ps f ++ part (i * stride) stride f
unfolding chunks
chunks_more [] f i = append-nil (part (i * stride) stride f)
chunks_more (p ∷ ps) f i =
    ap (λ (r : List ℕ). part (p * stride) stride f ++ r) (chunks_more ps f i)
    ∙ sym (append_assoc (part (p * stride) stride f) (chunks ps f) (part (i * stride) stride f))

pub gathered_none : (s : Slots) → s ≡ gathered [] s
unfolding gathered chunks laid
gathered_none s = refl

-- a turn of the loop that keeps the entry at i
pub gathered_more : {s : Slots} {n : ℕ} → Bounds s n → (ps : List ℕ) (i : ℕ) → Under ps i → length ps ≤ i → i < n → copy_slot i (length ps) (gathered ps s) ≡ gathered (ps ++ (i ∷ [])) s
unfolding gathered copy_slot
gathered_more {s} {n} b ps i u h l =
    let f = s.fields in
    let c : length (chunks ps f) ≡ length ps * stride = length-chunks ps f i u (omega arith) in
    let moved : drop (i * stride) (laid (chunks ps f) f) ≡ drop (i * stride) f =
    same_drop (laid (chunks ps f) f) f (length (chunks ps f)) (i * stride) (omega arith) (laid-behind (chunks ps f) f) in
    λ d. record {
      keys = picked_more s.keys ps i h (omega arith) d;
      times = picked_more s.times ps i h (omega arith) d;
      fields = (ap (λ (r : List ℕ). overlay (length ps * stride) (take stride r) (laid (chunks ps f) f)) moved
          ∙ laid_more (chunks ps f) (part (i * stride) stride f) f (length ps * stride) c
          ∙ ap (λ (new : List ℕ). laid new f) (sym (chunks_more ps f i))) d;
    }

-- the key word behind those that were gathered
pub gathered-key : (ps : List ℕ) (i : ℕ) (s : Slots) → length ps ≤ i → get_or (gathered ps s).keys i 0 ≡ get_or s.keys i 0
unfolding gathered
gathered-key ps i s h =
    let n = length-map ps (λ k. get_or s.keys k 0) in
    same_get_d (laid (picked s.keys ps) s.keys) s.keys (length (picked s.keys ps)) i (omega arith) (laid-behind (picked s.keys ps) s.keys)

-- ---- the positions that are kept

module _ (keys : List ℕ) (r : KeyRange) where
  pub outside_none : outside keys 0 r ≡ []
  unfolding outside
  outside_none = kept_none _

  pub outside-keep : (i : ℕ) → within r (get_or keys i 0) ≡ false → outside keys (i + 1) r ≡ outside keys i r ++ (i ∷ [])
  unfolding outside
  outside-keep i e = kept_hit _ i (ap not e)

  pub outside_skip : (i : ℕ) → within r (get_or keys i 0) ≡ true → outside keys (i + 1) r ≡ outside keys i r
  unfolding outside
  outside_skip i e = kept_miss _ i (ap not e)

  pub outside_le : (n : ℕ) → length (outside keys n r) ≤ n
  unfolding outside
  outside_le n = kept_le _ n

  pub outside_under : (n : ℕ) → Under (outside keys n r) n
  unfolding outside
  outside_under n = kept_under _ n

-- ---- the scenes that are listed

kept-length : (p : ℕ → Bool) (n : ℕ) → length (kept_below p n) ≡ count_below p n
unfolding kept_below count_below
kept-length p zero = refl
kept-length p (suc n) =
    elim (p n) as (λ b. length (cond b (kept_below p n ++ (n ∷ [])) (kept_below p n)) ≡ cond b (suc (count_below p n)) (count_below p n)) [
      | true ↦ omega (arith, kept-length p n, length-append (kept_below p n) (n ∷ []))
      | false ↦ kept-length p n
    ]

count_grows : (p : ℕ → Bool) (m n : ℕ) → m ≤ n → count_below p m ≤ count_below p n
unfolding count_below
count_grows p m zero h = let e : m ≡ 0 = omega arith in rw e (omega arith)
count_grows p m (suc n) h =
    ⊎_elim (λ e. rw e (omega arith)) (λ l.
    let k = count_grows p m n (le_of_suc-le-suc l) in
    elim (p n) as (λ b. count_below p m ≤ cond b (suc (count_below p n)) (count_below p n)) [ true ↦ omega arith | false ↦ k ])
    (eq-or-lt_of_le h)

module _ (keys : List ℕ) (r : KeyRange) where
  pub scenes_none : scenes_inside keys 0 r ≡ []
  unfolding scenes_inside
  scenes_none = ap (map (λ i. scene_of (get_or keys i 0))) (kept_none _)

  pub scenes_hit : (i : ℕ) → within r (get_or keys i 0) ≡ true → scenes_inside keys (i + 1) r ≡ scenes_inside keys i r ++ (scene_of (get_or keys i 0) ∷ [])
  unfolding scenes_inside
  scenes_hit i e = ap (map (λ i. scene_of (get_or keys i 0))) (kept_hit _ i e) ∙ map-append (λ i. scene_of (get_or keys i 0)) (kept_below (λ i. within r (get_or keys i 0)) i) (i ∷ [])

  pub scenes_miss : (i : ℕ) → within r (get_or keys i 0) ≡ false → scenes_inside keys (i + 1) r ≡ scenes_inside keys i r
  unfolding scenes_inside
  scenes_miss i e = ap (map (λ i. scene_of (get_or keys i 0))) (kept_miss _ i e)

  -- there are as many as the range counts
  pub scenes-length : (n : ℕ) → length (scenes_inside keys n r) ≡ count_keys keys n r
  unfolding scenes_inside count_keys
  scenes-length n = length-map (kept_below (λ i. within r (get_or keys i 0)) n) (λ i. scene_of (get_or keys i 0)) ∙ kept-length _ n

  pub scenes_grow : (m n : ℕ) → m ≤ n → length (scenes_inside keys m r) ≤ length (scenes_inside keys n r)
  unfolding count_keys
  scenes_grow m n h = omega (arith, scenes-length m, scenes-length n, count_grows (λ i. within r (get_or keys i 0)) m n h)

-- ---- a copy to the same position

overlay-same : (l : List ℕ) (b n : ℕ) → b + n ≤ length l → overlay b (part b n l) l ≡ l
unfolding overlay
overlay-same l b n h =
    ap (λ (k : ℕ). (take b l ++ part b n l) ++ drop (b + k) l) (length_part l b n h)
    ∙ append_assoc (take b l) (part b n l) (drop (b + n) l)
    ∙ ap (λ (r : List ℕ). take b l ++ (part b n l ++ r)) (sym (drop-drop n b l))
    ∙ ap (λ (r : List ℕ). take b l ++ r) (take-append-drop n (drop b l))
    ∙ take-append-drop b l

pub copy-same : (s : Slots) (i : ℕ) → i * stride + stride ≤ length s.fields → copy_slot i i s ≡ s
unfolding copy_slot
copy-same s i f =
    λ d. record {
      keys = set-get_or s.keys i 0 d;
      times = set-get_or s.times i 0 d;
      fields = overlay-same s.fields (i * stride) stride f d;
    }
