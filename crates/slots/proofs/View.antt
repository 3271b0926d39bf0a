-- What each change leaves of the lengths of the lists and of the entry at a position, for callers. Assumes nothing.
use Prim.Native.Nat.{ℕ, zero, suc, ◌+◌, ◌*◌, ◌≤◌, ◌<◌}
use mathlib.Core.Path.{◌≡◌, refl, sym, ap, ◌∙◌}
use mathlib.Core.Bool.{true, false}
use mathlib.Core.List.{List, [], ◌∷◌, ◌++◌}
use native.Mathlib.Nat.{add-zero}
use native.Mathlib.Omega.{arith}
use lib.Dec.{leb}
use borrow.Author.Tests.{leb-true, leb-false, le-leb}
use lib.ListN.{length, take, drop, get_or, length-append, length-set, length-map, get_or-append}
use lib.Seq.{length-take-le, take-append-le, take-append_seam, take_at, take-take, take-length, drop-append-le, drop-append-add, drop_at, drop-drop, get_or-set_same, get_or-set_other, get_or-drop, get_or-take}
use Rattle.words.proofs.Below.{every_at, every_intro}
use Rattle.words.specs.Constants.{stride, max_fields}
use Rattle.words.specs.declared.KeyRange.{KeyRange}
use Rattle.slots.specs.Slots.{Slots, entry_at, length_at, fields_at, key_sound, keys_sound, lengths_sound, part, overlay, laid, chunks, length_then, put_slot, copy_slot, gathered, outside}
use Rattle.slots.proofs.Laws.{Bounds, Under, picked, length_part, length-overlay, same_drop, overlay-behind, laid-length, length-chunks, outside_le, outside_under}

-- ---- what soundness says of a position

pub keys_at : (keys : List ℕ) (n i : ℕ) → keys_sound keys n ≡ true → i < n → key_sound (get_or keys i 0) ≡ true
unfolding keys_sound
keys_at keys n i e h = every_at _ n i h e

pub keys_all : (keys : List ℕ) (n : ℕ) → ((i : ℕ) → i < n → key_sound (get_or keys i 0) ≡ true) → keys_sound keys n ≡ true
unfolding keys_sound
keys_all keys n h = every_intro _ n h

pub lengths_at : (fields : List ℕ) (n i : ℕ) → lengths_sound fields n ≡ true → i < n → length_at fields i ≤ max_fields
unfolding lengths_sound
lengths_at fields n i e h = leb-true (length_at fields i) max_fields (every_at _ n i h e)

pub lengths_all : (fields : List ℕ) (n : ℕ) → ((i : ℕ) → i < n → length_at fields i ≤ max_fields) → lengths_sound fields n ≡ true
unfolding lengths_sound
lengths_all fields n h = every_intro _ n (λ i l. le-leb (length_at fields i) max_fields (h i l))

-- ---- the lengths

pub record SameLengths (s t : Slots) : Type 0 where
  pub keys : length s.keys ≡ length t.keys
  pub times : length s.times ≡ length t.times
  pub fields : length s.fields ≡ length t.fields

pub put-lengths : {s : Slots} {n : ℕ} → Bounds s n → (at key time : ℕ) (bytes : List ℕ) → at < n → length bytes ≤ max_fields → SameLengths (put_slot at key time bytes s) s
unfolding put_slot
put-lengths {s} b at key time bytes h l = record {
  keys = length-set s.keys at key;
  times = length-set s.times at time;
  fields = length-overlay s.fields (length_then bytes) (at * stride) (omega arith);
}

pub copy-lengths : {s : Slots} {n : ℕ} → Bounds s n → (from to : ℕ) → from < n → to < n → SameLengths (copy_slot from to s) s
unfolding copy_slot
copy-lengths {s} b from to h l =
    let e = length_part s.fields (from * stride) stride (omega arith) in
    record {
      keys = length-set s.keys to (get_or s.keys from 0);
      times = length-set s.times to (get_or s.times from 0);
      fields = length-overlay s.fields (part (from * stride) stride s.fields) (to * stride) (omega arith);
    }

pub gathered-lengths : {s : Slots} {n : ℕ} → Bounds s n → (ps : List ℕ) → Under ps n → length ps ≤ n → SameLengths (gathered ps s) s
unfolding gathered
gathered-lengths {s} {n} b ps u l =
    let k = length-map ps (λ i. get_or s.keys i 0) in
    let t = length-map ps (λ i. get_or s.times i 0) in
    let c = length-chunks ps s.fields n u b.fields in
    record {
      keys = laid-length (picked s.keys ps) s.keys (omega arith);
      times = laid-length (picked s.times ps) s.times (omega arith);
      fields = laid-length (chunks ps s.fields) s.fields (omega arith);
    }

-- ---- parts of a list

take_part : (l : List ℕ) (k n m : ℕ) → k + n ≤ m → part k n (take m l) ≡ part k n l
take_part l zero n m h = take-take n m l (omega arith)
take_part l (suc k) n zero h = let w : ⊥ = omega arith in absurd w
take_part [] (suc k) n (suc m) h = refl
take_part (x ∷ l) (suc k) n (suc m) h = take_part l k n m (omega arith)

same-part : (a b : List ℕ) (m k n : ℕ) → k + n ≤ m → take m a ≡ take m b → part k n a ≡ part k n b
same-part a b m k n h e = sym (take_part a k n m h) ∙ ap (part k n) e ∙ take_part b k n m h

part-part : (l : List ℕ) (from m k n : ℕ) → k + n ≤ m → part k n (part from m l) ≡ part (from + k) n l
part-part l from m k n h = take_part (drop from l) k n m h ∙ ap (take n) (drop-drop k from l)

get_d_head : (l : List ℕ) (k : ℕ) → get_or (drop k l) 0 0 ≡ get_or l k 0
get_d_head l k = get_or-drop k l 0 0 ∙ ap (λ (j : ℕ). get_or l j 0) (add-zero k)

-- what stands before what was written
overlay-before : (at : ℕ) (new old : List ℕ) → at ≤ length old → take at (overlay at new old) ≡ take at old
unfolding overlay
overlay-before at new old h =
    let e : length (take at old) ≡ at = length-take-le at old h in
    take-append-le at (take at old ++ new) (drop (at + length new) old) (omega (arith, length-append (take at old) new))
    ∙ take_at (take at old) new at e

-- from its start on
overlay-from : (at : ℕ) (new old : List ℕ) → at ≤ length old → drop at (overlay at new old) ≡ new ++ drop (at + length new) old
unfolding overlay
overlay-from at new old h =
    let e : length (take at old) ≡ at = length-take-le at old h in
    drop-append-le at (take at old ++ new) (drop (at + length new) old) (omega (arith, length-append (take at old) new))
    ∙ ap (λ (x : List ℕ). x ++ drop (at + length new) old) (drop_at (take at old) new at e)

-- ---- the 129 bytes at a position

abbrev chunk_at : List ℕ → ℕ → List ℕ
chunk_at fields i = part (i * stride) stride fields

chunk_head : (f : List ℕ) (i : ℕ) → get_or (chunk_at f i) 0 0 ≡ length_at f i
chunk_head f i = get_or-take stride (drop (i * stride) f) 0 0 (omega arith) ∙ get_d_head f (i * stride)

-- the entry at i of s is the one at j of t, and so is its length byte
pub record SameEntry (s : Slots) (i : ℕ) (t : Slots) (j : ℕ) : Type 0 where
  pub entry : entry_at s i ≡ entry_at t j
  pub size : length_at s.fields i ≡ length_at t.fields j

-- the bytes up to the length are among them
same-fields : (f g : List ℕ) (i j : ℕ) → chunk_at f i ≡ chunk_at g j → length_at g j ≤ max_fields → (length_at f i ≡ length_at g j) × (fields_at f i ≡ fields_at g j)
same-fields f g i j e h =
    let size : length_at f i ≡ length_at g j = sym (chunk_head f i) ∙ ap (λ (c : List ℕ). get_or c 0 0) e ∙ chunk_head g j in (
      size,
      ap (λ (n : ℕ). part (i * stride + 1) n f) size
          ∙ sym (part-part f (i * stride) stride 1 (length_at g j) (omega arith))
          ∙ ap (part 1 (length_at g j)) e
          ∙ part-part g (j * stride) stride 1 (length_at g j) (omega arith),
    )

same-entry : (s t : Slots) (i j : ℕ) → get_or s.keys i 0 ≡ get_or t.keys j 0 → get_or s.times i 0 ≡ get_or t.times j 0
    → chunk_at s.fields i ≡ chunk_at t.fields j → length_at t.fields j ≤ max_fields → SameEntry s i t j
same-entry s t i j k m e h =
    let b = same-fields s.fields t.fields i j e h in
    record { entry = λ d. record { key = k d; time = m d; fields = b.1 d }; size = b.0 }

-- those at another position stay
chunk_other : (at i : ℕ) (new old : List ℕ) → length new ≤ stride → (i ≡ at → ⊥) → at * stride ≤ length old → chunk_at (overlay (at * stride) new old) i ≡ chunk_at old i
chunk_other at i new old h n l =
    (elim (leb i at) as (λ b. leb i at ≡ b → chunk_at (overlay (at * stride) new old) i ≡ chunk_at old i) [
      | true ↦ λ e.
          let m = leb-true i at e in
          same-part (overlay (at * stride) new old) old (at * stride) (i * stride) stride (omega arith) (overlay-before (at * stride) new old l)
      | false ↦ λ e.
          let m = leb-false i at e in
          ap (take stride) (same_drop (overlay (at * stride) new old) old (at * stride + length new) (i * stride) (omega arith) (overlay-behind (at * stride) new old l))
    ]) refl

-- ---- a write

module _ {s : Slots} {n : ℕ} (b : Bounds s n) (at key time : ℕ) (bytes : List ℕ) (h : at < n) where
  put-from : drop (at * stride) (put_slot at key time bytes s).fields ≡ length_then bytes ++ drop (at * stride + length (length_then bytes)) s.fields
  unfolding put_slot
  put-from = overlay-from (at * stride) (length_then bytes) s.fields (omega arith)

  pub put-size : length_at (put_slot at key time bytes s).fields at ≡ length bytes
  put-size = sym (get_d_head (put_slot at key time bytes s).fields (at * stride)) ∙ ap (λ (l : List ℕ). get_or l 0 0) put-from

  put-fields : fields_at (put_slot at key time bytes s).fields at ≡ bytes
  put-fields =
      ap (λ (n : ℕ). part (at * stride + 1) n (put_slot at key time bytes s).fields) put-size
      ∙ ap (take (length bytes)) (sym (drop-drop 1 (at * stride) (put_slot at key time bytes s).fields) ∙ ap (drop 1) put-from)
      ∙ take-append_seam bytes (drop (at * stride + length (length_then bytes)) s.fields)

  -- the entry that was written
  pub put_at_lem : entry_at (put_slot at key time bytes s) at ≡ record { key = key; time = time; fields = bytes }
  unfolding put_slot
  put_at_lem = λ d. record {
    key = get_or-set_same s.keys at key 0 (omega arith) d;
    time = get_or-set_same s.times at time 0 (omega arith) d;
    fields = put-fields d;
  }

  -- the others stay
  pub put_other : length bytes ≤ max_fields → (i : ℕ) → (i ≡ at → ⊥) → length_at s.fields i ≤ max_fields → SameEntry (put_slot at key time bytes s) i s i
  unfolding put_slot
  put_other l i ne m =
      same-entry (put_slot at key time bytes s) s i i (get_or-set_other s.keys at i key 0 ne) (get_or-set_other s.times at i time 0 ne)
      (chunk_other at i (length_then bytes) s.fields (omega arith) ne (omega arith)) m

-- ---- a move

module _ {s : Slots} {n : ℕ} (b : Bounds s n) (from to : ℕ) (h : from < n) (l : to < n) where
  moved : length (chunk_at s.fields from) ≡ stride
  moved = length_part s.fields (from * stride) stride (omega arith)

  -- the entry stands at its new position
  pub copy_at : length_at s.fields from ≤ max_fields → SameEntry (copy_slot from to s) to s from
  unfolding copy_slot
  copy_at m =
      same-entry (copy_slot from to s) s to from (get_or-set_same s.keys to (get_or s.keys from 0) 0 (omega arith)) (get_or-set_same s.times to (get_or s.times from 0) 0 (omega arith))
      (ap (take stride) (overlay-from (to * stride) (chunk_at s.fields from) s.fields (omega arith))
      ∙ take_at (chunk_at s.fields from) (drop (to * stride + length (chunk_at s.fields from)) s.fields) stride moved) m

  -- the others stay, also the one that was copied
  pub copy-other : (i : ℕ) → (i ≡ to → ⊥) → length_at s.fields i ≤ max_fields → SameEntry (copy_slot from to s) i s i
  unfolding copy_slot
  copy-other i ne m =
      same-entry (copy_slot from to s) s i i (get_or-set_other s.keys to i (get_or s.keys from 0) 0 ne) (get_or-set_other s.times to i (get_or s.times from 0) 0 ne)
      (chunk_other to i (chunk_at s.fields from) s.fields (omega (arith, moved)) ne (omega arith)) m

-- ---- the entries at some positions, moved to the front

get_d_picked : (l ps : List ℕ) (i : ℕ) → i < length ps → get_or (laid (picked l ps) l) i 0 ≡ get_or l (get_or ps i 0) 0
unfolding laid
get_d_picked l ps i h =
    get_or-append (picked l ps) (drop (length (picked l ps)) l) 0 i (omega (arith, length-map ps (λ k. get_or l k 0))) ∙ go ps i h
  where
    go : (ps : List ℕ) (i : ℕ) → i < length ps → get_or (picked l ps) i 0 ≡ get_or l (get_or ps i 0) 0
    go [] i h = let w : ⊥ = omega arith in absurd w
    go (p ∷ ps) zero h = refl
    go (p ∷ ps) (suc i) h = go ps i (omega arith)

chunks_at : (ps f : List ℕ) (n : ℕ) → Under ps n → n * stride ≤ length f → (i : ℕ) → i < length ps → chunk_at (chunks ps f) i ≡ chunk_at f (get_or ps i 0)
unfolding chunks
chunks_at [] f n u b i h = let w : ⊥ = omega arith in absurd w
chunks_at (p ∷ ps) f n u b zero h =
    let l = u 0 (omega arith) in
    take_at (chunk_at f p) (chunks ps f) stride (length_part f (p * stride) stride (omega arith))
chunks_at (p ∷ ps) f n u b (suc i) h =
    let l = u 0 (omega arith) in
    let e : length (chunk_at f p) ≡ stride = length_part f (p * stride) stride (omega arith) in
    let q : suc i * stride ≡ length (chunk_at f p) + i * stride = omega arith in
    ap (λ (k : ℕ). part k stride (chunk_at f p ++ chunks ps f)) q
    ∙ ap (take stride) (drop-append-add (chunk_at f p) (chunks ps f) (i * stride))
    ∙ chunks_at ps f n (λ k m. u (suc k) (omega arith)) b i (omega arith)

laid_front : (new old : List ℕ) (k n : ℕ) → k + n ≤ length new → part k n (laid new old) ≡ part k n new
unfolding laid
laid_front new old k n h =
    same-part (laid new old) new (length new) k n h (take-append_seam new (drop (length new) old) ∙ sym (take-length new))

pub gathered_at : {s : Slots} {n : ℕ} → Bounds s n → (ps : List ℕ) → Under ps n → (i : ℕ) → i < length ps → length_at s.fields (get_or ps i 0) ≤ max_fields → SameEntry (gathered ps s) i s (get_or ps i 0)
unfolding gathered
gathered_at {s} {n} b ps u i h m =
    let c = length-chunks ps s.fields n u b.fields in
    same-entry (gathered ps s) s i (get_or ps i 0) (get_d_picked s.keys ps i h) (get_d_picked s.times ps i h)
    (laid_front (chunks ps s.fields) s.fields (i * stride) stride (omega arith) ∙ chunks_at ps s.fields n u b.fields i h) m

-- of the first n entries those outside a range
module _ {s : Slots} {n : ℕ} (b : Bounds s n) (r : KeyRange) where
  pub retained_lengths : SameLengths (gathered (outside s.keys n r) s) s
  retained_lengths = gathered-lengths b (outside s.keys n r) (outside_under s.keys r n) (outside_le s.keys r n)

  pub retained_at : lengths_sound s.fields n ≡ true → (i : ℕ) → i < length (outside s.keys n r) → SameEntry (gathered (outside s.keys n r) s) i s (get_or (outside s.keys n r) i 0)
  retained_at e i h =
      let u = outside_under s.keys r n in
      gathered_at b (outside s.keys n r) u i h (lengths_at s.fields n (get_or (outside s.keys n r) i 0) e (u i h))
