-- The notice on record structs has the outcome of the notice on record words, where the entries are sound. Assumes nothing.
-- Where the head is not sound both refuse; and every sound table is one of structs, which are its words unpacked.
use Prim.Native.Nat.{ℕ, zero, suc, ◌+◌, ◌*◌, ◌^◌, ◌<◌, ◌≤◌}
use native.Mathlib.Nat.{not-suc-le-zero, le_of_suc-le-suc}
use native.Mathlib.Omega.{arith}
use mathlib.Core.Path.{◌≡◌, refl, sym, ap, ap₂, ◌∙◌}
use mathlib.Core.Bool.{Bool, true, false, cond, ◌&&◌, ◌||◌, false≢true}
use mathlib.Core.List.{List, [], ◌∷◌, ◌++◌, map}
use lib.Dec.{eqb, leb}
use lib.ListN.{length, get_or, take, drop, length-map}
use borrow.Author.Tests.{le-leb, lt-leb, leb-true, leb-false, lt-ltb, ltb-true}
use Rattle.words.specs.Constants.{success, unsound, stride}
use Rattle.words.specs.Conditions.{all_of}
use Rattle.words.specs.Words.{word_of, fabric_of, endpoint_of, key_of_record, is_valid}
use Rattle.words.specs.Below.{every_below, any_below}
use Rattle.words.proofs.Tests.{and_true, and_left, all_head, all_tail, all_more, all_none}
use Rattle.slots.specs.Slots.{keys_sound, lengths_sound}
use Rattle.records.specs.declared.Scope.TheVariants.{Endpoint}
use Rattle.records.specs.Records as Words
use Rattle.records.proofs.View.{sound_at}
use Rattle.state.specs.Table.{Table, with_current}
use Rattle.state.specs.Sound.{in_bounds, sound}
use Rattle.state.specs.Answer.{result_of, refused, refusal_of, guarded}
use Rattle.state.specs.Current.{invalidate_current}
use Rattle.lifecycle.specs.Lifecycle.{scenable_attribute_changed}
use Rattle.state.proofs.Laws.{sound_bounds}
use Rattle.notices.specs.declared.CurrentScene.{CurrentScene}
use Rattle.notices.specs.Notice.{marked, hits, noticed, record_at, head_sound, fabrics_sound, answer_of, notice_all, notice_records}
use Rattle.notices.specs.Packed.{key_in, pack, unpack, Typed, entries_sound, Lends, packed, SameOutcome, SameRefusal, Unpacks}

-- ---- one record
module _ (c : CurrentScene) (is : Typed c) where
  key_small : word_of (key_in c) < 2 ^ 48
  key_small = omega (arith, is.fabric, is.endpoint, is.group, is.scene)

  -- by whether the mark is set
  pack-key : (b : Bool) → key_of_record (pack (marked b c)) ≡ word_of (key_in c)
  pack-key true = omega (arith, key_small)
  pack-key false = omega (arith, key_small)

  pack-valid : (b : Bool) → is_valid (pack (marked b c)) ≡ b
  pack-valid true = le-leb (2 ^ 48) (word_of (key_in c) + 2 ^ 48) (omega arith)
  pack-valid false = lt-leb (2 ^ 48) (word_of (key_in c)) key_small

  pack_small : (b : Bool) → pack (marked b c) < 2 ^ 49
  pack_small true = omega (arith, key_small)
  pack_small false = omega (arith, key_small)

  word-fabric : fabric_of (word_of (key_in c)) ≡ c.fab_idx
  word-fabric = omega (arith, is.fabric, is.endpoint, is.group, is.scene)

  word-endpoint : endpoint_of (word_of (key_in c)) ≡ c.endpoint_id
  word-endpoint = omega (arith, is.fabric, is.endpoint, is.group, is.scene)

  pack-sound : Words.record_sound (pack c) ≡ leb 1 c.fab_idx
  pack-sound = rw (lt-ltb (pack c) (2 ^ 49) (pack_small c.valid), pack-key c.valid, word-fabric)

  pack-hits : (e : ℕ) → Words.hits (Endpoint e) (pack c) ≡ hits e c
  unfolding Words.in_scope
  pack-hits e = rw (pack-valid c.valid, pack-key c.valid, word-endpoint)

  pack-noticed : (e : ℕ) → Words.cleared (Endpoint e) (pack c) ≡ pack (noticed e c)
  pack-noticed e =
      ap (λ (b : Bool). cond b (key_of_record (pack c)) (pack c)) (pack-hits e)
      ∙ ap (λ (k : ℕ). cond (hits e c) k (pack c)) (pack-key c.valid)
      ∙ elim (hits e c) as (λ b. cond b (word_of (key_in c)) (pack c) ≡ pack (cond b (marked false c) c)) [ true ↦ refl | false ↦ refl ]

-- ---- tests that agree below a count
module _ (p q : ℕ → Bool) where
  every_same : (n : ℕ) → ((i : ℕ) → i < n → p i ≡ q i) → every_below p n ≡ every_below q n
  unfolding every_below
  every_same zero h = refl
  every_same (suc n) h = ap₂ (λ (a b : Bool). a && b) (every_same n (λ i k. h i (omega arith))) (h n (omega arith))

  any_same : (n : ℕ) → ((i : ℕ) → i < n → p i ≡ q i) → any_below p n ≡ any_below q n
  unfolding any_below
  any_same zero h = refl
  any_same (suc n) h = ap₂ (λ (a b : Bool). a || b) (any_same n (λ i k. h i (omega arith))) (h n (omega arith))

-- ---- the lent words
abbrev All : List CurrentScene → Type 0
All rs = (i : ℕ) → i < length rs → Typed (record_at rs i)

later : (x : CurrentScene) (rs : List CurrentScene) → All (x ∷ rs) → All rs
later x rs all i h = all (suc i) (omega arith)

word_at : (past : List ℕ) (n i : ℕ) (rs : List CurrentScene) → i < n → n ≤ length rs → get_or (map pack (take n rs) ++ past) i 0 ≡ pack (record_at rs i)
word_at past zero i rs h k = absurd (not-suc-le-zero h)
word_at past (suc n) i [] h k = absurd (not-suc-le-zero k)
word_at past (suc n) zero (x ∷ rs) h k = refl
word_at past (suc n) (suc i) (x ∷ rs) h k = word_at past n i rs (le_of_suc-le-suc h) (le_of_suc-le-suc k)

-- the words after the notice are those of the records after it
words-after : (e : ℕ) (past : List ℕ) (n : ℕ) (rs : List CurrentScene) → n ≤ length rs → All rs
    → Words.map_first (Words.cleared (Endpoint e)) n (map pack (take n rs) ++ past) ≡ map pack (take n (map (noticed e) (take n rs) ++ drop n rs)) ++ past
unfolding Words.map_first
words-after e past zero rs h all = refl
words-after e past (suc n) [] h all = absurd (not-suc-le-zero h)
words-after e past (suc n) (x ∷ rs) h all =
    ap₂ (λ (w : ℕ) (ws : List ℕ). w ∷ ws) (pack-noticed x (all 0 (omega arith)) e) (words-after e past n rs (le_of_suc-le-suc h) (later x rs all))

-- ---- the table
record Unseen (t : Table) : Type 0 where
  keys : leb t.state.size (length t.slots.keys) ≡ true
  times : leb t.state.size (length t.slots.times) ≡ true
  fields : leb (t.state.size * stride) (length t.slots.fields) ≡ true
  words : keys_sound t.slots.keys t.state.entries ≡ true
  lengths : lengths_sound t.slots.fields t.state.entries ≡ true

module _ (e : ℕ) (t : Table) (rs : List CurrentScene) (past : List ℕ) (entries : entries_sound t ≡ true) (lends : Lends t rs past) where
  abbrev n : ℕ
  n = t.state.recorded

  in_slice : head_sound t.state (length rs) ≡ true → n ≤ length rs
  unfolding head_sound
  in_slice head =
      let h1 = all_tail _ _ head in
      let h2 = all_tail _ _ h1 in
      let h3 = all_tail _ _ h2 in
      let a = leb-true t.state.recorded t.state.size (all_head _ _ h2) in
      let b = leb-true t.state.size (length rs) (all_head _ _ h3) in
      omega arith

  -- what cannot be seen, condition by condition
  unseen : Unseen t
  unfolding entries_sound
  unseen =
      let e1 = all_tail _ _ entries in
      let e2 = all_tail _ _ e1 in
      let e3 = all_tail _ _ e2 in
      let e4 = all_tail _ _ e3 in
      record { keys = all_head _ _ entries; times = all_head _ _ e1; fields = all_head _ _ e2; words = all_head _ _ e3; lengths = all_head _ _ e4 }

  -- so soundness is what can be seen
  sound-seen : sound t ≡ (head_sound t.state (length rs) && Words.records_sound t.records n)
  unfolding sound in_bounds all_of head_sound
  sound-seen = simp (unseen.keys, unseen.times, unseen.fields, unseen.words, unseen.lengths, lends.long, and_true)

  -- the word at a position below the count
  word : n ≤ length rs → (i : ℕ) → i < n → get_or t.records i 0 ≡ pack (record_at rs i)
  word within i h = ap (λ (l : List ℕ). get_or l i 0) lends.words ∙ word_at past t.state.recorded i rs h within

  fabrics : n ≤ length rs → Words.records_sound t.records n ≡ fabrics_sound rs n
  unfolding Words.records_sound fabrics_sound
  fabrics within = every_same _ _ n (λ i h. ap Words.record_sound (word within i h) ∙ pack-sound (record_at rs i) (lends.typed i (omega arith)))

  changed : n ≤ length rs → Words.any_hit (Endpoint e) t.records n ≡ any_below (λ i. hits e (record_at rs i)) n
  unfolding Words.any_hit
  changed within = any_same _ _ n (λ i h. ap (Words.hits (Endpoint e)) (word within i h) ∙ pack-hits (record_at rs i) (lends.typed i (omega arith)) e)

  after : n ≤ length rs → Words.invalidated (Endpoint e) n t.records ≡ map pack (take n (map (noticed e) (take n rs) ++ drop n rs)) ++ past
  unfolding Words.invalidated
  after within = ap (Words.map_first (Words.cleared (Endpoint e)) t.state.recorded) lends.words ∙ words-after e past t.state.recorded rs within lends.typed

  same-sound : sound t ≡ (head_sound t.state (length rs) && fabrics_sound rs n)
  same-sound = sound-seen
      ∙ (elim (head_sound t.state (length rs)) as (λ b. head_sound t.state (length rs) ≡ b → (b && Words.records_sound t.records n) ≡ (b && fabrics_sound rs n)) [
        | true ↦ λ h. fabrics (in_slice h)
        | false ↦ λ _. refl
      ]) refl

  passes : head_sound t.state (length rs) ≡ true → packed t.slots past (notice_all e t.state rs)
      ≡ result_of success false (with_current (invalidate_current (Endpoint e)) t)
  unfolding notice_all invalidate_current
  passes head = rw (changed (in_slice head), after (in_slice head))

  refuses : packed t.slots past (answer_of (record { status = unsound; save = false; state = t.state }) rs) ≡ refused t unsound
  refuses = rw lends.words

  same : packed t.slots past (notice_records e t.state rs) ≡ scenable_attribute_changed e t
  unfolding notice_records scenable_attribute_changed guarded refusal_of
  same =
      rw same-sound
      ((elim (head_sound t.state (length rs) && fabrics_sound rs t.state.recorded) as (λ b. (head_sound t.state (length rs) && fabrics_sound rs t.state.recorded) ≡ b
      → packed t.slots past (cond b (notice_all e t.state rs) (answer_of (record { status = unsound; save = false; state = t.state }) rs))
      ≡ cond (eqb (cond b success unsound) success) (result_of success false (with_current (invalidate_current (Endpoint e)) t)) (refused t (cond b success unsound))) [
        | true ↦ λ h. passes (and_left _ _ h)
        | false ↦ λ _. refuses
      ]) refl)

pub same_outcome : SameOutcome
same_outcome e t rs past entries lends = same e t rs past entries lends

-- ---- a head that is not sound: both refuse, whatever the entries
head-sound : (t : Table) (rs : List CurrentScene) → length t.records ≡ length rs → sound t ≡ true → head_sound t.state (length rs) ≡ true
unfolding head_sound
head-sound t rs long s =
    let f = sound_bounds t s in
    let room : t.state.size ≤ length rs = omega (arith, f.records, long) in
    all_more _ _ (le-leb _ _ f.most) (all_more _ _ (le-leb _ _ f.entries) (all_more _ _ (le-leb _ _ f.recorded) (all_more _ _ (le-leb _ _ room) all_none)))

pub same_refusal : SameRefusal
unfolding notice_records scenable_attribute_changed guarded refusal_of
same_refusal e t rs past lends head =
    let none : sound t ≡ false = (elim (sound t) as (λ b. sound t ≡ b → b ≡ false) [
      | true ↦ λ k. absurd (false≢true (sym head ∙ head-sound t rs lends.long k))
      | false ↦ λ _. refl
    ]) refl in
    rw (head, none, lends.words)

-- ---- every sound table
module _ (w : ℕ) where
  unpack-typed : Typed (unpack w)
  unpack-typed = record { fabric = omega arith; endpoint = omega arith; group = omega arith; scene = omega arith }

  -- the parts of a key word make it again
  rebuilt : word_of (key_in (unpack w)) ≡ key_of_record w
  rebuilt = omega arith

  unpack-pack : w < 2 ^ 49 → pack (unpack w) ≡ w
  unpack-pack small =
      (elim (is_valid w) as (λ b. is_valid w ≡ b → cond b (word_of (key_in (unpack w)) + 2 ^ 48) (word_of (key_in (unpack w))) ≡ w) [
        | true ↦ λ h. let valid : 2 ^ 48 ≤ w = leb-true (2 ^ 48) w h in omega (arith, rebuilt)
        | false ↦ λ h. let invalid : w < 2 ^ 48 = leb-false (2 ^ 48) w h in omega (arith, rebuilt)
      ]) refl

unpacks_typed : (ws : List ℕ) → All (map unpack ws)
unpacks_typed [] i h = absurd (not-suc-le-zero h)
unpacks_typed (w ∷ ws) zero h = unpack-typed w
unpacks_typed (w ∷ ws) (suc i) h = unpacks_typed ws i (le_of_suc-le-suc h)

unpacks_words : (n : ℕ) (ws : List ℕ) → ((i : ℕ) → i < n → get_or ws i 0 < 2 ^ 49) → ws ≡ map pack (take n (map unpack ws)) ++ drop n ws
unpacks_words zero ws h = refl
unpacks_words (suc n) [] h = refl
unpacks_words (suc n) (w ∷ ws) h = ap₂ (λ (v : ℕ) (vs : List ℕ). v ∷ vs) (sym (unpack-pack w (h 0 (omega arith)))) (unpacks_words n ws (λ i k. h (suc i) (omega arith)))

pub unpacks : Unpacks
unfolding entries_sound sound
unpacks t s =
    let s1 = all_tail _ _ s in
    let s2 = all_tail _ _ s1 in
    let s3 = all_tail _ _ s2 in
    let f = sound_bounds t s in (
      all_more _ _ (le-leb _ _ f.keys) (all_more _ _ (le-leb _ _ f.times) (all_more _ _ (le-leb _ _ f.fields) (all_more _ _ (all_head _ _ s1) (all_more _ _ (all_head _ _ s2) all_none)))),
      record {
        typed = unpacks_typed t.records;
        long = sym (length-map t.records unpack);
        words = unpacks_words t.state.recorded t.records (λ i h. ltb-true _ _ (and_left _ _ (sound_at t.records t.state.recorded i (all_head _ _ s3) h)));
      },
    )
