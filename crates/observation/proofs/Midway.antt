-- What a whole-group copy that ran out midway leaves: its walk over the sources, turn by turn. Assumes nothing.
use Prim.Native.Nat.{ℕ, zero, suc, ◌+◌, ◌*◌, ◌/◌, ◌^◌, ◌≤◌, ◌<◌}
use mathlib.Core.Path.{◌≡◌, refl, sym, ap, ◌∙◌, subst}
use mathlib.Core.Bool.{Bool, true, false, ◌&&◌, false≢true}
use mathlib.Core.List.{List}
use mathlib.Core.Logic.{◌⊎◌, inl, inr, ⊎_elim}
use native.Mathlib.Omega.{arith}
use lib.Dec.{eqb, ltb, leb}
use lib.ListN.{length, drop, get_or, length-take}
use lib.Seq.{paste, length-paste, drop-set-lt, get_or-drop}
use borrow.Author.Tests.{eq-eqb, eqb-true, eqb-false, leb-true, leb-false}
use Rattle.words.specs.Constants.{stride, max_fields, success, not_found, insufficient_space}
use Rattle.words.specs.Words.{word_of, within}
use Rattle.std.specs.Prelude.{Option, Some, None}
use Rattle.words.specs.declared.SceneKey.{SceneKey}
use Rattle.words.proofs.Below.{first_under, first_before}
use Rattle.words.proofs.Tests.{and_left, and_right}
use Rattle.slots.specs.Slots.{Slots, SceneEntry, entry_at, first_key, length_at, fields_at, length_then, overlay, put_slot}
use Rattle.slots.proofs.Laws.{Bounds, same_drop, overlay-behind, copied-before, copied-past, copied_all}
use Rattle.slots.proofs.Laws as laws
use Rattle.slots.proofs.View.{SameLengths, put-lengths, put_at_lem, put_other}
use Rattle.requests.specs.declared.CopyRequest.{CopyRequest}
use Rattle.requests.specs.Requests.{whole_group, copy_gate}
use Rattle.state.specs.Table.{Table, Entries, EntryRoom, with_entry_count}
use Rattle.state.specs.Sound.{sound}
use Rattle.state.specs.Capacity.{room_for, remaining}
use Rattle.state.specs.Change.{put_at, append}
use Rattle.state.specs.Answer.{Result, refused, refusal_of, guarded}
use Rattle.copies.specs.Copy.{Copied, copy_to, copy_entry, is_source, key_in, copy_walk, source_group, target_group, copy_sources, copied, copy_scenes_inner, copy_scene}
use Rattle.state.proofs.Guard.{passed-sound}
use Rattle.state.proofs.Laws.{found_under}
use Rattle.copies.proofs.Laws.{sound-copy-room, room_bounds, entry_length_lem, room-free, copy-kept}
use Rattle.observation.specs.Refusals.{SameByte, Kept, in_target, PastSources, CopyOf, AlikeFrom, RanOut, Midway}
use Rattle.observation.proofs.Choices.{cond_elim}

-- a byte before or behind what was written
overlay-other : (at : ℕ) (new old : List ℕ) → at + length new ≤ length old → (k : ℕ) → (k < at) ⊎ (at + length new ≤ k)
    → get_or (overlay at new old) k 0 ≡ get_or old k 0
overlay-other at new old h k side =
    let l : List ℕ = paste old at new (length new) in
    let same = length-paste old at new (length new) h (omega arith) in
    let c : laws.Copied old at new l (length new) = record { reached = omega arith; fits = h; same_length = same; copied = refl } in
    ap (λ (m : List ℕ). get_or m k 0) (sym (copied_all c (omega arith))) ∙ ⊎_elim (λ z. copied-before c k z) (λ z. copied-past c k z) side

module _ (c : CopyRequest) (t : Table) where
  -- the key under which the source with key word w is copied
  abbrev target : ℕ → SceneKey
  target w = key_in (target_group c) w

  abbrev source : ℕ → Bool
  source w = is_source (source_group c) w

  -- a target that is a source too has the source's own key word: the two groups are one
  own_target : (w : ℕ) → source w ≡ true → source (word_of (target w)) ≡ true → word_of (target w) ≡ w
  unfolding within
  own_target w p q =
      let g : ℕ = (c.fabric * 2 ^ 16 + c.endpoint) * 2 ^ 16 + c.from.group in
      omega (arith, eqb-true (w / 2 ^ 8) g p, eqb-true (word_of (target w) / 2 ^ 8) g q)

  -- ---- what the walk leaves of the entries

  abbrev KeptOrCopied : Slots → ℕ → Type 0
  KeptOrCopied s i = Kept t s i ⊎ CopyOf c t s i

  -- what holds of the entries at every turn: `RanOut`, and room for the next write
  record Left (e : Entries) : Type 0 where
    room : EntryRoom e
    head : e.state ≡ with_entry_count e.state.entries t.state
    entries : t.state.entries ≤ e.state.entries
    entry : (i : ℕ) → i < e.state.entries → KeptOrCopied e.slots i
    past : AlikeFrom e.state.entries t.slots e.slots
    lengths : SameLengths e.slots t.slots

  -- the sources from i on are still as they were
  abbrev Coming : ℕ → Entries → Type 0
  Coming i e =
      (j : ℕ) → i ≤ j → j < t.state.entries → source (get_or e.slots.keys j 0) ≡ true → entry_at e.slots j ≡ entry_at t.slots j

  -- ---- a turn of the walk that writes the copy of the source at i to p, with n entries afterwards
  module _ (i : ℕ) (e : Entries) (left : Left e) (coming : Coming i e) (h : i < t.state.entries)
      (src : source (get_or e.slots.keys i 0) ≡ true) where
    abbrev word : ℕ
    word = get_or e.slots.keys i 0

    abbrev time : ℕ
    time = get_or e.slots.times i 0

    abbrev bytes : List ℕ
    bytes = fields_at e.slots.fields i

    abbrev wrote : ℕ → Slots
    wrote p = put_slot p (word_of (target word)) time bytes e.slots

    as_before : entry_at e.slots i ≡ entry_at t.slots i
    as_before = coming i (omega arith) h src

    fits : length bytes ≤ max_fields
    fits =
        let l = entry_length_lem left.room i (omega (arith, left.entries)) in
        omega (arith, length-take (length_at e.slots.fields i) (drop (i * stride + 1) e.slots.fields))

    -- of the entry at p the bytes past those of every source with its key are what they were
    abbrev Held : ℕ → Type 0
    Held p = (b : ℕ) → b < stride → PastSources c t (word_of (target word)) b → SameByte e.slots t.slots p b

    -- p is the position of an entry or the one behind the last; a source that is still to come is not overwritten
    module _ (p n : ℕ) (inside : p < e.state.size) (below : p < n) (more : e.state.entries ≤ n)
        (there : (j : ℕ) → j < n → (j ≡ p → ⊥) → j < e.state.entries)
        (late : i < p → p < t.state.entries → source (word_of (target word)) ≡ true → ⊥)
        (held : Held p) where
      at_p : entry_at (wrote p) p ≡ record { key = word_of (target word); time = time; fields = bytes }
      at_p = put_at_lem (room_bounds left.room) p (word_of (target word)) time bytes inside

      other : (j : ℕ) → j < e.state.entries → (j ≡ p → ⊥) → entry_at (wrote p) j ≡ entry_at e.slots j
      other j m ne =
          (put_other (room_bounds left.room) p (word_of (target word)) time bytes inside fits j ne
          (entry_length_lem left.room j m)).entry

      -- byte b of the entry at j stands before or behind what was written
      abbrev Apart : ℕ → ℕ → Type 0
      Apart j b = (j * stride + b < p * stride) ⊎ (p * stride + length (length_then bytes) ≤ j * stride + b)

      apart : (j b : ℕ) → (j ≡ p → ⊥) → b < stride → Apart j b
      apart j b ne l =
          (elim (leb j p) as (λ x. leb j p ≡ x → Apart j b) [
            | true ↦ λ z. let k = leb-true j p z in inl (omega arith)
            | false ↦ λ z. let k = leb-false j p z in inr (omega (arith, fits))
          ]) refl

      byte : (j b : ℕ) → Apart j b → SameByte (wrote p) e.slots j b
      unfolding put_slot
      byte j b side =
          let r = room_bounds left.room in
          overlay-other (p * stride) (length_then bytes) e.slots.fields (omega (arith, fits, r.fields)) (j * stride + b) side

      is_source_lem : source (entry_at t.slots i).key ≡ true
      is_source_lem = ap (λ (x : SceneEntry). source x.key) (sym as_before) ∙ src

      -- the bytes past those of every source are past those that were written
      copy-byte : (b : ℕ) → b < stride → PastSources c t (entry_at (wrote p) p).key b → SameByte (wrote p) t.slots p b
      copy-byte b l q =
          let k = q i h is_source_lem (sym (ap (λ (x : SceneEntry). x.key) (at_p ∙ ap (in_target c) as_before))) in
          let m = ap (λ (x : SceneEntry). length x.fields) as_before in
          byte p b (inr (omega (arith, k, m))) ∙ held b l (subst (λ z. PastSources c t z b) (ap (λ (x : SceneEntry). x.key) at_p) q)

      copy_at : CopyOf c t (wrote p) p
      copy_at = record { from = i; entry = h; source = is_source_lem; copy = at_p ∙ ap (in_target c) as_before; bytes = copy-byte }

      module _ (j : ℕ) (m : j < n) (ne : j ≡ p → ⊥) where
        same : entry_at (wrote p) j ≡ entry_at e.slots j
        same = other j (there j m ne) ne

        kept-other : Kept t e.slots j → Kept t (wrote p) j
        kept-other k = record { entry = k.entry; same = same ∙ k.same; bytes = λ b l. byte j b (apart j b ne l) ∙ k.bytes b l }

        copy-other : CopyOf c t e.slots j → CopyOf c t (wrote p) j
        copy-other k = record {
          from = k.from;
          entry = k.entry;
          source = k.source;
          copy = same ∙ k.copy;
          bytes = λ b l q. byte j b (apart j b ne l) ∙ k.bytes b l (subst (λ z. PastSources c t z b) (ap (λ (x : SceneEntry). x.key) same) q);
        }

      wrote_entry : (j : ℕ) → j < n → KeptOrCopied (wrote p) j
      wrote_entry j m =
          (elim (eqb j p) as (λ b. eqb j p ≡ b → KeptOrCopied (wrote p) j) [
            | true ↦ λ q. inr (subst (CopyOf c t (wrote p)) (sym (eqb-true j p q)) copy_at)
            | false ↦ λ q.
                let ne = eqb-false j p q in
                ⊎_elim (λ k. inl (kept-other j m ne k)) (λ k. inr (copy-other j m ne k)) (left.entry j (there j m ne))
          ]) refl

      wrote_coming : Coming (suc i) (record { state = with_entry_count n e.state; slots = wrote p })
      wrote_coming j m k q =
          (elim (eqb j p) as (λ b. eqb j p ≡ b → entry_at (wrote p) j ≡ entry_at t.slots j) [
            | true ↦ λ z.
                let s : j ≡ p = eqb-true j p z in
                absurd (late (omega arith) (omega arith) (sym (ap (λ (x : SceneEntry). source x.key) (ap (entry_at (wrote p)) s ∙ at_p)) ∙ q))
            | false ↦ λ z.
                let same = other j (omega (arith, left.entries)) (eqb-false j p z) in
                same ∙ coming j (omega arith) k (ap (λ (x : SceneEntry). source x.key) (sym same) ∙ q)
          ]) refl

      wrote_past : AlikeFrom n t.slots (wrote p)
      unfolding put_slot
      wrote_past =
          let b : Bounds e.slots e.state.size = room_bounds left.room in
          let new = length_then bytes in
          record {
            keys = drop-set-lt n e.slots.keys p (word_of (target word)) below
                ∙ same_drop e.slots.keys t.slots.keys e.state.entries n more left.past.keys;
            times = drop-set-lt n e.slots.times p time below
                ∙ same_drop e.slots.times t.slots.times e.state.entries n more left.past.times;
            fields = same_drop (wrote p).fields e.slots.fields (p * stride + length new) (n * stride) (omega (arith, fits))
                (overlay-behind (p * stride) new e.slots.fields (omega (arith, b.fields)))
                ∙ same_drop e.slots.fields t.slots.fields (e.state.entries * stride) (n * stride) (omega arith) left.past.fields;
          }

      wrote_left : EntryRoom (record { state = with_entry_count n e.state; slots = wrote p })
          → Left (record { state = with_entry_count n e.state; slots = wrote p })
      wrote_left room =
          let l = put-lengths (room_bounds left.room) p (word_of (target word)) time bytes inside fits in
          record {
            room = room;
            head = ap (with_entry_count n) left.head;
            entries = omega (arith, left.entries);
            entry = wrote_entry;
            past = wrote_past;
            lengths = record {
              keys = l.keys ∙ left.lengths.keys;
              times = l.times ∙ left.lengths.times;
              fields = l.fields ∙ left.lengths.fields;
            };
          }

    -- a target found behind the source would hide the source: it would have the same key word, and the source stand before it
    found_late : (p : ℕ) → first_key e.slots.keys e.state.entries (word_of (target word)) ≡ Some p → i < p → p < t.state.entries
        → source (word_of (target word)) ≡ true → ⊥
    unfolding first_key
    found_late p f m _ q =
        false≢true (sym (first_before _ e.state.entries p f i m) ∙ eq-eqb word (word_of (target word)) (sym (own_target word src q)))

    -- the bytes at a target that was found are what they were, or those of an earlier copy; those behind the entries are what they were
    found-held : (p : ℕ) → first_key e.slots.keys e.state.entries (word_of (target word)) ≡ Some p → Held p
    unfolding first_key
    found-held p f b l q =
        let u = first_under _ e.state.entries p f in
        let k : get_or e.slots.keys p 0 ≡ word_of (target word) = eqb-true _ _ u.1 in
        ⊎_elim (λ x. x.bytes b l) (λ x. x.bytes b l (subst (λ z. PastSources c t z b) (sym k) q)) (left.entry p u.0)

    behind-held : Held e.state.entries
    behind-held b l q =
        let m = e.state.entries * stride in
        sym (get_or-drop m e.slots.fields b 0) ∙ ap (λ (x : List ℕ). get_or x b 0) left.past.fields ∙ get_or-drop m t.slots.fields b 0

    abbrev After : Entries → Type 0
    After u = Left u × Coming (suc i) u

    stays : After e
    stays = (left, (λ j m k q. coming j (omega arith) k q))

    over : (p : ℕ) → first_key e.slots.keys e.state.entries (word_of (target word)) ≡ Some p
        → EntryRoom (record { state = e.state; slots = wrote p }) → After (record { state = e.state; slots = wrote p })
    over p f r =
        let n = e.state.entries in
        let m : p < n = found_under e.slots.keys n (word_of (target word)) p f in
        let inside : p < e.state.size = omega (arith, left.room.entries) in
        let more : n ≤ n = omega arith in (
          wrote_left p n inside m more (λ j k _. k) (found_late p f) (found-held p f) r,
          wrote_coming p n inside m more (λ j k _. k) (found_late p f) (found-held p f),
        )

    behind : e.state.entries < e.state.size
        → EntryRoom (record { state = with_entry_count (e.state.entries + 1) e.state; slots = wrote e.state.entries })
        → After (record { state = with_entry_count (e.state.entries + 1) e.state; slots = wrote e.state.entries })
    behind inside r =
        let n = e.state.entries in
        let below : n < n + 1 = omega arith in
        let more : n ≤ n + 1 = omega arith in
        let there : (j : ℕ) → j < n + 1 → (j ≡ n → ⊥) → j < n = λ j k ne. omega arith in
        let late : i < n → n < t.state.entries → source (word_of (target word)) ≡ true → ⊥ = λ _ k _. omega (arith, left.entries) in
        (wrote_left n (n + 1) inside below more there late behind-held r, wrote_coming n (n + 1) inside below more there late behind-held)

    turn : After (copy_entry i (target word) e).entries
    unfolding copy_entry copy_to put_at append
    turn =
        let key : SceneKey = target word in
        let f : Option ℕ = first_key e.slots.keys e.state.entries (word_of key) in
        let room : ℕ = room_for e.state e.slots.keys key.fabric in
        (elim f as (λ x. f ≡ x → EntryRoom (copy_to x i key e).entries → After (copy_to x i key e).entries) [
          | Some p ↦ λ q r. over p q r
          | None ↦ λ q r.
              cond_elim (λ (o : Copied). EntryRoom o.entries → After o.entries) (eqb room 0) (λ _ _. stays)
              (λ z k. behind (room-free e.state e.slots.keys key.fabric (eqb-false room 0 z)) k) r
        ]) refl (copy-kept i key e left.room (omega (arith, left.entries))).room

  -- ---- the walk

  walk_left : (k i s : ℕ) (e : Entries) → Left e → Coming i e → i + k ≤ t.state.entries
      → Left (copy_walk (source_group c) (target_group c) k i s e).entries
  unfolding copy_walk
  walk_left zero i s e left coming h = left
  walk_left (suc k) i s e left coming h =
      let o : Copied = copy_entry i (target (get_or e.slots.keys i 0)) e in
      cond_elim (λ (u : Copied). Left u.entries) (is_source (source_group c) (get_or e.slots.keys i 0))
      (λ src.
      let next = turn i e left coming (omega arith) src in
      cond_elim (λ (u : Copied). Left u.entries) (eqb o.status success)
      (λ _. walk_left k (suc i) success o.entries next.0 next.1 (omega arith)) (λ _. next.0))
      (λ _. walk_left k (suc i) s e left (λ j m. coming j (omega arith)) (omega arith))

  -- ---- the command

  refused_ran : (n : ℕ) → RanOut c t (refused t n)
  refused_ran n = record {
    unsaved = refl;
    head = refl;
    records = refl;
    entries = omega arith;
    entry = λ i h. inl (record { entry = h; same = refl; bytes = λ _ _. refl });
    past = record { keys = refl; times = refl; fields = refl };
    keys = refl;
    times = refl;
    fields = refl;
  }

  module _ (sd : sound t ≡ true) (whole : whole_group c.mode ≡ true) where
    abbrev held : Entries
    held = record { state = t.state; slots = t.slots }

    sources_left : Left (copy_sources c held).entries
    unfolding copy_sources
    sources_left =
        let start : Left held = record {
          room = (sound-copy-room t sd).entries;
          head = refl;
          entries = omega arith;
          entry = λ i h. inl (record { entry = h; same = refl; bytes = λ _ _. refl });
          past = record { keys = refl; times = refl; fields = refl };
          lengths = record { keys = refl; times = refl; fields = refl };
        } in
        cond_elim (λ (o : Copied). Left o.entries) (whole_group c.mode)
        (λ _. walk_left t.state.entries 0 not_found held start (λ _ _ _ _. refl) (omega arith)) (λ z. absurd (false≢true (sym z ∙ whole)))

    inner_ran : (copy_scenes_inner c t).status ≡ insufficient_space → RanOut c t (copy_scenes_inner c t)
    unfolding copy_scenes_inner copied
    inner_ran =
        let o : Copied = copy_sources c held in
        let l = sources_left in
        let R : Result → Type 0 = λ r. r.status ≡ insufficient_space → RanOut c t r in
        cond_elim R (eqb (room_for t.state t.slots.keys c.fabric) 0) (λ _ _. refused_ran insufficient_space)
        (λ _. cond_elim R (eqb o.status success) (λ _ z. absurd (omega arith))
        (λ _ _. record {
          unsaved = refl;
          head = l.head;
          records = refl;
          entries = l.entries;
          entry = l.entry;
          past = l.past;
          keys = l.lengths.keys;
          times = l.lengths.times;
          fields = l.lengths.fields;
        }))

pub ran_out_lem : Midway
unfolding copy_scene guarded
ran_out_lem c m n t q =
    let gate : ℕ = refusal_of t (copy_gate c m n) in
    let whole : Bool = whole_group c.mode in
    let some : Bool = ltb 0 (remaining t.state t.slots.keys c.fabric) in
    let ended : Bool = eqb (copy_scene c m n t).status insufficient_space in
    cond_elim (λ (r : Result). r.status ≡ insufficient_space → RanOut c t r) (eqb gate success)
    (λ z. inner_ran c t (passed-sound t (copy_gate c m n) (eqb-true gate success z)) (and_left whole some (and_left (whole && some) ended q)))
    (λ _ _. refused_ran c t gate)
    (eqb-true (copy_scene c m n t).status insufficient_space (and_right (whole && some) ended q))
