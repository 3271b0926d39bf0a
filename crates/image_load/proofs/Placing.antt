-- The laws of writing what was read of an array. Assumes nothing.
use Prim.Native.Nat.{ℕ, suc, ◌+◌, ◌-◌, ◌*◌, ◌≤◌, ◌<◌}
use mathlib.Core.Path.{◌≡◌, refl, sym, ap, ap₂, subst, ◌∙◌}
use mathlib.Core.Bool.{true, false≢true}
use mathlib.Core.List.{List, [], ◌∷◌, ◌++◌}
use native.Mathlib.Omega.{arith}
use lib.ListN.{length, take, drop, set, length-set, length-append, take-append-drop}
use lib.Seq.{length-take-le, drop-set-lt}
use Rattle.std.proofs.Common.{Option, Some, None}
use Rattle.words.specs.Constants.{stride, max_fields}
use Rattle.slots.specs.Slots.{Slots, SceneEntry, put_slot, part, laid}
use Rattle.slots.proofs.Laws.{Bounds, same_drop, length_part}
use Rattle.slots.proofs.View.{SameLengths, put-lengths}
use Rattle.state.specs.declared.ScenesState.{ScenesState}
use Rattle.state.specs.Table.{Table, with_entry_count, with_record_count, bump_if}
use Rattle.tlv.specs.declared.elements.Element.{Element}
use Rattle.tlv.specs.declared.members.Step.{Step}
use Rattle.tlv.specs.declared.members.Step.TheVariants.{Member, End, Damaged}
use Rattle.tlv.specs.Members.{member_at}
use Rattle.tlv.proofs.Walks.{member_on}
use Rattle.image_reader.specs.declared.Slot.{Slot}
use Rattle.image_reader.specs.Entries.{entry_at, entry_in, scene_entry}
use Rattle.image_reader.specs.Image.{prepended, members_from, entries_from}
use Rattle.image_reader.proofs.Listing.{members_end, members_damaged, members_none, members_more}
use Rattle.image_reader.proofs.Bounds.{EntryBounds}
use Rattle.image_load.specs.Loading.{put_entries, restored}
use Rattle.image_gate.specs.Deciding.{readable, listed, image_with}
use Rattle.image_gate.proofs.Scanning.{behind, Gathered, gather_start, gather_end, gather_damaged, gather_unread, gather_one, gather_next}

-- what was read has no damage
unread : {A C : Type 0} (r : Option (List A)) → None ≡ r → readable r ≡ true → C
unread r e h = absurd (false≢true (ap readable e ∙ h))

front_parts : {A : Type 0} (x : A) (r : Option (List A)) → readable (prepended (Some x) r) ≡ true → (readable r ≡ true) × (listed (prepended (Some x) r) ≡ x ∷ listed r)
front_parts x None h = absurd (false≢true h)
front_parts x (Some xs) h = (refl, refl)

behind-length : (xs : List ℕ) (r : Option (List ℕ)) → readable (behind xs r) ≡ true → length xs ≤ length (listed (behind xs r))
behind-length xs None h = absurd (false≢true h)
behind-length xs (Some ys) h = omega (arith, length-append xs ys)

-- ---- records: the first n of the array stand in front, and the rest is as it came

pub record Laying (read : ℕ → Option ℕ) (b : List ℕ) (first : ℕ) (words₀ words : List ℕ) (n at : ℕ) : Type 0 where
  pub gathered : Gathered read b first words n at
  pub whole : readable (members_from read b first) ≡ true
  pub fits : length (listed (members_from read b first)) ≤ length words₀
  pub under : n ≤ length words
  pub same_length : length words ≡ length words₀
  pub rest : drop n words ≡ drop n words₀

pub lay_start : (read : ℕ → Option ℕ) (b : List ℕ) (first : ℕ) (words : List ℕ) → readable (members_from read b first) ≡ true
    → length (listed (members_from read b first)) ≤ length words → Laying read b first words words 0 first
lay_start read b first words h l = record {
  gathered = gather_start read b first words;
  whole = h;
  fits = l;
  under = omega arith;
  same_length = refl;
  rest = refl;
}

module _ {read : ℕ → Option ℕ} {b : List ℕ} {first : ℕ} {words₀ words : List ℕ} {n at : ℕ} (t : Laying read b first words₀ words n at) where
  abbrev all : Option (List ℕ)
  all = members_from read b first

  lay_damaged : {C : Type 0} → member_at b at ≡ Damaged → C
  lay_damaged e = unread all (gather_damaged read b first words n at t.gathered e) t.whole

  lay_end : member_at b at ≡ End → (n ≡ length (listed all)) × (words ≡ laid (listed all) words₀)
  unfolding laid
  lay_end e =
      let q : take n words ≡ listed all = ap listed (gather_end read b first words n at t.gathered e) in
      let k : length (take n words) ≡ n = length-take-le n words t.under in
      let l : n ≡ length (listed all) = sym k ∙ ap length q in (
        l,
        sym (take-append-drop n words) ∙ ap (λ (xs : List ℕ). take n words ++ xs) (t.rest ∙ ap (λ (j : ℕ). drop j words₀) l)
            ∙ ap (λ (xs : List ℕ). xs ++ drop (length (listed all)) words₀) q,
      )

  -- where no member stands, all of them are written
  pub lay_over :
      (r : Step) → r ≡ member_at b at → ((h : Element) (k : ℕ) → r ≡ Member h k → ⊥) →
      (n ≡ length (listed all)) × (words ≡ laid (listed all) words₀)
  lay_over (Member h k) e f = absurd (f h k refl)
  lay_over End e f = lay_end (sym e)
  lay_over Damaged e f = lay_damaged (sym e)

  module _ (h : Element) (next : ℕ) (m : member_at b at ≡ Member h next) where
    pub lay_unread : {C : Type 0} → read at ≡ None → C
    lay_unread e = unread all (gather_unread read b first words n at t.gathered h next m e) t.whole

    module _ (word : ℕ) (e : read at ≡ Some word) where
      -- there is a place for one more
      pub lay_room : n < length words
      lay_room =
          let g = gather_one read b first words n at t.gathered h next m word e in
          let k : length (take n words) ≡ n = length-take-le n words t.under in
          let l = behind-length (take n words ++ (word ∷ [])) (members_from read b next) (ap readable g ∙ t.whole) in
          let j = ap (λ (r : Option (List ℕ)). length (listed r)) g in
          omega (arith, length-append (take n words) (word ∷ []))

      pub lay_next : Laying read b first words₀ (set words n word) (n + 1) next
      lay_next = record {
        gathered = gather_next read b first words n at t.gathered h next m word e lay_room;
        whole = t.whole;
        fits = t.fits;
        under = omega (arith, lay_room, length-set words n word);
        same_length = length-set words n word ∙ t.same_length;
        rest = drop-set-lt (n + 1) words n word (omega arith) ∙ same_drop words words₀ n (n + 1) (omega arith) t.rest;
      }

-- ---- entries: those from `at` on are still to be written, from position n on

pub record Filling (b : List ℕ) (first : ℕ) (s₀ s : Slots) (n at : ℕ) : Type 0 where
  pub whole : readable (entries_from b at) ≡ true
  pub count : n + length (listed (entries_from b at)) ≡ length (listed (entries_from b first))
  pub rest : put_entries n (listed (entries_from b at)) s ≡ put_entries 0 (listed (entries_from b first)) s₀
  pub room : Bounds s₀ (length (listed (entries_from b first)))
  pub lengths : SameLengths s s₀
  pub behind : n ≤ at

pub fill_start : (b : List ℕ) (first : ℕ) (s : Slots) → readable (entries_from b first) ≡ true → Bounds s (length (listed (entries_from b first)))
    → Filling b first s s 0 first
fill_start b first s h r = record {
  whole = h;
  count = omega arith;
  rest = refl;
  room = r;
  lengths = record { keys = refl; times = refl; fields = refl };
  behind = omega arith;
}

abbrev read_entry : List ℕ → ℕ → Option SceneEntry
read_entry b i = entry_in b (entry_at b i)

module _ {b : List ℕ} {first : ℕ} {s₀ s : Slots} {n at : ℕ} (t : Filling b first s₀ s n at) where
  fill_damaged : {C : Type 0} → member_at b at ≡ Damaged → C
  fill_damaged e = unread (entries_from b at) (sym (members_damaged (read_entry b) b at e)) t.whole

  fill_end : member_at b at ≡ End → (n ≡ length (listed (entries_from b first))) × (s ≡ put_entries 0 (listed (entries_from b first)) s₀)
  unfolding put_entries
  fill_end e =
      let q : listed (entries_from b at) ≡ [] = ap listed (members_end (read_entry b) b at e) in
      let l : length (listed (entries_from b at)) ≡ 0 = ap length q in
      (omega (arith, t.count), ap (λ (es : List SceneEntry). put_entries n es s) (sym q) ∙ t.rest)

  -- where no member stands, all of them are written
  pub fill_over :
      (r : Step) → r ≡ member_at b at → ((h : Element) (k : ℕ) → r ≡ Member h k → ⊥) →
      (n ≡ length (listed (entries_from b first))) × (s ≡ put_entries 0 (listed (entries_from b first)) s₀)
  fill_over (Member h k) e f = absurd (f h k refl)
  fill_over End e f = fill_end (sym e)
  fill_over Damaged e f = fill_damaged (sym e)

  module _ (h : Element) (next : ℕ) (m : member_at b at ≡ Member h next) where
    pub fill_unread : {C : Type 0} → entry_at b at ≡ None → C
    fill_unread e = unread (entries_from b at) (sym (members_none (read_entry b) b at h next m (ap (entry_in b) e))) t.whole

    module _ (slot : Slot) (e : entry_at b at ≡ Some slot) where
      more : entries_from b at ≡ prepended (Some (scene_entry b slot)) (entries_from b next)
      more = members_more (read_entry b) b at h next m (scene_entry b slot) (ap (entry_in b) e)

      parts : (readable (entries_from b next) ≡ true) × (listed (entries_from b at) ≡ scene_entry b slot ∷ listed (entries_from b next))
      parts =
          let p = front_parts (scene_entry b slot) (entries_from b next) (sym (ap readable more) ∙ t.whole) in
          (p.0, ap listed more ∙ p.1)

      -- there is a place for one more
      fill_bounds : Bounds s (n + 1)
      fill_bounds =
          let k : length (listed (entries_from b at)) ≡ suc (length (listed (entries_from b next))) = ap length parts.1 in
          let c = t.count in
          let r = t.room in
          let l = t.lengths in
          record { keys = omega arith; times = omega arith; fields = omega arith }

      short : EntryBounds b slot → length (part slot.from (slot.to - slot.from) b) ≤ max_fields
      short u = omega (arith, u, length_part b slot.from (slot.to - slot.from) (omega (arith, u)))

      -- what the write asks for
      pub fill_asks : EntryBounds b slot
          → (length (part slot.from (slot.to - slot.from) b) ≤ max_fields)
          × ((n < length s.keys) × ((n < length s.times) × (n * stride + stride ≤ length s.fields)))
      fill_asks u =
          let r = fill_bounds in
          (short u, (omega arith, (omega arith, omega arith)))

      pub fill_next : (s' : Slots) → s' ≡ put_slot n slot.key slot.time (part slot.from (slot.to - slot.from) b) s
          → EntryBounds b slot → Filling b first s₀ s' (n + 1) next
      unfolding put_entries
      fill_next s' q u =
          let k : length (listed (entries_from b at)) ≡ suc (length (listed (entries_from b next))) = ap length parts.1 in
          let w = put-lengths fill_bounds n slot.key slot.time (part slot.from (slot.to - slot.from) b) (omega arith) (short u) in
          subst (λ (x : Slots). Filling b first s₀ x (n + 1) next) (sym q) (record {
            whole = parts.0;
            count = omega (arith, t.count);
            rest = ap (λ (es : List SceneEntry). put_entries n es s) (sym parts.1) ∙ t.rest;
            room = t.room;
            lengths = record { keys = w.keys ∙ t.lengths.keys; times = w.times ∙ t.lengths.times; fields = w.fields ∙ t.lengths.fields };
            behind = omega (arith, t.behind, member_on b at h next m);
          })

-- ---- the table that is left

pub restores : (t : Table) (state : ScenesState) (s : Slots) (words : List ℕ) (es : List SceneEntry) (rs : List ℕ) (m n : ℕ)
    → (m ≡ length es) × (s ≡ put_entries 0 es t.slots) → (n ≡ length rs) × (words ≡ laid rs t.records)
    → state ≡ bump_if true (with_record_count n (with_entry_count m t.state))
    → record { state = state; slots = s; records = words } ≡ restored (Some (image_with es rs)) t
unfolding restored
restores t state s words es rs m n p q e = λ i. record {
  state = (e ∙ ap₂ (λ (a c : ℕ). bump_if true (with_record_count c (with_entry_count a t.state))) p.0 q.0) i;
  slots = p.1 i;
  records = q.1 i;
}
