-- The theorems on saved images. Assumes nothing.
use Prim.Native.Nat.{ℕ, zero, suc, ◌+◌, ◌*◌, ◌^◌, ◌≤◌, ◌<◌}
use mathlib.Core.Path.{◌≡◌, refl, sym, ap, ap₂, subst, ◌∙◌}
use mathlib.Core.Bool.{true, false, cond}
use mathlib.Core.List.{List, [], ◌∷◌, ◌++◌, map, map-append}
use native.Mathlib.Omega.{arith}
use lib.Dec.{eqb, leb, ltb}
use lib.ListN.{length, take, drop, get_or, length-take}
use lib.Seq.{take-append_seam}
use borrow.Author.Tests.{leb-true, ltb-true, le-leb}
use Rattle.std.proofs.Common.{Option, Some}
use Rattle.words.specs.Constants.{success, unsound, clashing_image, stride, max_fields}
use Rattle.words.specs.Words.{fabric_of, key_of_record}
use Rattle.words.specs.Below.{positions}
use Rattle.words.proofs.Tests.{and_left, and_right, and_intro}
use Rattle.slots.specs.Slots.{SceneEntry, entry_at, length_at, laid}
use Rattle.state.specs.Table.{Table, entries_in, records_in}
use Rattle.state.specs.Sound.{sound}
use Rattle.state.specs.Answer.{Result, result_of, refused, refusal_of, guarded}
use Rattle.lifecycle.specs.Lifecycle.{startup}
use Rattle.image_reader.specs.Image.{Image, image_in}
use Rattle.image_writer.specs.Image.{image_bytes}
use Rattle.image_save.specs.Saving.{image_of, Saved, unsaved, buffer_gate, save_image}
use Rattle.image_save.proofs.Bound.{image_bound}
use Rattle.image_gate.specs.Verdict.{clashes, verdict, image_gate}
use Rattle.image_load.specs.Loading.{restored, load_tlv, load_image}
use Rattle.image_load.proofs.Loads.{by_length, read_some}
use Rattle.image_load.proofs.Restoring.{each, short, restored-entries, restored-records}
use Rattle.image_load.proofs.Decoding.{image_decoded}
use Rattle.observation.proofs.Sound.{to_each}
use Rattle.observation.proofs.Views.{entries-length, records-length, records-list}
use Rattle.observation.proofs.Acts.{passes}
use Rattle.restoration.specs.Restoration.{contents, Savable, Restored, Restores, SavedRestores, Rewrites, RewritesNone}
use Rattle.restoration.proofs.Arrays.{Every}
use Rattle.restoration.proofs.Members.{GoodEntry, GoodRecord}
use Rattle.restoration.proofs.Whole.{image-read}

-- ---- what a sound table holds

module _ {A : Type 0} (P : A → Type 0) where
  every_behind : (xs : List A) (x : A) → Every P xs → P x → Every P (xs ++ (x ∷ []))
  every_behind [] x h p = (p, tt)
  every_behind (y ∷ xs) x h p = (h.0, every_behind xs x h.1 p)

  every_view : (f : ℕ → A) (n : ℕ) → ((i : ℕ) → i < n → P (f i)) → Every P (map f (positions n))
  unfolding positions
  every_view f zero h = tt
  every_view f (suc n) h =
      subst (Every P) (sym (map-append f (positions n) (n ∷ [])))
      (every_behind (map f (positions n)) (f n) (every_view f n (λ i l. h i (omega arith))) (h n (omega arith)))

module _ (t : Table) (g : Savable t) where
  good_entries : Every GoodEntry (entries_in t)
  unfolding entries_in
  good_entries =
      let s = to_each t g.intact in
      every_view GoodEntry (entry_at t.slots) t.state.entries (λ i l.
      let k = s.key_at_lem i l in
      record {
        key = ltb-true (get_or t.slots.keys i 0) (2 ^ 48) (and_left _ (leb 1 (fabric_of (get_or t.slots.keys i 0))) k);
        fabric = leb-true 1 (fabric_of (get_or t.slots.keys i 0)) (and_right (ltb (get_or t.slots.keys i 0) (2 ^ 48)) _ k);
        time = g.times i l;
        fields = omega (arith, s.length_at_lem i l, length-take (length_at t.slots.fields i) (drop (i * stride + 1) t.slots.fields));
      })

  good_records : Every GoodRecord (records_in t)
  good_records =
      let s = to_each t g.intact in
      subst (Every GoodRecord) (records-list t g.intact) (every_view GoodRecord (λ i. get_or t.records i 0) t.state.recorded (λ i l.
      let k = s.record_at_lem i l in
      record {
        below = ltb-true (get_or t.records i 0) (2 ^ 49) (and_left _ (leb 1 (fabric_of (key_of_record (get_or t.records i 0)))) k);
        fabric = leb-true 1 (fabric_of (key_of_record (get_or t.records i 0))) (and_right (ltb (get_or t.records i 0) (2 ^ 49)) _ k);
      }))

  -- its image is read as its entries and records
  contents-read : image_in t.state.size (image_of t) ≡ Some (contents t)
  contents-read =
      let s = to_each t g.intact in
      image-read (entries_in t) (records_in t) good_entries good_records t.state.size
      (omega (arith, entries-length t, s.entries)) (omega (arith, records-length t g.intact, s.recorded))

-- ---- restored

-- what a load makes of bytes that are read as an image and that nothing refuses
loads : (bytes : List ℕ) (u : Table) (i : Image) → sound u ≡ true → image_in u.state.size bytes ≡ Some i → clashes i ≡ false
    → load_image bytes u ≡ result_of success false (restored (Some i) u)
unfolding load_tlv verdict
loads bytes u i s e c =
    let gate : image_gate u.state.size bytes ≡ success = rw (e, c) in
    by_length.some_bytes bytes u (read_some u.state.size bytes i e)
    ∙ passes (refused u) u s (image_gate u.state.size bytes) _ gate ∙ ap (λ (o : Option Image). result_of success false (restored o u)) e

-- and what the table then has
module _ (bytes : List ℕ) (u : Table) (i : Image) (s : sound u ≡ true) (e : image_in u.state.size bytes ≡ Some i) (c : clashes i ≡ false)
    (few : length i.entries ≤ u.state.size) (short-all : each short i.entries ≡ true) (held : length i.records ≤ u.state.size) where
  loaded-entries : entries_in (load_image bytes u).table ≡ i.entries
  loaded-entries = ap (λ (r : Result). entries_in r.table) (loads bytes u i s e c) ∙ restored-entries u s i few short-all

  loaded-records : records_in (load_image bytes u).table ≡ i.records
  loaded-records = ap (λ (r : Result). records_in r.table) (loads bytes u i s e c) ∙ restored-records u s i few short-all held

short_good : (es : List SceneEntry) → Every GoodEntry es → each short es ≡ true
unfolding each
short_good [] h = refl
short_good (e ∷ es) h = and_intro (short e) (each short es) (le-leb (length e.fields) max_fields h.0.fields) (short_good es h.1)

pub restores : Restores
unfolding restored
restores t u g s n =
    let b = to_each t g.intact in
    let e : image_in u.state.size (image_of t) ≡ Some (contents t) = subst (λ (k : ℕ). image_in k (image_of t) ≡ Some (contents t)) n (contents-read t g) in
    let l = loads (image_of t) u (contents t) s e g.unclashed in
    let few : length (entries_in t) ≤ u.state.size = omega (arith, entries-length t, b.entries, n) in
    let held : length (records_in t) ≤ u.state.size = omega (arith, records-length t g.intact, b.recorded, n) in
    let fit = short_good (entries_in t) (good_entries t g) in
    record {
      status = ap (λ (r : Result). r.status) l;
      save = ap (λ (r : Result). r.save) l;
      entries = loaded-entries (image_of t) u (contents t) s e g.unclashed few fit held;
      records = loaded-records (image_of t) u (contents t) s e g.unclashed few fit held;
      version = ap (λ (r : Result). r.table.state.dataver) l;
      size = ap (λ (r : Result). r.table.state.size) l;
    }

-- ---- what a save leaves in the buffer's front

saved_front : (t : Table) (buffer : List ℕ) → sound t ≡ true → length (image_of t) ≤ length buffer
    → take (save_image buffer t).answer.len (save_image buffer t).buffer ≡ image_of t
unfolding save_image laid
saved_front t buffer s l =
    let gate : buffer_gate (length (image_of t)) (length buffer) ≡ success = rw (le-leb (length (image_of t)) (length buffer) l) in
    ap (λ (x : Saved). take x.answer.len x.buffer) (passes (unsaved buffer t) t s (buffer_gate (length (image_of t)) (length buffer)) _ gate)
    ∙ take-append_seam (image_of t) (drop (length (image_of t)) buffer)

pub saved_restores : SavedRestores
saved_restores t u buffer g s n room =
    let most = (image_bound t g.intact g.times).0 in
    subst (λ (bytes : List ℕ). Restored t u (load_image bytes u)) (sym (saved_front t buffer g.intact (omega (arith, most, room)))) (restores t u g s n)

-- ---- rewritten

-- a load that answers 0 found a sound table and an image that does not clash
accepted : (bytes : List ℕ) (t : Table) (i : Image) → image_in t.state.size bytes ≡ Some i → (load_tlv bytes t).status ≡ success
    → (sound t ≡ true) × (clashes i ≡ false)
unfolding load_tlv guarded refusal_of verdict
accepted bytes t i e =
    rw e
    (elim (sound t) as (λ b. sound t ≡ b
    → (cond (eqb (cond b (cond (clashes i) clashing_image success) unsound) success) (result_of success false (restored (Some i) t))
    (refused t (cond b (cond (clashes i) clashing_image success) unsound))).status ≡ success → (b ≡ true) × (clashes i ≡ false)) [
      | true ↦ λ s.
          (elim (clashes i) as (λ c. (cond (eqb (cond c clashing_image success) success) (result_of success false (restored (Some i) t))
          (refused t (cond c clashing_image success))).status ≡ success → (true ≡ true) × (c ≡ false)) [
            | true ↦ λ q. absurd (omega arith)
            | false ↦ λ q. (refl, refl)
          ])
      | false ↦ λ s q. absurd (omega arith)
    ] refl)

pub rewrites : Rewrites
rewrites bytes t i below e q =
    let l = by_length.some_bytes bytes t (read_some t.state.size bytes i e) in
    let a = accepted bytes t i e (sym (ap (λ (r : Result). r.status) l) ∙ q) in
    let h = image_decoded bytes below t.state.size i e in
    ap₂ image_bytes (loaded-entries bytes t i a.0 e a.1 h.entries_few h.fields-short h.records_few)
    (loaded-records bytes t i a.0 e a.1 h.entries_few h.fields-short h.records_few)

-- a startup leaves no entries and no records
pub rewrites_none : RewritesNone
unfolding startup entries_in records_in positions
rewrites_none t s =
    ap (λ (r : Result). image_of r.table) (by_length.no_bytes [] t refl ∙ passes (refused t) t s success _ refl)
