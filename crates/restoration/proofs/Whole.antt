-- An image that is written is read back: `from_tlv` of what `to_tlv` writes. Assumes nothing.
use Prim.Native.Nat.{ℕ, ◌+◌, ◌≤◌}
use mathlib.Core.Path.{◌≡◌, refl, ap, ◌∙◌}
use mathlib.Core.List.{List, [], ◌∷◌, ◌++◌, flat_map}
use native.Mathlib.Omega.{arith}
use lib.ListN.{length, get_or}
use borrow.Author.Tests.{le-leb}
use Rattle.std.proofs.Common.{Option, Some}
use Rattle.slots.specs.Slots.{SceneEntry}
use Rattle.tlv.specs.Types.{struct_type, end_type}
use Rattle.tlv.specs.Encoding.{Holds}
use Rattle.tlv.proofs.Walks.{find-tag, find-other}
use Rattle.tlv.proofs.Trips.{holds_left, holds_right, holds_first, open_inside}
use Rattle.image_reader.specs.Entries.{entry_at, entry_in, record_at}
use Rattle.image_reader.specs.Image.{array_under, arrays_of, arrays_in, image_in}
use Rattle.image_writer.specs.Image.{entry_bytes, record_bytes, array_bytes, image_bytes}
use Rattle.restoration.proofs.Arrays.{Every, array_inside, array-read, array-member}
use Rattle.restoration.proofs.Members.{GoodEntry, GoodRecord, entry-stands, record_stands}

module _ (es : List SceneEntry) (rs : List ℕ) (ge : Every GoodEntry es) (gr : Every GoodRecord rs) where
  -- the parts of the image
  abbrev first : List ℕ
  first = array_bytes 0 (flat_map entry_bytes es)

  abbrev second : List ℕ
  second = array_bytes 1 (flat_map record_bytes rs)

  abbrev b : List ℕ
  b = (struct_type ∷ []) ++ (first ++ (second ++ (end_type ∷ [])))

  all : Holds b 0 b
  all = record { room = omega arith; same = λ i l. let e : 0 + i ≡ i = omega arith in ap (λ (k : ℕ). get_or b k 0) e }

  inner : Holds b 1 (first ++ (second ++ (end_type ∷ [])))
  inner = holds_right b 0 (struct_type ∷ []) (first ++ (second ++ (end_type ∷ []))) all

  holds_entries : Holds b 1 first
  holds_entries = holds_left b 1 first (second ++ (end_type ∷ [])) inner

  abbrev next : ℕ
  next = 1 + length first

  holds_records : Holds b next second
  holds_records = holds_left b next second (end_type ∷ []) (holds_right b 1 first (second ++ (end_type ∷ [])) inner)

  abbrev read-entry : ℕ → Option SceneEntry
  read-entry i = entry_in b (entry_at b i)

  entries_under : array_under 0 b 1 ≡ Some 3
  unfolding array_under
  entries_under =
      rw (find-tag 0 b 1 _ _ (array-member read-entry entry_bytes GoodEntry b (entry-stands b) 0 1 es ge holds_entries) refl refl)
      (array_inside read-entry entry_bytes GoodEntry b (entry-stands b) 0 1 es ge holds_entries)

  records_under : array_under 1 b 1 ≡ Some (next + 2)
  unfolding array_under
  records_under =
      rw (find-other 1 b 1 _ _ (array-member read-entry entry_bytes GoodEntry b (entry-stands b) 0 1 es ge holds_entries) (λ e. omega arith) refl
      ∙ find-tag 1 b next _ _ (array-member (record_at b) record_bytes GoodRecord b (record_stands b) 1 next rs gr holds_records) refl refl)
      (array_inside (record_at b) record_bytes GoodRecord b (record_stands b) 1 next rs gr holds_records)

  arrays_read : arrays_in b ≡ Some (arrays_of 3 (next + 2))
  unfolding arrays_in
  arrays_read = rw (open_inside b 0 struct_type (holds_first b 0 struct_type _ all) (omega arith) (omega arith) (omega arith), entries_under, records_under)

  whole-read : (size : ℕ) → length es ≤ size → length rs ≤ size → image_in size b ≡ Some (record { entries = es; records = rs })
  unfolding image_in
  whole-read size le lr =
      rw (
        arrays_read,
        array-read read-entry entry_bytes GoodEntry b (entry-stands b) 0 1 es ge holds_entries,
        array-read (record_at b) record_bytes GoodRecord b (record_stands b) 1 next rs gr holds_records,
        le-leb (length es) size le,
        le-leb (length rs) size lr,
      )

  pub image-read : (size : ℕ) → length es ≤ size → length rs ≤ size → image_in size (image_bytes es rs) ≡ Some (record { entries = es; records = rs })
  unfolding image_bytes
  image-read size le lr = whole-read size le lr
