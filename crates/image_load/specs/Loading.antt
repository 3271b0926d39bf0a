-- What loading an image answers, and the table that it leaves: document 02, Q-1, and Q-3 for an image of no bytes.
use Rattle.std.specs.Prelude.{ℕ, ◌+◌, ◌≤◌, ◌≡◌, true, false, List, [], ◌∷◌, length, Option, Some, None}
use Rattle.words.specs.Constants.{success, bad_image}
use Rattle.slots.specs.Slots.{Slots, SceneEntry, put_slot, laid}
use Rattle.state.specs.Table.{Table, with_entry_count, with_record_count, bump_if}
use Rattle.state.specs.Sound.{sound}
use Rattle.state.specs.Answer.{Result, result_of, refused, refusal_of, guarded}
use Rattle.lifecycle.specs.Lifecycle.{startup}
use Rattle.image_reader.specs.Image.{Image, image_in}
use Rattle.image_gate.specs.Verdict.{image_gate}

-- entries written from a position on, each as a write does: length and bytes up to it, and what lies past the length stays
unfoldable pub put_entries : ℕ → List SceneEntry → Slots → Slots
put_entries at [] s = s
put_entries at (e ∷ es) s = put_entries (at + 1) es (put_slot at e.key e.time e.fields s)

-- entries and records of the image in place of the table's, in order, and one step of the data version
unfoldable pub restored : Option Image → Table → Table
restored None t = t
restored (Some i) t = record {
  state = bump_if true (with_record_count (length i.records) (with_entry_count (length i.entries) t.state));
  slots = put_entries 0 i.entries t.slots;
  records = laid i.records t.records;
}

-- the image that bytes encode, decided before the first write. No save mark: what was loaded is what is saved
unfoldable pub load_tlv : List ℕ → Table → Result
load_tlv bytes t =
    guarded (refused t) (refusal_of t (image_gate t.state.size bytes))
    (result_of success false (restored (image_in t.state.size bytes) t))

-- no bytes, as a new memory chip hands them over, are a startup with nothing saved
unfoldable pub load_image : List ℕ → Table → Result
load_image [] t = startup t
load_image (b ∷ bs) t = load_tlv (b ∷ bs) t

-- ---- the theorem of Q-3: no bytes, which 9 refused before, are a startup, and every other length is what it was

pub record ByLength : Type 0 where
  pub no_bytes : (bytes : List ℕ) (t : Table) → length bytes ≡ 0 → load_image bytes t ≡ startup t
  pub some_bytes : (bytes : List ℕ) (t : Table) → 1 ≤ length bytes → load_image bytes t ≡ load_tlv bytes t
  pub was_refused : (t : Table) → sound t ≡ true → load_tlv [] t ≡ refused t bad_image
