-- How the code decides 9 and 10, array by array, and what it hands on. No definition of a call rests on this.
use Rattle.std.specs.Prelude.{ℕ, Bool, true, false, cond, ◌||◌, ◌≡◌, ◌≤◌, List, [], leb, length, get_or, Option, Some, None}
use Rattle.words.specs.Constants.{success, bad_image, clashing_image}
use Rattle.words.specs.Below.{any_below}
use Rattle.slots.specs.Slots.{SceneEntry}
use Rattle.image_reader.specs.declared.Slot.{Slot}
use Rattle.image_reader.specs.Entries.{entry_at}
use Rattle.image_reader.specs.Image.{Image, members_from, entries_from, records_from, at_most, joined}

-- the key words of an array of entries
abbrev pub key_in : Option Slot → Option ℕ
key_in (Some s) = Some s.key
key_in None = None

abbrev pub keys_from : List ℕ → ℕ → Option (List ℕ)
keys_from bytes at = members_from (λ i. key_in (entry_at bytes i)) bytes at

-- a test that looks at no word behind its position
abbrev pub Local : (List ℕ → ℕ → Bool) → Type 0
Local test = (xs ys : List ℕ) (i : ℕ) → ((j : ℕ) → j ≤ i → get_or xs j 0 ≡ get_or ys j 0) → test xs i ≡ test ys i

-- whether one of the words clashes by a test; none where they cannot be read or are too many
unfoldable pub judged : (List ℕ → ℕ → Bool) → ℕ → Option (List ℕ) → Option Bool
judged test most None = None
judged test most (Some words) = cond (leb (length words) most) (Some (any_below (test words) (length words))) None

-- 9 of either array comes before 10 of either
unfoldable pub first_fault : Option Bool → Option Bool → ℕ
first_fault None records = bad_image
first_fault (Some k) None = bad_image
first_fault (Some k) (Some c) = cond (k || c) clashing_image success

-- the image whose arrays start at two positions
abbrev pub image_from : ℕ → List ℕ → ℕ → ℕ → Option Image
image_from size bytes first second = joined (at_most size (entries_from bytes first)) (at_most size (records_from bytes second))

-- the image of two lists
abbrev pub image_with : List SceneEntry → List ℕ → Image
image_with es rs = record { entries = es; records = rs }

-- what was read, if all of it could be
abbrev pub readable : {A : Type 0} → Option (List A) → Bool
readable None = false
readable (Some xs) = true

abbrev pub listed : {A : Type 0} → Option (List A) → List A
listed None = []
listed (Some xs) = xs
