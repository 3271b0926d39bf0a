-- The pairs of field bytes, written into a lent buffer: document 02, Q-2, for hosts that want them as a list. A pair is one word, its cluster
-- number times 2^32 plus its attribute number. 11, where the bytes are no list of extension field sets; then 8, a buffer that is too short;
-- neither writes.
use Rattle.std.specs.Prelude.{ℕ, cond, List, ◌++◌, ltb, length, drop, Option, Some, None}
use Rattle.words.specs.Constants.{success, buffer_too_short, bad_field_sets}
use Rattle.field_sets.specs.Reader.{ExtensionFieldSet, sets_in, pairs_of}
use Rattle.field_pairs.specs.declared.PairsRead.{PairsRead}

-- an answer with the buffer that it leaves
pub record Listing : Type 0 where
  pub read : PairsRead
  pub buffer : List ℕ

abbrev pub listing_of : PairsRead → List ℕ → Listing
listing_of r buffer = record { read = r; buffer = buffer }

abbrev pub answered : ℕ → ℕ → PairsRead
answered status len = record { status = status; len = len }

-- a refusal has no pairs and writes nothing
abbrev pub unlisted : List ℕ → ℕ → Listing
unlisted buffer n = listing_of (answered n 0) buffer

-- the words in the buffer's front, the rest as it was
unfoldable pub listed : List ℕ → List ℕ → Listing
listed words buffer =
    cond (ltb (length buffer) (length words)) (unlisted buffer buffer_too_short)
    (listing_of (answered success (length words)) (words ++ drop (length words) buffer))

abbrev pub listing : Option (List ExtensionFieldSet) → List ℕ → Listing
listing None buffer = unlisted buffer bad_field_sets
listing (Some ss) buffer = listed (pairs_of ss) buffer

unfoldable pub list_pairs : List ℕ → List ℕ → Listing
list_pairs bytes buffer = listing (sets_in bytes) buffer
