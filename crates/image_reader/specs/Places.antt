-- Where the members of a structure stand, as the code finds them all in one walk. No definition of a call rests on this.
use Rattle.tlv.specs.Passing.{reading}
use Rattle.std.specs.Prelude.{ℕ, cond, ◌&&◌, List, [], ◌∷◌, eqb, ltb, length, get_or, set, Option, Some, None}
use Rattle.words.specs.Words.{key_of}
use Rattle.tlv.specs.declared.elements.Element.{Element}
use Rattle.tlv.specs.Types.{u8_type, u16_type, context_tagged}
use Rattle.tlv.specs.Values.{number_at}
use Rattle.tlv.specs.Members.{found_from}
use Rattle.image_reader.specs.Entries.{searching}

-- how many tags count: 0 to 5
abbrev pub tags : ℕ
tags = 6

-- where the first member with a tag stands; without one, behind the last byte, where no element stands
abbrev pub place_of : ℕ → List ℕ → ℕ → ℕ
place_of tag bytes from = searching (found_from tag bytes from) (length bytes) (λ at. at)

abbrev pub places_from : List ℕ → ℕ → List ℕ
places_from bytes from =
    place_of 0 bytes from ∷ place_of 1 bytes from ∷ place_of 2 bytes from ∷ place_of 3 bytes from ∷ place_of 4 bytes from ∷ place_of 5 bytes from ∷ []

-- a member noted in its place, if it is the first with one of the tags
unfoldable pub noted : List ℕ → Element → ℕ → ℕ → List ℕ
noted places e at none =
    cond (eqb e.form context_tagged && (ltb e.tag tags && eqb (get_or places e.tag 0) none)) (set places e.tag at) places

-- the key word of the members at the first four places
unfoldable pub key_at : List ℕ → List ℕ → Option ℕ
key_at bytes places =
    reading (number_at u8_type bytes (get_or places 0 0)) None λ fabric.
    cond (eqb fabric 0) None
    (reading (number_at u16_type bytes (get_or places 1 0)) None λ endpoint.
    reading (number_at u16_type bytes (get_or places 2 0)) None λ group.
    reading (number_at u8_type bytes (get_or places 3 0)) None λ scene. Some (key_of fabric endpoint group scene))
