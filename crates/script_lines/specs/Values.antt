-- What the words of a line name: its numbers, `values`, cut to a width; the bytes that a word spells; a scene and a group.
use Rattle.std.specs.Prelude.{ℕ, ◌%◌, ◌^◌, Bool, false, cond, not, List, [], ◌∷◌, eqb, get_or, take, drop}
use Rattle.words.specs.declared.SceneKey.{SceneKey}
use Rattle.words.specs.declared.GroupKey.{GroupKey}
use Rattle.script_lines.specs.declared.reader.Line.{Line}
use Rattle.script_lines.specs.Lines.{one_of, asks}

abbrev pub byte : ℕ → ℕ
byte value = value % 2 ^ 8

abbrev pub short : ℕ → ℕ
short value = value % 2 ^ 16

abbrev pub long : ℕ → ℕ
long value = value % 2 ^ 32

-- the number of a word
abbrev pub value_at : List ℕ → ℕ → ℕ
value_at values i = get_or values i 0

-- the bytes of a word that was turned into them in its front
abbrev pub bytes_at : Line → List ℕ → ℕ → List ℕ
bytes_at read line i = take (get_or read.values i 0) (drop (get_or read.starts i 0) line)

-- the scene of the first four words, and the group of the first three
abbrev pub scene_key : List ℕ → SceneKey
scene_key values = record {
  fabric = byte (value_at values 0);
  endpoint = short (value_at values 1);
  group = short (value_at values 2);
  scene = byte (value_at values 3);
}

abbrev pub group_key : List ℕ → GroupKey
group_key values = record { fabric = byte (value_at values 0); endpoint = short (value_at values 1); group = short (value_at values 2) }

-- whether the membership of a line is asked for: its place is 5 for A B, 4 for S V R L, 3 for X M and 7 for C, in ASCII codes
unfoldable pub asking : ℕ → List ℕ → Bool
asking letter values =
    cond (one_of letter (65 ∷ 66 ∷ [])) (eqb (value_at values 5) asks)
    (cond (one_of letter (83 ∷ 86 ∷ 82 ∷ 76 ∷ [])) (eqb (value_at values 4) asks)
    (cond (one_of letter (88 ∷ 77 ∷ [])) (eqb (value_at values 3) asks)
    (cond (eqb letter 67) (eqb (value_at values 7) asks) false)))

-- whether a line with the letter C asks for one of its two memberships and is told the other
unfoldable pub half_asking : ℕ → List ℕ → Bool
half_asking letter values =
    cond (eqb letter 67) (cond (eqb (value_at values 7) asks) (not (eqb (value_at values 8) asks)) (eqb (value_at values 8) asks)) false
