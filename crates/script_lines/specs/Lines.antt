-- What a line says: nothing, why it is not understood, or a letter with what its words say; and what it holds once it was read.
-- Characters are their ASCII codes.
use Rattle.std.specs.Prelude.{ℕ, ◌-◌, ◌^◌, ◌≡◌, Bool, true, false, cond, List, [], ◌∷◌, ◌++◌, Option, Some, None, Result, Ok, Err, map, eqb, length, get_or, take, drop}
use Rattle.std.specs.List.{prefix_len}
use Rattle.words.specs.Below.{positions}
use Rattle.text_output.specs.declared.reason.Reason.{Reason}
use Rattle.text_input.specs.Reading.{blank, in_word, word_from, number_of, same, Spelled, or_dash, hex_pairs, digit_bytes, Turned, turned, laid}
use Rattle.script_lines.specs.declared.reader.Kind.{Kind}
use Rattle.script_lines.specs.declared.reader.Kind.TheVariants.{End, Byte, Short, Long, Member, Flag, Size, Modes, Digits, Hex, Override, Length}
use Rattle.script_lines.specs.declared.reader.Reading.{Reading}
use Rattle.script_lines.specs.declared.reader.Line.{Line}
use Rattle.text_output.specs.declared.reason.Reason.TheVariants as reason

-- ---- the letters

unfoldable pub one_of : ℕ → List ℕ → Bool
one_of letter [] = false
one_of letter (l ∷ ls) = cond (eqb letter l) true (one_of letter ls)

-- N A S V are of both programs; R X C L M I T F Z U W E D K e r P G B Y J Q H m of scenetrace alone
unfoldable pub known : ℕ → Bool → Bool
known letter trace =
    cond (one_of letter (78 ∷ 65 ∷ 83 ∷ 86 ∷ [])) true
    (cond trace
    (one_of letter (82 ∷ 88 ∷ 67 ∷ 76 ∷ 77 ∷ 73 ∷ 84 ∷ 70 ∷ 90 ∷ 85 ∷ 87 ∷ 69 ∷ 68 ∷ 75 ∷ 101 ∷ 114 ∷ 80 ∷ 71 ∷ 66 ∷ 89 ∷ 74 ∷ 81 ∷ 72 ∷ 109 ∷ []))
    false)

-- the image buffer: as long as the image of 1,024 scenes can be
abbrev pub most_image : ℕ
most_image = 175112

-- the kinds of two words
abbrev pub two_words : Kind → Kind → List Kind
two_words a b = a ∷ b ∷ End ∷ End ∷ End ∷ End ∷ End ∷ End ∷ End ∷ End ∷ []

-- the kinds of the four words of a scene, and of up to four words behind them
abbrev pub scene_and : Kind → Kind → Kind → Kind → List Kind
scene_and a b c d = Byte ∷ Short ∷ Short ∷ Byte ∷ a ∷ b ∷ c ∷ d ∷ End ∷ End ∷ []

-- the kinds of the words that a letter takes, ten with the missing ones
unfoldable pub kinds_of : ℕ → List Kind
kinds_of letter =
    cond (eqb letter 78) (two_words Size Modes)
    (cond (eqb letter 65) (scene_and Long Member Digits Hex)
    (cond (eqb letter 66) (scene_and Long Member Digits Hex)
    (cond (eqb letter 83) (scene_and Member Hex End End)
    (cond (eqb letter 86) (scene_and Member End End End)
    (cond (eqb letter 82) (scene_and Member End End End)
    (cond (eqb letter 88) (Byte ∷ Short ∷ Short ∷ Member ∷ End ∷ End ∷ End ∷ End ∷ End ∷ End ∷ [])
    (cond (eqb letter 67) (Byte ∷ Short ∷ Byte ∷ Short ∷ Byte ∷ Short ∷ Byte ∷ Member ∷ Member ∷ End ∷ [])
    (cond (eqb letter 76) (scene_and Member Override Flag End)
    (cond (eqb letter 77) (Byte ∷ Short ∷ Short ∷ Member ∷ Length 1024 ∷ End ∷ End ∷ End ∷ End ∷ End ∷ [])
    (cond (eqb letter 73) (Byte ∷ Short ∷ Flag ∷ End ∷ End ∷ End ∷ End ∷ End ∷ End ∷ End ∷ [])
    (cond (eqb letter 84) (Short ∷ End ∷ End ∷ End ∷ End ∷ End ∷ End ∷ End ∷ End ∷ End ∷ [])
    (cond (eqb letter 70) (Byte ∷ End ∷ End ∷ End ∷ End ∷ End ∷ End ∷ End ∷ End ∷ End ∷ [])
    (cond (eqb letter 75) (Long ∷ End ∷ End ∷ End ∷ End ∷ End ∷ End ∷ End ∷ End ∷ End ∷ [])
    (cond (eqb letter 80) (Length most_image ∷ End ∷ End ∷ End ∷ End ∷ End ∷ End ∷ End ∷ End ∷ End ∷ [])
    (cond (eqb letter 71) (Hex ∷ End ∷ End ∷ End ∷ End ∷ End ∷ End ∷ End ∷ End ∷ End ∷ [])
    (cond (eqb letter 89) (Hex ∷ End ∷ End ∷ End ∷ End ∷ End ∷ End ∷ End ∷ End ∷ End ∷ [])
    (cond (eqb letter 101) (scene_and Long Hex End End)
    (cond (eqb letter 114) (scene_and Flag End End End)
    (cond (one_of letter (74 ∷ 81 ∷ 72 ∷ 109 ∷ [])) (Byte ∷ Short ∷ Short ∷ End ∷ End ∷ End ∷ End ∷ End ∷ End ∷ End ∷ [])
    (End ∷ End ∷ End ∷ End ∷ End ∷ End ∷ End ∷ End ∷ End ∷ End ∷ []))))))))))))))))))))

-- ---- a word

-- a number, bytes, or why it is not understood
pub data Meaning : Type 0 where
  Number : ℕ → Meaning
  Text : List ℕ → Meaning
  Unclear : Reason → Meaning

abbrev pub numeral : Result ℕ Reason → Meaning
numeral (Ok n) = Number n
numeral (Err r) = Unclear r

abbrev pub spelling : Spelled → Meaning
spelling (Ok bytes) = Text bytes
spelling (Err r) = Unclear r

-- `-` or `null`, which stands for no override, as 2^32; else a time
unfoldable pub override_of : List ℕ → Result ℕ Reason
override_of w =
    cond (same w (45 ∷ [])) (Ok (2 ^ 32))
    (cond (same w (110 ∷ 117 ∷ 108 ∷ 108 ∷ [])) (Ok (2 ^ 32)) (number_of (2 ^ 32 - 1) w))

-- the largest table of a program
abbrev pub most_scenes : Bool → ℕ
most_scenes trace = cond trace 1024 256

-- what stands for modes that are not given: no byte is so large
abbrev pub not_given : ℕ
not_given = 2 ^ 8

-- the modes of a table, which may be missing. scenebench takes no further word
unfoldable pub modes_of : Bool → List ℕ → Result ℕ Reason
modes_of trace w = cond (eqb (length w) 0) (Ok not_given) (cond trace (number_of 255 w) (Err reason.TooMany))

-- what stands for a membership that is asked for: no told one is so large
abbrev pub asks : ℕ
asks = 3

-- a membership that is told, or `?`, of scenetrace alone, for one that is asked for
unfoldable pub member_word : Bool → List ℕ → Result ℕ Reason
member_word trace w = cond trace (cond (same w (63 ∷ [])) (Ok asks) (number_of 2 w)) (number_of 2 w)

-- whether words of a kind spell bytes
abbrev pub spells : Kind → Bool
spells End = false
spells Byte = false
spells Short = false
spells Long = false
spells Member = false
spells Flag = false
spells Size = false
spells Modes = false
spells Digits = true
spells Hex = true
spells Override = false
spells (Length most) = false

-- what a word of a kind says; a missing length is the most
abbrev pub word_says : Bool → Kind → List ℕ → Meaning
word_says trace End w = numeral (cond (eqb (length w) 0) (Ok 0) (Err reason.TooMany))
word_says trace Byte w = numeral (number_of 255 w)
word_says trace Short w = numeral (number_of 65535 w)
word_says trace Long w = numeral (number_of (2 ^ 32 - 1) w)
word_says trace Member w = numeral (member_word trace w)
word_says trace Flag w = numeral (number_of 1 w)
word_says trace Size w = numeral (number_of (most_scenes trace) w)
word_says trace Modes w = numeral (modes_of trace w)
word_says trace Digits w = spelling (or_dash w (digit_bytes w))
word_says trace Hex w = spelling (or_dash w (hex_pairs w))
word_says trace Override w = numeral (override_of w)
word_says trace (Length most) w = numeral (cond (eqb (length w) 0) (Ok most) (number_of most w))

-- what the reader answers: a number, or how many bytes the word spells
abbrev pub word_answer : Meaning → Result ℕ Reason
word_answer (Number n) = Ok n
word_answer (Text bytes) = Ok (length bytes)
word_answer (Unclear r) = Err r

-- what a word holds once it was read: the bytes that it spells in its front; every other word, and one that is not understood, stays
abbrev pub word_left : Meaning → List ℕ → List ℕ
word_left (Number n) w = w
word_left (Text bytes) w = laid bytes w
word_left (Unclear r) w = w

-- both, of a word that says something
abbrev pub read_as : Meaning → List ℕ → Turned
read_as m w = turned (word_answer m) (word_left m w)

-- what was read as a word, in the front of a text
abbrev pub meaning : Kind → Result ℕ Reason → List ℕ → Meaning
meaning kind (Ok n) text = cond (spells kind) (Text (take n text)) (Number n)
meaning kind (Err r) text = Unclear r

-- ---- the words of a text

abbrev pub blanks : List ℕ → List ℕ
blanks text = take (prefix_len blank text) text

abbrev pub after_blanks : List ℕ → List ℕ
after_blanks text = drop (prefix_len blank text) text

abbrev pub first_word : List ℕ → List ℕ
first_word text = take (prefix_len in_word (after_blanks text)) (after_blanks text)

abbrev pub behind_word : List ℕ → List ℕ
behind_word text = drop (prefix_len in_word (after_blanks text)) (after_blanks text)

-- nothing, why it is not understood, or a letter with what its words say
pub data Said : Type 0 where
  Nothing : Said
  Wrong : Reason → Said
  Call : ℕ → List Meaning → Said

abbrev pub ahead : List Meaning → Said → Said
ahead ms Nothing = Nothing
ahead ms (Wrong r) = Wrong r
ahead ms (Call letter ns) = Call letter (ms ++ ns)

-- the first word that is not understood decides
abbrev pub follow : Meaning → Said → Said
follow (Number n) said = ahead (Number n ∷ []) said
follow (Text bytes) said = ahead (Text bytes ∷ []) said
follow (Unclear r) said = Wrong r

unfoldable pub words_say : Bool → ℕ → List Kind → List ℕ → Said
words_say trace letter [] text = Call letter []
words_say trace letter (k ∷ ks) text = follow (word_says trace k (first_word text)) (words_say trace letter ks (behind_word text))

-- a letter, with the text behind it
unfoldable pub letter_says : Bool → ℕ → List ℕ → Said
letter_says trace letter text = cond (known letter trace) (words_say trace letter (kinds_of letter) text) (Wrong reason.Unknown)

-- a blank line and one that starts with `#` say nothing; else the first word is a letter
unfoldable pub line_says : Bool → List ℕ → Said
line_says trace line =
    let text : List ℕ = after_blanks line in
    cond (eqb (length text) 0) Nothing
    (cond (eqb (get_or text 0 0) 35) Nothing
    (cond (eqb (length (first_word line)) 1) (letter_says trace (get_or text 0 0) (behind_word line)) (Wrong reason.Unknown)))

-- ---- what a line holds once it was read

-- whether the reader goes on behind a word
abbrev pub understood : Meaning → Bool
understood (Number n) = true
understood (Text bytes) = true
understood (Unclear r) = false

-- the words in order, up to and with the first that is not understood; what stands behind it stays
unfoldable pub words_left : Bool → List Kind → List ℕ → List ℕ
words_left trace [] text = text
words_left trace (k ∷ ks) text =
    blanks text
    ++ (word_left (word_says trace k (first_word text)) (first_word text)
    ++ cond (understood (word_says trace k (first_word text))) (words_left trace ks (behind_word text)) (behind_word text))

-- behind a letter that is known; every other line stays
unfoldable pub line_left : Bool → List ℕ → List ℕ
line_left trace line =
    let letter : ℕ = get_or (after_blanks line) 0 0 in
    cond (eqb (length (first_word line)) 1)
    (cond (known letter trace) (blanks line ++ (first_word line ++ words_left trace (kinds_of letter) (behind_word line))) line)
    line

-- ---- what was read

-- a word that was read from a position on: where it stands, what it says, and the line with the word as it is left
pub record ReadsNext (trace : Bool) (kind : Kind) (line : List ℕ) (at : ℕ) (after : List ℕ) (r : Reading) : Type 0 where
  pub span : record { from = r.from; to = r.to } ≡ word_from line at
  pub answer : r.word ≡ word_answer (word_says trace kind (first_word (drop at line)))
  pub left : after ≡ take r.from line ++ (word_left (word_says trace kind (first_word (drop at line))) (first_word (drop at line)) ++ drop r.to line)

-- the word at a position
abbrev pub word_read : List Kind → List ℕ → List ℕ → List ℕ → ℕ → Meaning
word_read kinds values starts line i = meaning (get_or kinds i End) (Ok (get_or values i 0)) (drop (get_or starts i 0) line)

-- what a line says whose words were read
abbrev pub words_said : Result Line Reason → List ℕ → Said
words_said (Ok read) line = Call read.letter (map (word_read (kinds_of read.letter) read.values read.starts line) (positions 10))
words_said (Err r) line = Wrong r

-- what was read, with the line as it is left, says
abbrev pub said_of : Result (Option Line) Reason → List ℕ → Said
said_of (Ok None) line = Nothing
said_of (Ok (Some read)) line = words_said (Ok read) line
said_of (Err r) line = Wrong r

-- what was read says something, and the line is left in a known way
pub record ReadsLine (said : Said) (left : List ℕ) (after : List ℕ) (read : Said) : Type 0 where
  pub says : read ≡ said
  pub line : after ≡ left
