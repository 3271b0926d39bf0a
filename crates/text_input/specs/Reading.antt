-- How a line is taken into words, and what a word says. Characters are their ASCII codes.
use Rattle.std.specs.Prelude.{ℕ, ◌+◌, ◌*◌, ◌-◌, Bool, true, false, cond, not, ◌&&◌, ◌||◌, List, [], ◌∷◌, ◌++◌, Result, Ok, Err, map, eqb, ltb, leb, length, drop}
use Rattle.std.specs.List.{prefix_len}
use Rattle.text_input.specs.declared.input.Span.{Span}
use Rattle.text_output.specs.declared.reason.Reason.{Reason}
use Rattle.text_output.specs.declared.reason.Reason.TheVariants.{Missing, NotANumber, TooLarge, NotHex, NotDigits}

-- ---- words

-- a blank, a tab or a return
unfoldable pub blank : ℕ → Bool
blank b = eqb b 32 || (eqb b 9 || eqb b 13)

abbrev pub in_word : ℕ → Bool
in_word b = not (blank b)

-- the first position from `at` on at which a test does not hold, or the end
abbrev pub past : (ℕ → Bool) → List ℕ → ℕ → ℕ
past p line at = at + prefix_len p (drop at line)

-- the next word from a position on
abbrev pub word_from : List ℕ → ℕ → Span
word_from line at = record { from = past blank line at; to = past in_word line (past blank line at) }

-- ---- numbers

-- the value of a decimal digit, or 10
unfoldable pub digit_value : ℕ → ℕ
digit_value b = cond (leb 48 b && ltb b 58) (b - 48) 10

-- a number behind the digits that make `value`: the first byte that is no digit, or that makes it more than `most`, decides
unfoldable pub number_from : ℕ → ℕ → List ℕ → Result ℕ Reason
number_from most value [] = Ok value
number_from most value (b ∷ bs) =
    cond (ltb (digit_value b) 10)
    (cond (leb (value * 10 + digit_value b) most) (number_from most (value * 10 + digit_value b) bs) (Err TooLarge))
    (Err NotANumber)

-- a number of at most `most`
unfoldable pub number_of : ℕ → List ℕ → Result ℕ Reason
number_of most word = cond (eqb (length word) 0) (Err Missing) (number_from most 0 word)

-- ---- bytes

-- whether two texts are the same
unfoldable pub same : List ℕ → List ℕ → Bool
same [] [] = true
same [] (y ∷ ys) = false
same (x ∷ xs) [] = false
same (x ∷ xs) (y ∷ ys) = eqb x y && same xs ys

-- the bytes that a word spells, or why it spells none
abbrev pub Spelled : Type 0
Spelled = Result (List ℕ) Reason

-- whether a word is `-`; a missing one is refused
unfoldable pub dash_of : List ℕ → Result Bool Reason
dash_of word = cond (eqb (length word) 0) (Err Missing) (Ok (same word (45 ∷ [])))

-- `-` stands for no bytes
unfoldable pub or_dash : List ℕ → Spelled → Spelled
or_dash word spelled = cond (eqb (length word) 0) (Err Missing) (cond (same word (45 ∷ [])) (Ok []) spelled)

-- a digit a byte
unfoldable pub all_digits : List ℕ → Bool
all_digits [] = true
all_digits (b ∷ bs) = ltb (digit_value b) 10 && all_digits bs

abbrev pub digit_bytes : List ℕ → Spelled
digit_bytes word = cond (all_digits word) (Ok (map digit_value word)) (Err NotDigits)

-- the value of a hexadecimal digit, or 16
unfoldable pub hex_value : ℕ → ℕ
hex_value b =
    cond (leb 48 b && ltb b 58) (b - 48)
    (cond (leb 65 b && ltb b 71) (b - 65 + 10)
    (cond (leb 97 b && ltb b 103) (b - 97 + 10)
    16))

-- two digits a byte
unfoldable pub all_pairs : List ℕ → Bool
all_pairs [] = true
all_pairs (h ∷ []) = false
all_pairs (h ∷ l ∷ bs) = ltb (hex_value h) 16 && (ltb (hex_value l) 16 && all_pairs bs)

unfoldable pub pair_bytes : List ℕ → List ℕ
pair_bytes [] = []
pair_bytes (h ∷ []) = []
pair_bytes (h ∷ l ∷ bs) = (hex_value h * 16 + hex_value l) ∷ pair_bytes bs

abbrev pub hex_pairs : List ℕ → Spelled
hex_pairs word = cond (all_pairs word) (Ok (pair_bytes word)) (Err NotHex)

-- ---- a word that is turned into the bytes that it spells

-- the answer, and what the word holds afterwards
pub record Turned : Type 0 where
  pub answer : Result ℕ Reason
  pub word : List ℕ

abbrev pub turned : Result ℕ Reason → List ℕ → Turned
turned answer word = record { answer = answer; word = word }

-- bytes in the front of a word, and behind them what it held
abbrev pub laid : List ℕ → List ℕ → List ℕ
laid bytes word = bytes ++ drop (length bytes) word

-- a word that spells bytes has them in its front, and their count is the answer; one that is refused stays as it was
abbrev pub spelled_in : Spelled → List ℕ → Turned
spelled_in (Ok bytes) word = turned (Ok (length bytes)) (laid bytes word)
spelled_in (Err r) word = turned (Err r) word
