-- The text of answers, in ASCII codes.
use Rattle.std.specs.Prelude.{ℕ, zero, suc, ◌+◌, ◌-◌, ◌/◌, ◌%◌, ◌≤◌, ◌≡◌, Bool, cond, ◌&&◌, List, [], ◌∷◌, ◌++◌, ltb, length, set, take, drop}

-- an output buffer, and the position of its next byte
pub record Sheet : Type 0 where
  pub bytes : List ℕ
  pub next : ℕ

abbrev pub sheet : List ℕ → ℕ → Sheet
sheet bytes next = record { bytes = bytes; next = next }

-- a byte at the next position; what does not fit is left out
unfoldable pub put_byte : ℕ → Sheet → Sheet
put_byte b s = cond (ltb s.next (length s.bytes)) (sheet (set s.bytes s.next b) (s.next + 1)) s

-- one byte behind the other
unfoldable pub puts : List ℕ → Sheet → Sheet
puts [] s = s
puts (b ∷ bs) s = puts bs (put_byte b s)

-- one text behind the other
unfoldable pub writes : List (List ℕ) → Sheet → Sheet
writes [] s = s
writes (t ∷ ts) s = writes ts (puts t s)

-- the texts of each position below n, in order
unfoldable pub writes_below : (ℕ → List (List ℕ)) → ℕ → Sheet → Sheet
writes_below f zero s = s
writes_below f (suc n) s = writes (f n) (writes_below f n s)

-- what puts one text of at most so many bytes, whatever the sheet
pub record Puts (most : ℕ) (f : Sheet → Sheet) : Type 0 where
  pub text : List ℕ
  pub short : length text ≤ most
  pub put : (s : Sheet) → f s ≡ puts text s

-- a text that stands whole behind what the buffer held up to the next position
abbrev pub whole : List ℕ → Sheet → Sheet
whole t s = sheet (take s.next s.bytes ++ (t ++ drop (s.next + length t) s.bytes)) (s.next + length t)

abbrev pub newline : List ℕ
newline = 10 ∷ []

-- ---- numbers

-- the digits of a number, at most k of them
unfoldable pub digits_in : ℕ → ℕ → List ℕ
digits_in zero n = []
digits_in (suc k) n = cond (ltb n 10) ((48 + n) ∷ []) (digits_in k (n / 10) ++ ((48 + n % 10) ∷ []))

-- all of them: a number of 64 bits has at most 20
abbrev pub decimal : ℕ → List ℕ
decimal n = digits_in 20 n

-- what stands behind a blank
abbrev pub spaced : List ℕ → List ℕ
spaced text = 32 ∷ text

-- a number behind a blank
abbrev pub number : ℕ → List ℕ
number n = spaced (decimal n)

abbrev pub flag_text : Bool → List ℕ
flag_text b = decimal (cond b 1 0)

-- ---- bytes

-- a hexadecimal digit, in capitals
unfoldable pub hex_digit : ℕ → ℕ
hex_digit n = cond (ltb n 10) (48 + n) (65 + (n - 10))

abbrev pub hex_byte : ℕ → List ℕ
hex_byte b = hex_digit (b / 16 % 16) ∷ hex_digit (b % 16) ∷ []

unfoldable pub hex_text : List ℕ → List ℕ
hex_text [] = []
hex_text (b ∷ bs) = hex_byte b ++ hex_text bs

-- `-` for no bytes
unfoldable pub bytes_text : List ℕ → List ℕ
bytes_text [] = 45 ∷ []
bytes_text (b ∷ bs) = hex_text (b ∷ bs)

unfoldable pub is_fault : ℕ → Bool
is_fault s = ltb s 16 && ltb 0 s

-- a status in two hexadecimal digits, a fault as F and its number
unfoldable pub status_text : ℕ → List ℕ
status_text s = cond (is_fault s) (70 ∷ decimal s) (hex_byte s)
