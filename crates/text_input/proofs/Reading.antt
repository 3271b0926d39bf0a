-- The laws by which a word is found and read. Assumes nothing.
use Prim.Native.Nat.{ℕ, suc, ◌+◌, ◌-◌, ◌%◌, ◌*◌, ◌≤◌, ◌<◌}
use mathlib.Core.Path.{◌≡◌, refl, sym, ap, ◌∙◌}
use mathlib.Core.Bool.{Bool, true, false, cond, ◌&&◌, false≢true}
use mathlib.Core.Logic.{◌⊎◌, inl, inr}
use mathlib.Core.List.{List, [], ◌∷◌, ◌++◌, append_assoc, append-nil, map}
use native.Mathlib.Numerals.{add-one}
use native.Mathlib.Omega.{arith}
use lib.Dec.{eqb, ltb}
use lib.ListN.{length, get_or, take, drop, set, length-drop, take-append-drop, drop_of_length-le}
use lib.Seq.{length-take-le, drop-drop, drop-cons, drop-set-lt, take-suc-set}
use borrow.Author.Tests.{ltb-true, lt-ltb, le-ltb, le-leb, lt-leb}
use Rattle.std.proofs.lemmas.List.Sums.{prefix_len-le-length}
use Rattle.std.specs.Char.{is_ascii_digit, is_ascii_hexdigit}
use Rattle.std.specs.Char as std
use Rattle.std.specs.List.{list_all}
use Rattle.std.specs.Prelude.{Result, Ok, Err}
use Rattle.std.specs.Str.{bytes_eq}
use Rattle.text_output.specs.declared.reason.Reason.{Reason}
use Rattle.text_output.specs.declared.reason.Reason.TheVariants.{Missing, NotANumber, TooLarge}
use Rattle.text_input.specs.declared.input.Span.{Span}
use Rattle.text_input.specs.Reading.{blank, in_word, past, word_from, digit_value, number_from, same, all_digits, hex_value, all_pairs, pair_bytes, Spelled, dash_of, or_dash, turned, laid, spelled_in}

-- ---- positions past a test

pub past_le : (p : ℕ → Bool) (xs : List ℕ) (i : ℕ) → i ≤ length xs → past p xs i ≤ length xs
past_le p xs i h = omega (arith, prefix_len-le-length p (drop i xs), length-drop i xs)

-- ---- what a byte is worth, against std's tests and its `to_digit`

digit_tested : (b : ℕ) → ltb (digit_value b) 10 ≡ is_ascii_digit b
unfolding digit_value
digit_tested b = grind arith

hex_tested : (b : ℕ) → ltb (hex_value b) 16 ≡ is_ascii_hexdigit b
unfolding hex_value
hex_tested b = grind arith

digit_read : (b : ℕ) → std.digit_value b < 10 → std.digit_value b ≡ digit_value b
unfolding digit_value
digit_read b h = grind arith

-- the digit that `to_digit` told
pub digit_told : (b d : ℕ) → (std.digit_value b < 10) × (d ≡ std.digit_value b) → (d ≡ digit_value b) × (d ≤ 9)
digit_told b d v = (v.1 ∙ digit_read b v.0, omega (arith, v.0, v.1))

pub digit_no : (b : ℕ) → 10 ≤ std.digit_value b → digit_value b ≡ 10
unfolding digit_value
digit_no b h = grind arith

-- a byte that is a digit
digit_from : (b : ℕ) → digit_value b < 10 → 48 ≤ b
unfolding digit_value
digit_from b h = grind arith

digit_less : (b : ℕ) → digit_value b < 10 → b - 48 ≡ digit_value b
unfolding digit_value
digit_less b h = grind arith

-- a byte that is a hexadecimal digit, by the range that holds it
hex_low : (b : ℕ) → 48 ≤ b → b < 58 → std.digit_value b ≡ hex_value b
unfolding hex_value
hex_low b h l = grind arith

hex_capital : (b : ℕ) → 65 ≤ b → b < 71 → std.digit_value b ≡ hex_value b
unfolding hex_value
hex_capital b h l = grind arith

hex_small : (b : ℕ) → 97 ≤ b → b < 103 → std.digit_value b ≡ hex_value b
unfolding hex_value
hex_small b h l =
    simp (
      le-ltb b 48 (omega arith),
      le-ltb b 58 (omega arith),
      le-ltb b 65 (omega arith),
      le-ltb b 71 (omega arith),
      le-ltb b 91 (omega arith),
      le-ltb b 97 h,
      lt-ltb b 103 l,
      lt-ltb b 123 (omega arith),
      le-leb 48 b (omega arith),
      le-leb 65 b (omega arith),
      le-leb 97 b h,
    )
    (omega arith)

hex_in : (b : ℕ) → hex_value b < 16 → ((48 ≤ b) × (b < 58)) ⊎ ((65 ≤ b) × (b < 71)) ⊎ ((97 ≤ b) × (b < 103))
unfolding hex_value
hex_in b h = grind arith

pub hex_read : (b : ℕ) → hex_value b < 16 → std.digit_value b ≡ hex_value b
hex_read b h = elim (hex_in b h) [ inl p ↦ hex_low b p.0 p.1 | inr q ↦ elim q [ inl p ↦ hex_capital b p.0 p.1 | inr p ↦ hex_small b p.0 p.1 ] ]

-- ---- numbers

module _ (most v : ℕ) (xs : List ℕ) (i : ℕ) where
  pub number_end : length xs ≤ i → number_from most v (drop i xs) ≡ Ok v
  unfolding number_from
  number_end h = rw (drop_of_length-le xs h)

  module _ (h : i < length xs) (d : ℕ) (e : d ≡ digit_value (get_or xs i 0)) where
    pub number_bad : 9 < d → number_from most v (drop i xs) ≡ Err NotANumber
    unfolding number_from
    number_bad l = rw (drop-cons xs i 0 h, ← e, le-ltb d 10 (omega arith))

    pub number_large : d ≤ 9 → most < v * 10 + d → number_from most v (drop i xs) ≡ Err TooLarge
    unfolding number_from
    number_large l m = rw (drop-cons xs i 0 h, ← e, lt-ltb d 10 (omega arith), lt-leb (v * 10 + d) most m)

    pub number-next : d ≤ 9 → v * 10 + d ≤ most → number_from most v (drop i xs) ≡ number_from most (v * 10 + d) (drop (i + 1) xs)
    unfolding number_from
    number-next l m = rw (drop-cons xs i 0 h, ← e, lt-ltb d 10 (omega arith), le-leb (v * 10 + d) most m, add-one)

-- ---- two texts that are the same

same_is : (a b : List ℕ) → same a b ≡ bytes_eq a b
unfolding same
same_is [] [] = refl
same_is [] (y ∷ ys) = refl
same_is (x ∷ xs) [] = refl
same_is (x ∷ xs) (y ∷ ys) = ap (λ (b : Bool). eqb x y && b) (same_is xs ys)

-- what `==` answered
pub same_read : (a b read : List ℕ) (r : Bool) → read ≡ b → r ≡ bytes_eq a read → same a b ≡ r
same_read a b read r e f = same_is a b ∙ ap (bytes_eq a) (sym e) ∙ sym f

-- ---- bytes

-- what a word spells, from whether it is `-`
abbrev pub dash_told : Result Bool Reason → Spelled → Spelled
dash_told (Err r) spelled = Err r
dash_told (Ok true) spelled = Ok []
dash_told (Ok false) spelled = spelled

pub or_dash_is : (word : List ℕ) (spelled : Spelled) → or_dash word spelled ≡ dash_told (dash_of word) spelled
unfolding or_dash dash_of
or_dash_is word spelled =
    elim (eqb (length word) 0) as (λ t. cond t (Err Missing) (cond (same word (45 ∷ [])) (Ok []) spelled) ≡ dash_told (cond t (Err Missing) (Ok (same word (45 ∷ [])))) spelled) [
      | true ↦ refl
      | false ↦ elim (same word (45 ∷ [])) as (λ t. cond t (Ok []) spelled ≡ dash_told (Ok t) spelled) [ true ↦ refl | false ↦ refl ]
    ]

-- a word whose front holds the bytes, and behind them what it held before
pub laid_end : (bytes word before : List ℕ) (i : ℕ) → i ≤ length word → bytes ≡ take i word → drop i word ≡ drop i before
    → turned (Ok i) word ≡ spelled_in (Ok bytes) before
laid_end bytes word before i h e f =
    let n : i ≡ length bytes = sym (ap length e ∙ length-take-le i word h) in
    let w : word ≡ laid bytes before = sym (take-append-drop i word) ∙ λ z. sym e z ++ (f ∙ ap (λ (k : ℕ). drop k before) n) z in
    λ z. turned (Ok (n z)) (w z)

-- what stands behind a byte that was written
pub behind-set : (word before : List ℕ) (i d : ℕ) → drop i word ≡ drop i before → drop (i + 1) (set word i d) ≡ drop (i + 1) before
behind-set word before i d e =
    drop-set-lt (i + 1) word i d (omega arith) ∙ sym (drop-drop 1 i word) ∙ ap (drop 1) e ∙ drop-drop 1 i before

both : (a b : Bool) → (a && b) ≡ true → (a ≡ true) × (b ≡ true)
both true b e = (refl, e)
both false b e = absurd (false≢true e)

-- digits, a byte each, in a word whose front holds those that were read
pub digits_are : (xs : List ℕ) → list_all is_ascii_digit xs ≡ all_digits xs
unfolding all_digits
digits_are [] = refl
digits_are (b ∷ bs) = rw (digit_tested b, digits_are bs)

module _ (xs : List ℕ) (i : ℕ) where
  pub digits_end : length xs ≤ i → take i xs ++ map digit_value (drop i xs) ≡ take i xs
  digits_end h = rw (drop_of_length-le xs h) (append-nil (take i xs))

  module _ (h : i < length xs) where
    -- the next one of digits alone
    pub digit_here : all_digits (drop i xs) ≡ true → (48 ≤ get_or xs i 0) × (get_or xs i 0 - 48 ≡ digit_value (get_or xs i 0)) × (all_digits (drop (i + 1) xs) ≡ true)
    unfolding all_digits
    digit_here a =
        let q : (ltb (digit_value (get_or xs i 0)) 10 && all_digits (drop (i + 1) xs)) ≡ true = sym (rw (drop-cons xs i 0 h, add-one)) ∙ a in
        let b = both _ _ q in
        let l : digit_value (get_or xs i 0) < 10 = ltb-true _ 10 b.0 in
        (digit_from _ l, digit_less _ l, b.1)

    pub digits_next : (d : ℕ) → d ≡ digit_value (get_or xs i 0)
        → take i xs ++ map digit_value (drop i xs) ≡ take (i + 1) (set xs i d) ++ map digit_value (drop (i + 1) (set xs i d))
    digits_next d e =
        rw (drop-cons xs i 0 h, ← e, add-one, take-suc-set xs i d h, drop-set-lt (suc i) xs i d (omega arith))
        (sym (append_assoc (take i xs) (d ∷ []) (map digit_value (drop (suc i) xs))))

two : (xs : List ℕ) (k : ℕ) → k + 1 < length xs → drop k xs ≡ get_or xs k 0 ∷ get_or xs (k + 1) 0 ∷ drop (k + 2) xs
two xs k h =
    let e : k + 2 ≡ suc (suc k) = omega arith in
    let l : suc k < length xs = omega arith in
    rw (drop-cons xs k 0 (omega arith), add-one k, drop-cons xs (suc k) 0 l, e)

pairs_none : (xs : List ℕ) → length xs ≤ 1 → pair_bytes xs ≡ []
unfolding pair_bytes
pairs_none [] h = refl
pairs_none (x ∷ []) h = refl
pairs_none (x ∷ y ∷ xs) h = absurd (omega arith)

pub pairs_tested : (xs : List ℕ) → all_pairs xs ≡ cond (eqb (length xs % 2) 0) (list_all is_ascii_hexdigit xs) false
unfolding all_pairs
pairs_tested [] = refl
pairs_tested (h ∷ []) = refl
pairs_tested (h ∷ l ∷ bs) =
    let e : suc (suc (length bs)) % 2 ≡ length bs % 2 = omega arith in
    rw (e, hex_tested h, hex_tested l, pairs_tested bs)
    (elim (eqb (length bs % 2) 0) as (λ t. (is_ascii_hexdigit h && (is_ascii_hexdigit l && cond t (list_all is_ascii_hexdigit bs) false)) ≡ cond t (is_ascii_hexdigit h && (is_ascii_hexdigit l && list_all is_ascii_hexdigit bs)) false) [
      | true ↦ refl
      | false ↦ grind arith
    ])

-- hexadecimal digits, two a byte, likewise
module _ (xs : List ℕ) (i : ℕ) where
  pub pairs_end : length xs ≤ 2 * i + 1 → take i xs ++ pair_bytes (drop (2 * i) xs) ≡ take i xs
  pairs_end h =
      let l = length-drop (2 * i) xs in
      ap (λ (ys : List ℕ). take i xs ++ ys) (pairs_none (drop (2 * i) xs) (omega arith)) ∙ append-nil (take i xs)

  module _ (h : 2 * i + 1 < length xs) (x y : ℕ) (e : x ≡ hex_value (get_or xs (2 * i) 0)) (f : y ≡ hex_value (get_or xs (2 * i + 1) 0)) where
    all_pairs_next : x ≤ 15 → y ≤ 15 → all_pairs (drop (2 * i) xs) ≡ all_pairs (drop (2 * (i + 1)) xs)
    unfolding all_pairs
    all_pairs_next l m =
        let k : 2 * (i + 1) ≡ 2 * i + 2 = omega arith in
        rw (k, two xs (2 * i) h, ← e, ← f, lt-ltb x 16 (omega arith), lt-ltb y 16 (omega arith))

    -- two digits of a word that has nothing else
    pub pairs_are : all_pairs (drop (2 * i) xs) ≡ true → (x ≤ 15) × (y ≤ 15)
    unfolding all_pairs
    pairs_are p =
        let q : (ltb x 16 && (ltb y 16 && all_pairs (drop (2 * i + 2) xs))) ≡ true = sym (rw (two xs (2 * i) h, ← e, ← f)) ∙ p in
        let b = both _ _ q in
        let l : x < 16 = ltb-true x 16 b.0 in
        let m : y < 16 = ltb-true y 16 (both _ _ b.1).0 in
        (omega arith, omega arith)

    pub pairs_rest : all_pairs (drop (2 * i) xs) ≡ true → all_pairs (drop (2 * (i + 1)) (set xs i (x * 16 + y))) ≡ true
    pairs_rest p =
        let d = pairs_are p in
        ap all_pairs (drop-set-lt (2 * (i + 1)) xs i (x * 16 + y) (omega arith)) ∙ sym (all_pairs_next d.0 d.1) ∙ p

    pub pairs_next : take i xs ++ pair_bytes (drop (2 * i) xs) ≡ take (i + 1) (set xs i (x * 16 + y)) ++ pair_bytes (drop (2 * (i + 1)) (set xs i (x * 16 + y)))
    unfolding pair_bytes
    pairs_next =
        let k : 2 * (i + 1) ≡ 2 * i + 2 = omega arith in
        rw (k, two xs (2 * i) h, ← e, ← f, add-one i, take-suc-set xs i (x * 16 + y) (omega arith), drop-set-lt (2 * i + 2) xs i (x * 16 + y) (omega arith))
        (sym (append_assoc (take i xs) ((x * 16 + y) ∷ []) (pair_bytes (drop (2 * i + 2) xs))))

-- ---- the positions of a word

module _ (line : List ℕ) (at : ℕ) (r : Span) (e : r ≡ word_from line at) where
  pub word-start : r.from ≤ r.to
  word-start = rw e (omega arith)

  pub word_end : at ≤ length line → r.to ≤ length line
  word_end h =
      let l = past_le blank line at h in
      rw e (past_le in_word line (past blank line at) l)
