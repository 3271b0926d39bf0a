-- How many bytes the word of a line with the letter Y spells: two digits a byte. Assumes nothing.
use Prim.Native.Nat.{ℕ, ◌*◌, ◌≤◌}
use mathlib.Core.Path.{◌≡◌, refl, sym, subst, ◌∙◌}
use mathlib.Core.Bool.{Bool, true, false, cond}
use mathlib.Core.List.{List, [], ◌∷◌}
use native.Mathlib.Omega.{arith}
use lib.Dec.{eqb}
use lib.ListN.{length, get_or, length-take, length-drop}
use borrow.Author.Tests.{eqb-true, eqb-false}
use Rattle.std.specs.List.{prefix_len}
use Rattle.std.specs.Prelude.{Ok, Err}
use Rattle.text_output.specs.declared.reason.Reason.TheVariants.{Missing, NotHex, Unknown}
use Rattle.text_input.specs.Reading.{blank, in_word, same, or_dash, all_pairs, pair_bytes, hex_pairs}
use Rattle.script_lines.specs.declared.reader.Kind.{Kind}
use Rattle.script_lines.specs.declared.reader.Kind.TheVariants.{Hex}
use Rattle.script_lines.specs.Lines.{known, kinds_of, Meaning, Number, Text, Unclear, spelling, word_says, after_blanks, first_word, behind_word, Said, Nothing, Wrong, Call, follow, words_say, letter_says, line_says}

-- how many bytes a word spells
abbrev pub spelt : Meaning → ℕ
spelt (Number n) = 0
spelt (Text bytes) = length bytes
spelt (Unclear r) = 0

pairs-length : (w : List ℕ) → 2 * length (pair_bytes w) ≤ length w
unfolding pair_bytes
pairs-length [] = omega arith
pairs-length (h ∷ []) = omega arith
pairs-length (h ∷ l ∷ bs) = let r = pairs-length bs in omega arith

hex_length : (w : List ℕ) → 2 * spelt (spelling (or_dash w (hex_pairs w))) ≤ length w
unfolding or_dash
hex_length w =
    elim (eqb (length w) 0) as (λ t. 2 * spelt (spelling (cond t (Err Missing) (cond (same w (45 ∷ [])) (Ok []) (hex_pairs w)))) ≤ length w) [
      | true ↦ omega arith
      | false ↦
          elim (same w (45 ∷ [])) as (λ t. 2 * spelt (spelling (cond t (Ok []) (hex_pairs w))) ≤ length w) [
            | true ↦ omega arith
            | false ↦
                elim (all_pairs w) as (λ t. 2 * spelt (spelling (cond t (Ok (pair_bytes w)) (Err NotHex))) ≤ length w) [
                  | true ↦ pairs-length w
                  | false ↦ omega arith
                ]
          ]
    ]

after-length : (text : List ℕ) → length (after_blanks text) ≤ length text
after-length text = let d = length-drop (prefix_len blank text) text in omega arith

first_length : (text : List ℕ) → length (first_word text) ≤ length text
first_length text =
    let a = after-length text in
    let t = length-take (prefix_len in_word (after_blanks text)) (after_blanks text) in
    omega arith

behind-length : (text : List ℕ) → length (behind_word text) ≤ length text
behind-length text =
    let a = after-length text in
    let d = length-drop (prefix_len in_word (after_blanks text)) (after_blanks text) in
    omega arith

-- ---- the words of a text

-- the first word of what is said spells at most half of so many bytes
abbrev First : ℕ → Said → Type 0
First n Nothing = Unit
First n (Wrong r) = Unit
First n (Call letter words) = 2 * spelt (get_or words 0 (Number 0)) ≤ n

first_follows : (m : Meaning) (said : Said) (n : ℕ) → 2 * spelt m ≤ n → First n (follow m said)
first_follows (Number k) Nothing n h = tt
first_follows (Number k) (Wrong r) n h = tt
first_follows (Number k) (Call letter words) n h = h
first_follows (Text bytes) Nothing n h = tt
first_follows (Text bytes) (Wrong r) n h = tt
first_follows (Text bytes) (Call letter words) n h = h
first_follows (Unclear r) said n h = tt

first_hex : (trace : Bool) (letter : ℕ) (ks : List Kind) (text : List ℕ) → First (length text) (words_say trace letter (Hex ∷ ks) text)
unfolding words_say
first_hex trace letter ks text =
    let h = hex_length (first_word text) in
    let l = first_length text in
    first_follows (word_says trace Hex (first_word text)) (words_say trace letter ks (behind_word text)) (length text) (omega arith)

-- what is said has the letter that was read
abbrev Of : ℕ → Said → Type 0
Of l Nothing = Unit
Of l (Wrong r) = Unit
Of l (Call letter words) = letter ≡ l

of_follows : (l : ℕ) (m : Meaning) (said : Said) → Of l said → Of l (follow m said)
of_follows l (Number k) Nothing h = tt
of_follows l (Number k) (Wrong r) h = tt
of_follows l (Number k) (Call letter words) h = h
of_follows l (Text bytes) Nothing h = tt
of_follows l (Text bytes) (Wrong r) h = tt
of_follows l (Text bytes) (Call letter words) h = h
of_follows l (Unclear r) said h = tt

of_words : (trace : Bool) (letter : ℕ) (ks : List Kind) (text : List ℕ) → Of letter (words_say trace letter ks text)
unfolding words_say
of_words trace letter [] text = refl
of_words trace letter (k ∷ ks) text =
    of_follows letter (word_says trace k (first_word text)) (words_say trace letter ks (behind_word text)) (of_words trace letter ks (behind_word text))

-- ---- a line

-- with the letter Y, the first word spells at most half of so many bytes
abbrev pub Spells : ℕ → Said → Type 0
Spells n Nothing = Unit
Spells n (Wrong r) = Unit
Spells n (Call letter words) = letter ≡ 89 → 2 * spelt (get_or words 0 (Number 0)) ≤ n

spells_first : (n m : ℕ) (said : Said) → n ≤ m → First n said → Spells m said
spells_first n m Nothing l h = tt
spells_first n m (Wrong r) l h = tt
spells_first n m (Call letter words) l h = λ e. omega (arith, h)

spells-other : (l n : ℕ) (said : Said) → (l ≡ 89 → ⊥) → Of l said → Spells n said
spells-other l n Nothing z h = tt
spells-other l n (Wrong r) z h = tt
spells-other l n (Call letter words) z h = λ e. absurd (z (sym h ∙ e))

hex_spells : (trace : Bool) (text : List ℕ) (n : ℕ) → length text ≤ n → Spells n (words_say trace 89 (kinds_of 89) text)
unfolding kinds_of
hex_spells trace text n l = spells_first (length text) n (words_say trace 89 (kinds_of 89) text) l (first_hex trace 89 _ text)

words_spell : (trace : Bool) (letter : ℕ) (text : List ℕ) (n : ℕ) → length text ≤ n → Spells n (words_say trace letter (kinds_of letter) text)
words_spell trace letter text n l =
    (elim (eqb letter 89) as (λ t. eqb letter 89 ≡ t → Spells n (words_say trace letter (kinds_of letter) text)) [
      | true ↦ λ e. subst (λ (x : ℕ). Spells n (words_say trace x (kinds_of x) text)) (sym (eqb-true letter 89 e)) (hex_spells trace text n l)
      | false ↦ λ e.
          spells-other letter n (words_say trace letter (kinds_of letter) text) (eqb-false letter 89 e) (of_words trace letter (kinds_of letter) text)
    ]) refl

pub line-spells : (trace : Bool) (line : List ℕ) → Spells (length line) (line_says trace line)
unfolding line_says letter_says
line-spells trace line =
    let letter : ℕ = get_or (after_blanks line) 0 0 in
    elim (eqb (length (after_blanks line)) 0) as (λ t. Spells (length line) (cond t Nothing (cond (eqb letter 35) Nothing (worded letter)))) [
      | true ↦ tt
      | false ↦
          elim (eqb letter 35) as (λ t. Spells (length line) (cond t Nothing (worded letter))) [
            | true ↦ tt
            | false ↦
                elim (eqb (length (first_word line)) 1) as
                (λ t. Spells (length line) (cond t (letter_says trace letter (behind_word line)) (Wrong Unknown))) [
                  | true ↦
                      elim (known letter trace) as
                      (λ t. Spells (length line) (cond t (words_say trace letter (kinds_of letter) (behind_word line)) (Wrong Unknown))) [
                        | true ↦ words_spell trace letter (behind_word line) (length line) (behind-length line)
                        | false ↦ tt
                      ]
                  | false ↦ tt
                ]
          ]
    ]
  where
    worded : ℕ → Said
    worded letter = cond (eqb (length (first_word line)) 1) (letter_says trace letter (behind_word line)) (Wrong Unknown)
