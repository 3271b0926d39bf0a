-- What some lines say, and what they are left as, as the definitions compute it. Assumes nothing.
use mathlib.Core.Path.{◌≡◌, refl}
use mathlib.Core.Bool.{true, false}
use mathlib.Core.List.{[], ◌∷◌}
use Rattle.text_output.specs.declared.reason.Reason.TheVariants.{Unknown, Missing, TooMany, NotANumber, TooLarge}
use Rattle.text_input.specs.Reading.{blank, digit_value, number_from, number_of, same, or_dash, hex_value, all_pairs, pair_bytes}
use Rattle.script_lines.specs.Lines.{one_of, known, kinds_of, not_given, modes_of, asks, member_word, Number, Text, Nothing, Wrong, Call, words_say, letter_says, line_says, words_left, line_left}

-- a blank and a tab
blank-line : line_says true (32 ∷ 9 ∷ []) ≡ Nothing
unfolding line_says blank
blank-line = refl

-- `# T`
comment : line_says true (35 ∷ 32 ∷ 84 ∷ []) ≡ Nothing
unfolding line_says blank
comment = refl

-- ` T  70`, of scenetrace
notice : line_says true (32 ∷ 84 ∷ 32 ∷ 32 ∷ 55 ∷ 48 ∷ []) ≡ Call 84 (Number 70 ∷ Number 0 ∷ Number 0 ∷ Number 0 ∷ Number 0 ∷ Number 0 ∷ Number 0 ∷ Number 0 ∷ Number 0 ∷ Number 0 ∷ [])
unfolding line_says blank letter_says known one_of kinds_of words_say number_of number_from digit_value
notice = refl

-- `T 70`, of scenebench
not_known : line_says false (84 ∷ 32 ∷ 55 ∷ 48 ∷ []) ≡ Wrong Unknown
unfolding line_says blank letter_says known one_of
not_known = refl

-- `F`; `F 1 2`; `F 256`
too_few : line_says true (70 ∷ []) ≡ Wrong Missing
unfolding line_says blank letter_says known one_of kinds_of words_say number_of
too_few = refl

too_many : line_says true (70 ∷ 32 ∷ 49 ∷ 32 ∷ 50 ∷ []) ≡ Wrong TooMany
unfolding line_says blank letter_says known one_of kinds_of words_say number_of number_from digit_value
too_many = refl

too_large : line_says true (70 ∷ 32 ∷ 50 ∷ 53 ∷ 54 ∷ []) ≡ Wrong TooLarge
unfolding line_says blank letter_says known one_of kinds_of words_say number_of number_from digit_value
too_large = refl

-- `N 3`, `N 3 1`, `N 3 256` and `N 3 1 1`, of scenetrace
no_modes : line_says true (78 ∷ 32 ∷ 51 ∷ []) ≡ Call 78 (Number 3 ∷ Number not_given ∷ Number 0 ∷ Number 0 ∷ Number 0 ∷ Number 0 ∷ Number 0 ∷ Number 0 ∷ Number 0 ∷ Number 0 ∷ [])
unfolding line_says blank letter_says known one_of kinds_of modes_of words_say number_of number_from digit_value
no_modes = refl

modes : line_says true (78 ∷ 32 ∷ 51 ∷ 32 ∷ 49 ∷ []) ≡ Call 78 (Number 3 ∷ Number 1 ∷ Number 0 ∷ Number 0 ∷ Number 0 ∷ Number 0 ∷ Number 0 ∷ Number 0 ∷ Number 0 ∷ Number 0 ∷ [])
unfolding line_says blank letter_says known one_of kinds_of modes_of words_say number_of number_from digit_value
modes = refl

modes_too_large : line_says true (78 ∷ 32 ∷ 51 ∷ 32 ∷ 50 ∷ 53 ∷ 54 ∷ []) ≡ Wrong TooLarge
unfolding line_says blank letter_says known one_of kinds_of modes_of words_say number_of number_from digit_value
modes_too_large = refl

behind_modes : line_says true (78 ∷ 32 ∷ 51 ∷ 32 ∷ 49 ∷ 32 ∷ 49 ∷ []) ≡ Wrong TooMany
unfolding line_says blank letter_says known one_of kinds_of modes_of words_say number_of number_from digit_value
behind_modes = refl

-- `N 3` and `N 3 1`, of scenebench
bench_size : line_says false (78 ∷ 32 ∷ 51 ∷ []) ≡ Call 78 (Number 3 ∷ Number not_given ∷ Number 0 ∷ Number 0 ∷ Number 0 ∷ Number 0 ∷ Number 0 ∷ Number 0 ∷ Number 0 ∷ Number 0 ∷ [])
unfolding line_says blank letter_says known one_of kinds_of modes_of words_say number_of number_from digit_value
bench_size = refl

bench_modes : line_says false (78 ∷ 32 ∷ 51 ∷ 32 ∷ 49 ∷ []) ≡ Wrong TooMany
unfolding line_says blank letter_says known one_of kinds_of modes_of words_say number_of number_from digit_value
bench_modes = refl

-- `S 1 2 3 4 1 0aF0`
bytes : line_says false (83 ∷ 32 ∷ 49 ∷ 32 ∷ 50 ∷ 32 ∷ 51 ∷ 32 ∷ 52 ∷ 32 ∷ 49 ∷ 32 ∷ 48 ∷ 97 ∷ 70 ∷ 48 ∷ [])
    ≡ Call 83 (Number 1 ∷ Number 2 ∷ Number 3 ∷ Number 4 ∷ Number 1 ∷ Text (10 ∷ 240 ∷ []) ∷ Number 0 ∷ Number 0 ∷ Number 0 ∷ Number 0 ∷ [])
unfolding line_says blank letter_says known one_of kinds_of words_say member_word number_of number_from digit_value same or_dash all_pairs pair_bytes hex_value
bytes = refl

-- it is left as `S 1 2 3 4 1 `, 10, 240, `F0`
bytes_left : line_left false (83 ∷ 32 ∷ 49 ∷ 32 ∷ 50 ∷ 32 ∷ 51 ∷ 32 ∷ 52 ∷ 32 ∷ 49 ∷ 32 ∷ 48 ∷ 97 ∷ 70 ∷ 48 ∷ [])
    ≡ 83 ∷ 32 ∷ 49 ∷ 32 ∷ 50 ∷ 32 ∷ 51 ∷ 32 ∷ 52 ∷ 32 ∷ 49 ∷ 32 ∷ 10 ∷ 240 ∷ 70 ∷ 48 ∷ []
unfolding line_left blank known one_of kinds_of words_left member_word number_of number_from digit_value same or_dash all_pairs pair_bytes hex_value
bytes_left = refl

-- `e 1 2 3 4 5 0g` stays
refused-left : line_left true (101 ∷ 32 ∷ 49 ∷ 32 ∷ 50 ∷ 32 ∷ 51 ∷ 32 ∷ 52 ∷ 32 ∷ 53 ∷ 32 ∷ 48 ∷ 103 ∷ [])
    ≡ 101 ∷ 32 ∷ 49 ∷ 32 ∷ 50 ∷ 32 ∷ 51 ∷ 32 ∷ 52 ∷ 32 ∷ 53 ∷ 32 ∷ 48 ∷ 103 ∷ []
unfolding line_left blank known one_of kinds_of words_left number_of number_from digit_value same or_dash all_pairs hex_value
refused-left = refl

-- `X 1 2 3 ?`, of scenetrace; `S 1 2 3 4 ? 0A`, of scenebench
asked : line_says true (88 ∷ 32 ∷ 49 ∷ 32 ∷ 50 ∷ 32 ∷ 51 ∷ 32 ∷ 63 ∷ [])
    ≡ Call 88 (Number 1 ∷ Number 2 ∷ Number 3 ∷ Number asks ∷ Number 0 ∷ Number 0 ∷ Number 0 ∷ Number 0 ∷ Number 0 ∷ Number 0 ∷ [])
unfolding line_says blank letter_says known one_of kinds_of words_say member_word number_of number_from digit_value same
asked = refl

bench_asked : line_says false (83 ∷ 32 ∷ 49 ∷ 32 ∷ 50 ∷ 32 ∷ 51 ∷ 32 ∷ 52 ∷ 32 ∷ 63 ∷ 32 ∷ 48 ∷ 65 ∷ []) ≡ Wrong NotANumber
unfolding line_says blank letter_says known one_of kinds_of words_say member_word number_of number_from digit_value
bench_asked = refl
