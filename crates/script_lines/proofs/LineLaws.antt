-- The laws of reading a line, word by word. Assumes nothing.
use Prim.Native.Nat.{ℕ, zero, suc, ◌+◌, ◌-◌, ◌^◌, ◌≤◌, ◌<◌}
use mathlib.Core.Path.{◌≡◌, refl, sym, ap, ◌∙◌}
use mathlib.Core.Bool.{Bool, true, false, cond}
use mathlib.Core.List.{List, [], ◌∷◌, ◌++◌, append_assoc, append-nil, map, map-append}
use native.Mathlib.Numerals.{add-one}
use native.Mathlib.Omega.{arith}
use lib.Dec.{eqb}
use lib.ListN.{length, get_or, set, take, drop, take-append-drop, length-append, length-drop, drop_of_length-le}
use lib.Seq.{length-take-le, take-append_seam, take-take, take-add, drop-drop, drop-cons, take_at, drop_at, get_or-set_same, get_or-set_other, get_or-drop}
use borrow.Author.Tests.{eqb-true, eq-eqb, ne_eqb}
use borrow.Rule.Slice.PartMut.{mid_of, mid_len}
use Rattle.std.specs.List.{prefix_len}
use Rattle.std.specs.Prelude.{Result, Ok, Err}
use Rattle.text_output.specs.declared.reason.Reason.{Reason}
use Rattle.text_output.specs.declared.reason.Reason.TheVariants.{Unknown, TooMany}
use Rattle.text_input.specs.declared.input.Span.{Span}
use Rattle.text_input.specs.Reading.{blank, in_word, word_from, number_of, Spelled, or_dash, digit_bytes, hex_pairs}
use Rattle.text_input.proofs.Reading.{word-start, word_end}
use Rattle.words.specs.Below.{positions}
use Rattle.script_lines.specs.declared.reader.Kind.{Kind}
use Rattle.script_lines.specs.declared.reader.Kind.TheVariants.{End, Byte, Short, Long, Member, Flag, Size, Modes, Digits, Hex, Override, Length}
use Rattle.script_lines.specs.declared.reader.Reading.{Reading}
use Rattle.script_lines.specs.Lines.{Meaning, Number, Text, Unclear, numeral, spelling, override_of, most_scenes, modes_of, member_word, spells, word_says, word_answer, word_left, meaning, blanks, after_blanks, first_word, behind_word, Said, Nothing, Wrong, Call, ahead, follow, words_say, letter_says, line_says, known, one_of, kinds_of, understood, words_left, line_left, ReadsNext, word_read}

-- ---- a word

-- what is read in the front of a text is what the word says, whatever follows it
numeral-says : (kind : Kind) → spells kind ≡ false → (x : Result ℕ Reason) (w rest : List ℕ)
    → meaning kind (word_answer (numeral x)) (word_left (numeral x) w ++ rest) ≡ numeral x
numeral-says kind e (Ok n) w rest = rw e
numeral-says kind e (Err r) w rest = refl

spelling-says : (kind : Kind) → spells kind ≡ true → (s : Spelled) (w rest : List ℕ)
    → meaning kind (word_answer (spelling s)) (word_left (spelling s) w ++ rest) ≡ spelling s
spelling-says kind e (Ok bytes) w rest =
    rw e (ap Text (ap (take (length bytes)) (append_assoc bytes (drop (length bytes) w) rest)
    ∙ take-append_seam bytes (drop (length bytes) w ++ rest)))
spelling-says kind e (Err r) w rest = refl

word-says : (trace : Bool) (kind : Kind) (w rest : List ℕ)
    → meaning kind (word_answer (word_says trace kind w)) (word_left (word_says trace kind w) w ++ rest) ≡ word_says trace kind w
word-says trace End w rest = numeral-says End refl (cond (eqb (length w) 0) (Ok 0) (Err TooMany)) w rest
word-says trace Byte w rest = numeral-says Byte refl (number_of 255 w) w rest
word-says trace Short w rest = numeral-says Short refl (number_of 65535 w) w rest
word-says trace Long w rest = numeral-says Long refl (number_of (2 ^ 32 - 1) w) w rest
word-says trace Member w rest = numeral-says Member refl (member_word trace w) w rest
word-says trace Flag w rest = numeral-says Flag refl (number_of 1 w) w rest
word-says trace Size w rest = numeral-says Size refl (number_of (most_scenes trace) w) w rest
word-says trace Modes w rest = numeral-says Modes refl (modes_of trace w) w rest
word-says trace Digits w rest = spelling-says Digits refl (or_dash w (digit_bytes w)) w rest
word-says trace Hex w rest = spelling-says Hex refl (or_dash w (hex_pairs w)) w rest
word-says trace Override w rest = numeral-says Override refl (override_of w) w rest
word-says trace (Length most) w rest =
    numeral-says (Length most) refl (cond (eqb (length w) 0) (Ok most) (number_of most w)) w rest

is_value : Result ℕ Reason → Bool
is_value (Ok n) = true
is_value (Err r) = false

understood_is : (m : Meaning) → understood m ≡ is_value (word_answer m)
unfolding is_value
understood_is (Number n) = refl
understood_is (Text bytes) = refl
understood_is (Unclear r) = refl

-- ---- the next word

module _ (line : List ℕ) (at : ℕ) (r : Span) (e : r ≡ word_from line at) where
  pub word-from : at ≤ r.from
  word-from = rw e (omega arith)

  word-drop : drop r.from line ≡ after_blanks (drop at line)
  word-drop = rw e (sym (drop-drop (prefix_len blank (drop at line)) at line))

  word-length : r.to ≡ r.from + prefix_len in_word (drop r.from line)
  word-length = rw e

  pub word_is : mid_of r.from (r.to - r.from) line ≡ first_word (drop at line)
  word_is =
      let n : r.to - r.from ≡ prefix_len in_word (drop r.from line) = let l = word-length in omega arith in
      rw (n, word-drop)

  pub word_rest : drop r.to line ≡ behind_word (drop at line)
  word_rest = ap (λ (n : ℕ). drop n line) word-length ∙ sym (drop-drop (prefix_len in_word (drop r.from line)) r.from line) ∙ rw word-drop

-- fronts that agree agree in what is shorter
pub take_less : (a b : ℕ) (x y : List ℕ) → a ≤ b → take b x ≡ take b y → take a x ≡ take a y
take_less a b x y h q = sym (take-take a b x h) ∙ ap (take a) q ∙ take-take a b y h

-- a word that was read
module _ (trace : Bool) (kind : Kind) (line : List ℕ) (at : ℕ) (after : List ℕ) (r : Reading)
    (reads : ReadsNext trace kind line at after r) (h : at ≤ length line) (k : length after ≡ length line) where
  abbrev word_at : List ℕ
  word_at = first_word (drop at line)

  abbrev says : Meaning
  says = word_says trace kind word_at

  abbrev left : List ℕ
  left = word_left says word_at

  reads-from : at ≤ r.from
  reads-from = word-from line at _ reads.span

  reads_order : r.from ≤ r.to
  reads_order = word-start line at _ reads.span

  pub reads-within : r.to ≤ length line
  reads-within = word_end line at _ reads.span h

  front_length : length (take r.from line ++ left) ≡ r.to
  front_length =
      let o = reads_order in
      let l = reads-within in
      let a = ap length reads.left ∙ length-append (take r.from line) (left ++ drop r.to line) in
      let b = length-append left (drop r.to line) in
      let c = length-take-le r.from line (omega arith) in
      let d = length-drop r.to line in
      let e = length-append (take r.from line) left in
      omega arith

  reads_whole : after ≡ (take r.from line ++ left) ++ drop r.to line
  reads_whole = reads.left ∙ sym (append_assoc (take r.from line) left (drop r.to line))

  reads_front : take r.to after ≡ take r.from line ++ left
  reads_front = ap (take r.to) reads_whole ∙ take_at (take r.from line ++ left) (drop r.to line) r.to front_length

  reads_rest : drop r.to after ≡ behind_word (drop at line)
  reads_rest =
      ap (drop r.to) reads_whole
      ∙ drop_at (take r.from line ++ left) (drop r.to line) r.to front_length
      ∙ word_rest line at _ reads.span

  module _ (later : List ℕ) (q : take r.to later ≡ take r.to after) where
    reads_before : take at later ≡ take at line
    reads_before =
        let l = reads-within in
        let o = reads_order in
        take_less at r.from later line reads-from
        (take_less r.from r.to later after o q
        ∙ ap (take r.from) reads.left
        ∙ take_at (take r.from line) (left ++ drop r.to line) r.from (length-take-le r.from line (omega arith)))

    reads-says : meaning kind r.word (drop r.from later) ≡ says
    reads-says =
        let l = reads-within in
        let o = reads_order in
        let whole : later ≡ take r.from line ++ (left ++ drop r.to later) =
        sym (take-append-drop r.to later) ∙ ap (λ (x : List ℕ). x ++ drop r.to later) (q ∙ reads_front)
        ∙ append_assoc (take r.from line) left (drop r.to later) in
        let text : drop r.from later ≡ left ++ drop r.to later =
        ap (drop r.from) whole ∙ drop_at (take r.from line) (left ++ drop r.to later) r.from
        (length-take-le r.from line (omega arith)) in
        (λ i. meaning kind (reads.answer i) (text i)) ∙ word-says trace kind word_at (drop r.to later)

  -- the blanks, the word as it is left and what follows
  reads-text : (rest : List ℕ) → take at line ++ (blanks (drop at line) ++ (left ++ rest)) ≡ take r.to after ++ rest
  reads-text rest =
      let from : take r.from line ≡ take at line ++ blanks (drop at line) =
      ap (λ (s : Span). take s.from line) reads.span ∙ take-add at (prefix_len blank (drop at line)) line in
      sym
      (ap (λ (x : List ℕ). x ++ rest) reads_front
      ∙ append_assoc (take r.from line) left rest
      ∙ ap (λ (x : List ℕ). x ++ (left ++ rest)) from
      ∙ append_assoc (take at line) (blanks (drop at line)) (left ++ rest))

-- ---- one word more

ahead-ahead : (ms : List Meaning) (m : Meaning) (said : Said) → ahead ms (ahead (m ∷ []) said) ≡ ahead (ms ++ (m ∷ [])) said
ahead-ahead ms m Nothing = refl
ahead-ahead ms m (Wrong r) = refl
ahead-ahead ms m (Call letter ns) = ap (Call letter) (sym (append_assoc ms (m ∷ []) ns))

ahead_none : (said : Said) → said ≡ ahead [] said
ahead_none Nothing = refl
ahead_none (Wrong r) = refl
ahead_none (Call letter ns) = refl

module _ (k : Kind) (text : List ℕ) where
  follow-value : (n : ℕ) (ms : List Meaning) (said : Said)
      → ahead ms (follow (meaning k (Ok n) text) said) ≡ ahead (ms ++ (meaning k (Ok n) text ∷ [])) said
  follow-value n ms said =
      elim (spells k) as (λ b. ahead ms (follow (cond b (Text (take n text)) (Number n)) said) ≡ ahead
      (ms ++ (cond b (Text (take n text)) (Number n) ∷ [])) said) [
        | true ↦ ahead-ahead ms (Text (take n text)) said
        | false ↦ ahead-ahead ms (Number n) said
      ]

below_more : (f : ℕ → Meaning) (n : ℕ) → map f (positions (suc n)) ≡ map f (positions n) ++ (f n ∷ [])
unfolding positions
below_more f n = map-append f (positions n) (n ∷ [])

below_same : (f g : ℕ → Meaning) (n : ℕ) → ((j : ℕ) → j < n → f j ≡ g j) → map f (positions n) ≡ map g (positions n)
unfolding positions
below_same f g zero h = refl
below_same f g (suc n) h =
    below_more f n
    ∙ (let a : map f (positions n) ≡ map g (positions n) = below_same f g n (λ j l. h j (omega arith)) in
    let b : f n ≡ g n = h n (omega arith) in
    λ i. a i ++ (b i ∷ []))
    ∙ sym (below_more g n)

-- before the first word
pub words-start : (trace : Bool) (letter : ℕ) (kinds : List Kind) (values starts later text : List ℕ)
    → words_say trace letter kinds text ≡ ahead (map (word_read kinds values starts later) (positions 0)) (words_say trace letter (drop 0 kinds) text)
unfolding positions
words-start trace letter kinds values starts later text = ahead_none (words_say trace letter kinds text)

module _ (trace : Bool) (letter : ℕ) (kinds : List Kind) (values starts line : List ℕ) (at i : ℕ) (text : List ℕ) where
  abbrev kind : Kind
  kind = get_or kinds i End

  -- what is read in a line that agrees up to a position, with what follows
  abbrev pub Says : Type 0
  Says = (later : List ℕ) → take at later ≡ take at line
      → words_say trace letter kinds text ≡ ahead (map (word_read kinds values starts later) (positions i))
      (words_say trace letter (drop i kinds) (drop at line))

  -- once all kinds are passed
  pub words_end : Says → length kinds ≡ i → words_say trace letter kinds text ≡ Call letter (map (word_read kinds values starts line) (positions i))
  unfolding words_say
  words_end says l =
      let none : drop i kinds ≡ [] = drop_of_length-le kinds {i = i} (omega arith) in
      says line refl
      ∙ ap (λ (ks : List Kind). ahead (map (word_read kinds values starts line) (positions i)) (words_say trace letter ks (drop at line))) none
      ∙ ap (Call letter) (append-nil (map (word_read kinds values starts line) (positions i)))

  pub left_end : length kinds ≡ i → take at line ++ words_left trace (drop i kinds) (drop at line) ≡ line
  unfolding words_left
  left_end l =
      let none : drop i kinds ≡ [] = drop_of_length-le kinds {i = i} (omega arith) in
      ap (λ (ks : List Kind). take at line ++ words_left trace ks (drop at line)) none ∙ take-append-drop at line

  module _ (after : List ℕ) (r : Reading) (l : i < length kinds) (reads : ReadsNext trace kind line at after r) (h : at ≤ length line)
      (k : length after ≡ length line) where
    abbrev said : Meaning
    said = word_says trace kind (first_word (drop at line))

    words-next : words_say trace letter (drop i kinds) (drop at line) ≡ follow said (words_say trace letter (drop (i + 1) kinds) (drop r.to after))
    unfolding words_say
    words-next = rw (drop-cons kinds i End l, add-one, reads_rest trace kind line at after r reads h k)

    pub left-wrong : (why : Reason) → r.word ≡ Err why → take at line ++ words_left trace (drop i kinds) (drop at line) ≡ after
    unfolding words_left is_value
    left-wrong why e =
        let u : understood said ≡ false = understood_is said ∙ ap is_value (sym reads.answer ∙ e) in
        let d : words_left trace (drop i kinds) (drop at line) ≡ blanks (drop at line) ++
        (word_left said (first_word (drop at line)) ++ drop r.to after) =
        rw (drop-cons kinds i End l, u, reads_rest trace kind line at after r reads h k) in
        ap (λ (x : List ℕ). take at line ++ x) d ∙ reads-text trace kind line at after r reads h k (drop r.to after)
        ∙ take-append-drop r.to after

    pub left_more : (n : ℕ) → r.word ≡ Ok n
        → take at line ++ words_left trace (drop i kinds) (drop at line) ≡ take r.to after ++ words_left trace (drop (i + 1) kinds)
        (drop r.to after)
    unfolding words_left is_value
    left_more n e =
        let u : understood said ≡ true = understood_is said ∙ ap is_value (sym reads.answer ∙ e) in
        let d : words_left trace (drop i kinds) (drop at line)
        ≡ blanks (drop at line) ++ (word_left said (first_word (drop at line)) ++ words_left trace (drop (i + 1) kinds) (drop r.to after)) =
        rw (drop-cons kinds i End l, u, add-one, reads_rest trace kind line at after r reads h k) in
        ap (λ (x : List ℕ). take at line ++ x) d ∙ reads-text trace kind line at after r reads h k
        (words_left trace (drop (i + 1) kinds) (drop r.to after))

    module _ (says : Says) where
      pub words-wrong : (why : Reason) → r.word ≡ Err why → words_say trace letter kinds text ≡ Wrong why
      words-wrong why e =
          let m : Unclear why ≡ said = ap (λ (w : Result ℕ Reason). meaning kind w (drop r.from after)) (sym e)
          ∙ reads-says trace kind line at after r reads h k after refl in
          let s = says after (reads_before trace kind line at after r reads h k after refl) in
          s ∙ ap (ahead _) (words-next ∙ ap (λ (x : Meaning). follow x (words_say trace letter (drop (i + 1) kinds) (drop r.to after))) (sym m))

      pub words_more : (n : ℕ) → r.word ≡ Ok n → i < length values → i < length starts
          → (later : List ℕ) → take r.to later ≡ take r.to after
          → words_say trace letter kinds text
          ≡ ahead (map (word_read kinds (set values i n) (set starts i r.from) later) (positions (i + 1)))
          (words_say trace letter (drop (i + 1) kinds) (drop r.to after))
      words_more n e lv ls later q =
          let rest : Said = words_say trace letter (drop (i + 1) kinds) (drop r.to after) in
          let old : ℕ → Meaning = word_read kinds values starts later in
          let new : ℕ → Meaning = word_read kinds (set values i n) (set starts i r.from) later in
          let m : Meaning = meaning kind (Ok n) (drop r.from later) in
          let says-m : m ≡ said = ap (λ (w : Result ℕ Reason). meaning kind w (drop r.from later)) (sym e)
          ∙ reads-says trace kind line at after r reads h k later q in
          let same_old : map old (positions i) ≡ map new (positions i) = below_same old new i
          (λ j l. λ z. meaning (get_or kinds j End) (Ok (sym (get_or-set_other values i j n 0 (λ h. omega arith)) z))
          (drop (sym (get_or-set_other starts i j r.from 0 (λ h. omega arith)) z) later)) in
          let same_new : m ≡ new i = λ z. meaning kind (Ok (sym (get_or-set_same values i n 0 lv) z))
          (drop (sym (get_or-set_same starts i r.from 0 ls) z) later) in
          says later (reads_before trace kind line at after r reads h k later q)
          ∙ ap (ahead (map old (positions i))) (words-next ∙ ap (λ (x : Meaning). follow x rest) (sym says-m))
          ∙ follow-value kind (drop r.from later) n (map old (positions i)) rest
          ∙ (λ z. ahead (same_old z ++ (same_new z ∷ [])) rest)
          ∙ ap (λ (ms : List Meaning). ahead ms rest) (sym (below_more new i) ∙ ap (λ (k : ℕ). map new (positions k)) (sym (add-one i)))

record Ten (ks : List Kind) : Type 0 where
  ten : length ks ≡ 10

ten_list : {a b c d e f g h i j : Kind} → Ten (a ∷ b ∷ c ∷ d ∷ e ∷ f ∷ g ∷ h ∷ i ∷ j ∷ [])
ten_list = record { ten = refl }

-- either of two
ten_cond : (b : Bool) {x y : List Kind} → Ten x → Ten y → Ten (cond b x y)
ten_cond true p q = p
ten_cond false p q = q

all_ten : (letter : ℕ) → Ten (kinds_of letter)
unfolding kinds_of
all_ten letter =
    (ten_cond (eqb letter 78) ten_list
    (ten_cond (eqb letter 65) ten_list
    (ten_cond (eqb letter 66) ten_list
    (ten_cond (eqb letter 83) ten_list
    (ten_cond (eqb letter 86) ten_list
    (ten_cond (eqb letter 82) ten_list
    (ten_cond (eqb letter 88) ten_list
    (ten_cond (eqb letter 67) ten_list
    (ten_cond (eqb letter 76) ten_list
    (ten_cond (eqb letter 77) ten_list
    (ten_cond (eqb letter 73) ten_list
    (ten_cond (eqb letter 84) ten_list
    (ten_cond (eqb letter 70) ten_list
    (ten_cond (eqb letter 75) ten_list
    (ten_cond (eqb letter 80) ten_list
    (ten_cond (eqb letter 71) ten_list
    (ten_cond (eqb letter 89) ten_list
    (ten_cond (eqb letter 101) ten_list
    (ten_cond (eqb letter 114) ten_list
    (ten_cond (one_of letter (74 ∷ 81 ∷ 72 ∷ 109 ∷ [])) ten_list
    ten_list))))))))))))))))))))

pub kinds_length : (letter : ℕ) → length (kinds_of letter) ≡ 10
kinds_length letter = (all_ten letter).ten

-- ---- the first word of a line

no_mark : (trace : Bool) → known 35 trace ≡ false
unfolding known one_of
no_mark true = refl
no_mark false = refl

module _ (trace : Bool) (line : List ℕ) (r : Span) (e : r ≡ word_from line 0) where
  text-length : length (after_blanks line) ≡ length line - r.from
  text-length = ap length (sym (word-drop line 0 r e)) ∙ length-drop r.from line

  text_head : get_or (after_blanks line) 0 0 ≡ get_or line r.from 0
  text_head =
      let z : r.from + 0 ≡ r.from = omega arith in
      ap (λ (t : List ℕ). get_or t 0 0) (sym (word-drop line 0 r e)) ∙ get_or-drop r.from line 0 0 ∙ ap (λ (k : ℕ). get_or line k 0) z

  first_length : length (first_word line) ≡ r.to - r.from
  first_length = ap length (sym (word_is line 0 r e)) ∙ mid_len r.from r.to line (word_end line 0 r e (omega arith))

  -- a line that does not start with a known letter stays
  left_stays : (eqb (length (first_word line)) 1 ≡ true → known (get_or (after_blanks line) 0 0) trace ≡ false) → line ≡ line_left trace line
  unfolding line_left
  left_stays n =
      (elim (eqb (length (first_word line)) 1) as (λ b. eqb (length (first_word line)) 1 ≡ b → line ≡ cond b
      (cond (known (get_or (after_blanks line) 0 0) trace)
      (blanks line ++ (first_word line ++ words_left trace (kinds_of (get_or (after_blanks line) 0 0)) (behind_word line))) line) line) [
        | true ↦ λ e. rw (n e)
        | false ↦ λ e. refl
      ]) refl

  pub left-long : (r.from + 1 ≡ r.to → ⊥) → line ≡ line_left trace line
  left-long n =
      let f = first_length in
      let o = word-start line 0 r e in
      left_stays (λ z. let y = eqb-true (length (first_word line)) 1 z in absurd (n (omega arith)))

  pub left_unknown : known (get_or line r.from 0) trace ≡ false → line ≡ line_left trace line
  left_unknown n = left_stays (λ z. ap (λ (x : ℕ). known x trace) text_head ∙ n)

  pub left-blank : length line ≤ r.from → line ≡ line_left trace line
  left-blank h = left-long (λ z. let l = word_end line 0 r e (omega arith) in omega arith)

  pub left_comment : get_or line r.from 0 ≡ 35 → line ≡ line_left trace line
  left_comment q = left_unknown (ap (λ (x : ℕ). known x trace) q ∙ no_mark trace)

  pub left_letter : r.from + 1 ≡ r.to → known (get_or line r.from 0) trace ≡ true
      → take r.to line ++ words_left trace (kinds_of (get_or line r.from 0)) (drop r.to line) ≡ line_left trace line
  unfolding line_left
  left_letter n y =
      let f = first_length in
      let rest : List ℕ = words_left trace (kinds_of (get_or line r.from 0)) (drop r.to line) in
      let z : r.from ≡ 0 + prefix_len blank line = ap (λ (s : Span). s.from) e in
      let from : r.from ≡ prefix_len blank line = omega arith in
      let front : take r.to line ≡ blanks line ++ first_word line =
      ap (λ (k : ℕ). take k line) (word-length line 0 r e)
      ∙ take-add r.from (prefix_len in_word (drop r.from line)) line
      ∙ (λ i. take (from i) line ++ take (prefix_len in_word (word-drop line 0 r e i)) (word-drop line 0 r e i)) in
      ap (λ (x : List ℕ). x ++ rest) front
      ∙ append_assoc (blanks line) (first_word line) rest
      ∙ rw (eq-eqb (length (first_word line)) 1 (omega arith), text_head, y, word_rest line 0 r e)

  pub says-blank : length line ≤ r.from → Nothing ≡ line_says trace line
  unfolding line_says
  says-blank h = let n = text-length in rw (eq-eqb (length (after_blanks line)) 0 (omega arith))

  module _ (h : r.from < length line) where
    some_text : eqb (length (after_blanks line)) 0 ≡ false
    some_text = let n = text-length in ne_eqb (length (after_blanks line)) 0 (λ z. omega arith)

    pub says_comment : get_or line r.from 0 ≡ 35 → Nothing ≡ line_says trace line
    unfolding line_says
    says_comment q = rw (some_text, eq-eqb (get_or (after_blanks line) 0 0) 35 (text_head ∙ q))

    module _ (q : get_or line r.from 0 ≡ 35 → ⊥) where
      no_comment : eqb (get_or (after_blanks line) 0 0) 35 ≡ false
      no_comment = ne_eqb (get_or (after_blanks line) 0 0) 35 (λ z. q (sym text_head ∙ z))

      pub says_unknown : (r.from + 1 ≡ r.to → ⊥) → Wrong Unknown ≡ line_says trace line
      unfolding line_says
      says_unknown n =
          let f = first_length in
          let o = word-start line 0 r e in
          rw (some_text, no_comment, ne_eqb (length (first_word line)) 1 (λ z. n (omega arith)))

      pub says_letter : r.from + 1 ≡ r.to → letter_says trace (get_or line r.from 0) (drop r.to line) ≡ line_says trace line
      unfolding line_says
      says_letter n =
          let f = first_length in
          rw (some_text, no_comment, eq-eqb (length (first_word line)) 1 (omega arith), text_head, word_rest line 0 r e)

module _ (trace : Bool) (letter : ℕ) (text : List ℕ) where
  pub letter_known : known letter trace ≡ true → words_say trace letter (kinds_of letter) text ≡ letter_says trace letter text
  unfolding letter_says
  letter_known k = rw k

  pub letter_unknown : known letter trace ≡ false → Wrong Unknown ≡ letter_says trace letter text
  unfolding letter_says
  letter_unknown k = rw k
