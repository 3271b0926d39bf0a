-- The laws of text that is put into a buffer. Assumes nothing.
use Prim.Native.Nat.{ℕ, zero, suc, ◌+◌, ◌/◌, ◌%◌, ◌^◌, ◌≤◌, ◌<◌}
use mathlib.Core.Path.{◌≡◌, refl, sym, ap, ◌∙◌}
use mathlib.Core.Bool.{true, false, cond}
use mathlib.Core.List.{List, [], ◌∷◌, ◌++◌}
use native.Mathlib.Numerals.{add-one}
use native.Mathlib.Nat.{pow-suc}
use native.Mathlib.Omega.{arith}
use lib.Dec.{ltb}
use lib.ListN.{length, get_or, drop, set, drop_of_length-le}
use lib.Seq.{drop-cons}
use borrow.Author.Tests.{lt-ltb, le-ltb}
use Rattle.text_output.specs.Writing.{Sheet, sheet, put_byte, puts, writes, writes_below, digits_in, decimal, hex_byte, hex_text, bytes_text}

pub puts-append : (a b : List ℕ) (s : Sheet) → puts (a ++ b) s ≡ puts b (puts a s)
unfolding puts
puts-append [] b s = refl
puts-append (x ∷ a) b s = puts-append a b (put_byte x s)

-- one text behind another
pub then : (a b : List ℕ) (s t u : Sheet) → t ≡ puts a s → u ≡ puts b t → u ≡ puts (a ++ b) s
then a b s t u e f = f ∙ ap (puts b) e ∙ sym (puts-append a b s)

-- ---- one byte

pub put-fits : (b : ℕ) (out : List ℕ) (at : ℕ) → at < length out → put_byte b (sheet out at) ≡ sheet (set out at b) (at + 1)
unfolding put_byte
put-fits b out at h = rw (lt-ltb at (length out) h)

pub put_left_out : (b : ℕ) (out : List ℕ) (at : ℕ) → length out ≤ at → put_byte b (sheet out at) ≡ sheet out at
unfolding put_byte
put_left_out b out at h = rw (le-ltb at (length out) h)

pub puts_none : (s : Sheet) → puts [] s ≡ s
unfolding puts
puts_none s = refl

pub puts_one : (b : ℕ) (s : Sheet) → puts (b ∷ []) s ≡ put_byte b s
unfolding puts
puts_one b s = refl

pub puts_cons : (b : ℕ) (bs : List ℕ) (s : Sheet) → puts (b ∷ bs) s ≡ puts bs (put_byte b s)
unfolding puts
puts_cons b bs s = refl

-- ---- a loop over text

module _ (text : List ℕ) (i : ℕ) (s : Sheet) where
  pub text-next : i < length text → puts (drop i text) s ≡ puts (drop (i + 1) text) (put_byte (get_or text i 0) s)
  unfolding puts
  text-next h = rw (drop-cons text i 0 h, add-one)

  pub text_end : length text ≤ i → puts (drop i text) s ≡ s
  unfolding puts
  text_end h = rw (drop_of_length-le text h)

  pub hex_next : i < length text → puts (hex_text (drop i text)) s ≡ puts (hex_text (drop (i + 1) text)) (puts (hex_byte (get_or text i 0)) s)
  unfolding hex_text
  hex_next h = rw (drop-cons text i 0 h, add-one) (puts-append (hex_byte (get_or text i 0)) (hex_text (drop (suc i) text)) s)

  pub hex_end : length text ≤ i → puts (hex_text (drop i text)) s ≡ s
  unfolding hex_text puts
  hex_end h = rw (drop_of_length-le text h)

pub bytes_none : (bytes : List ℕ) → length bytes ≡ 0 → bytes_text bytes ≡ 45 ∷ []
unfolding bytes_text
bytes_none [] h = refl
bytes_none (b ∷ bs) h = absurd (omega arith)

pub bytes_some : (bytes : List ℕ) → (length bytes ≡ 0 → ⊥) → bytes_text bytes ≡ hex_text bytes
unfolding bytes_text
bytes_some [] h = absurd (h refl)
bytes_some (b ∷ bs) h = refl

-- ---- a loop over positions

module _ (f : ℕ → List (List ℕ)) (s : Sheet) where
  pub below_none : writes_below f 0 s ≡ s
  unfolding writes_below
  below_none = refl

  pub below_more : (i : ℕ) → writes_below f (i + 1) s ≡ writes (f i) (writes_below f i s)
  unfolding writes_below
  below_more i = rw add-one

-- ---- decimal

-- more digits than a number has change nothing
enough : (k n : ℕ) → n < 10 ^ suc k → digits_in (suc k) n ≡ digits_in (suc (suc k)) n
unfolding digits_in
enough zero n h = rw (lt-ltb n 10 (omega arith))
enough (suc k) n h =
    (elim (ltb n 10) as (λ b. ltb n 10 ≡ b → cond b ((48 + n) ∷ []) (digits_in (suc k) (n / 10) ++ ((48 + n % 10) ∷ [])) ≡ cond b ((48 + n) ∷ []) (digits_in (suc (suc k)) (n / 10) ++ ((48 + n % 10) ∷ []))) [
      | true ↦ λ e. refl
      | false ↦ λ e. let p = pow-suc 10 (suc k) in ap (λ (t : List ℕ). t ++ ((48 + n % 10) ∷ [])) (enough k (n / 10) (omega arith))
    ]) refl

pub decimal_one : (n : ℕ) → n < 10 → decimal n ≡ (48 + n) ∷ []
unfolding digits_in
decimal_one n h = rw (lt-ltb n 10 h)

pub decimal_more : (n : ℕ) → 10 ≤ n → n < 2 ^ 64 → decimal n ≡ decimal (n / 10) ++ ((48 + n % 10) ∷ [])
unfolding digits_in
decimal_more n h l = rw (le-ltb n 10 h) (ap (λ (t : List ℕ). t ++ ((48 + n % 10) ∷ [])) (enough 18 (n / 10) (omega arith)))
