-- Texts that stand whole in a buffer, and how long they are. Assumes nothing.
use Prim.Native.Nat.{ℕ, zero, suc, ◌+◌, ◌*◌, ◌/◌, ◌%◌, ◌≤◌, ◌<◌}
use mathlib.Core.Path.{◌≡◌, refl, sym, ap, ◌∙◌}
use mathlib.Core.Bool.{true, false, cond}
use mathlib.Core.List.{List, [], ◌∷◌, ◌++◌, append_assoc}
use native.Mathlib.Numerals.{add-one}
use native.Mathlib.Omega.{arith}
use native.Mathlib.Nat.{suc-mul}
use lib.Dec.{ltb}
use lib.ListN.{length, set, take, drop, take-append-drop, length-append, length-set}
use lib.Seq.{take-suc-set, drop-set-lt}
use Rattle.text_output.specs.Writing.{Sheet, sheet, puts, writes, writes_below, Puts, whole, digits_in, number}
use Rattle.text_output.proofs.Writing.{put-fits, puts-append, puts_none}

-- a text that fits is put whole
pub puts_whole : (t bytes : List ℕ) (next : ℕ) → next + length t ≤ length bytes → puts t (sheet bytes next) ≡ whole t (sheet bytes next)
unfolding puts
puts_whole [] bytes next h =
    let z : next ≡ next + 0 = omega arith in
    λ i. sheet ((sym (take-append-drop next bytes) ∙ ap (λ (k : ℕ). take next bytes ++ drop k bytes) z) i) (z i)
puts_whole (b ∷ t) bytes next h =
    let l : next < length bytes = omega arith in
    let m : next + 1 + length t ≤ length (set bytes next b) = rw length-set (omega arith) in
    let n : next + 1 + length t ≡ next + suc (length t) = omega arith in
    let front : take (next + 1) (set bytes next b) ≡ take next bytes ++ (b ∷ []) = rw (add-one, take-suc-set bytes next b l) in
    let back : drop (next + 1 + length t) (set bytes next b) ≡ drop (next + suc (length t)) bytes =
    drop-set-lt (next + 1 + length t) bytes next b (omega arith) ∙ ap (λ (k : ℕ). drop k bytes) n in
    ap (puts t) (put-fits b bytes next l)
    ∙ puts_whole t (set bytes next b) (next + 1) m
    ∙ (λ i. sheet (front i ++ (t ++ back i)) (n i))
    ∙ ap (λ (x : List ℕ). sheet x (next + suc (length t))) (append_assoc (take next bytes) (b ∷ []) (t ++ drop (next + suc (length t)) bytes))

-- how many bytes some texts have
unfoldable pub total : List (List ℕ) → ℕ
total [] = 0
total (t ∷ ts) = length t + total ts

-- ---- one text behind the other

pub puts-text : (most : ℕ) (t : List ℕ) → length t ≤ most → Puts most (puts t)
puts-text most t h = record { text = t; short = h; put = λ s. refl }

pub puts-nothing : Puts 0 (λ s. s)
puts-nothing = record { text = []; short = omega arith; put = λ s. sym (puts_none s) }

pub puts_then : (a b : ℕ) (f g : Sheet → Sheet) → Puts a f → Puts b g → Puts (a + b) (λ s. g (f s))
puts_then a b f g p q = record {
  text = p.text ++ q.text;
  short = let l = length-append p.text q.text in omega (arith, p.short, q.short);
  put = λ s. ap g (p.put s) ∙ q.put (puts p.text s) ∙ sym (puts-append p.text q.text s);
}

pub puts_most : (a b : ℕ) (f : Sheet → Sheet) → a ≤ b → Puts a f → Puts b f
puts_most a b f h p = record { text = p.text; short = omega (arith, p.short); put = p.put }

pub puts_all : (ts : List (List ℕ)) → Puts (total ts) (writes ts)
unfolding total writes
puts_all [] = puts-nothing
puts_all (t ∷ ts) = puts_then (length t) (total ts) (puts t) (writes ts) (puts-text (length t) t (omega arith)) (puts_all ts)

pub puts_below : (f : ℕ → List (List ℕ)) (most n : ℕ) → ((i : ℕ) → i < n → total (f i) ≤ most) → Puts (n * most) (writes_below f n)
unfolding writes_below
puts_below f most zero h = puts_most 0 (zero * most) (λ s. s) (omega arith) puts-nothing
puts_below f most (suc n) h =
    puts_most (n * most + total (f n)) (suc n * most) (writes_below f (suc n)) (let l = h n (omega arith) in let e : suc n * most ≡ n * most + most = suc-mul n most in omega arith)
    (puts_then (n * most) (total (f n)) (writes_below f n) (writes (f n)) (puts_below f most n (λ i l. h i (omega arith))) (puts_all (f n)))

-- ---- numbers

digits_length : (k n : ℕ) → length (digits_in k n) ≤ k
unfolding digits_in
digits_length zero n = omega arith
digits_length (suc k) n =
    elim (ltb n 10) as (λ b. length (cond b ((48 + n) ∷ []) (digits_in k (n / 10) ++ ((48 + n % 10) ∷ []))) ≤ suc k) [
      | true ↦ omega arith
      | false ↦ let r = digits_length k (n / 10) in let l = length-append (digits_in k (n / 10)) ((48 + n % 10) ∷ []) in omega arith
    ]

-- twenty digits behind a blank
pub number-length : (n : ℕ) → length (number n) ≤ 21
number-length n = let l = digits_length 20 n in omega arith
