-- The laws of what is written. Assumes nothing.
use Prim.Native.Nat.{ℕ, zero, suc, ◌+◌, ◌/◌, ◌%◌, ◌≤◌, ◌<◌}
use mathlib.Core.Path.{◌≡◌, refl, ap, ◌∙◌}
use mathlib.Core.Bool.{true, false, cond}
use mathlib.Core.List.{List}
use native.Mathlib.Omega.{arith}
use lib.Dec.{ltb}
use lib.ListN.{length, length-append}
use borrow.Author.Tests.{lt-ltb}
use Rattle.text_output.specs.Writing.{Sheet, put_byte, puts}
use Rattle.text_output.proofs.Writing.{puts_cons, puts_none}
use Rattle.tlv.specs.Elements.{width}
use Rattle.tlv.proofs.Heads.{width_le}
use Rattle.tlv.specs.Encoding.{low_first, smallest, number_bytes, octets_bytes, number_size, octets_size}

-- the bytes of what equals y
pub put_same : {A : Type 0} (bytes : A → List ℕ) (x y : A) (s t : Sheet) → t ≡ puts (bytes x) s → x ≡ y → t ≡ puts (bytes y) s
put_same bytes x y s t p e = p ∙ ap (λ v. puts (bytes v) s) e

-- ---- the bytes of a number

module _ (left v : ℕ) (s : Sheet) where
  pub low_more : (less : ℕ) → left ≡ suc less → puts (low_first left v) s ≡ puts (low_first less (v / 256)) (put_byte (v % 256) s)
  unfolding low_first
  low_more less e = ap (λ (k : ℕ). puts (low_first k v) s) e ∙ puts_cons (v % 256) (low_first less (v / 256)) s

  pub low_none : left ≤ 0 → puts (low_first left v) s ≡ s
  unfolding low_first
  low_none l = let e : left ≡ 0 = omega arith in ap (λ (k : ℕ). puts (low_first k v) s) e ∙ puts_none s

pub low_length : (n v : ℕ) → length (low_first n v) ≡ n
unfolding low_first
low_length zero v = refl
low_length (suc n) v = ap suc (low_length n (v / 256))

-- ---- the smallest type

-- an unsigned number's type
abbrev Unsigned : ℕ → Type 0
Unsigned kind = (3 < kind) × (kind < 8)

pub smallest_le : (v : ℕ) → (3 < smallest v) × (smallest v < 8)
unfolding smallest
smallest_le v =
    elim (ltb v 256) as (λ t. Unsigned (cond t 4 (cond (ltb v 65536) 5 (cond (ltb v 4294967296) 6 7)))) [
      | true ↦ (omega arith, omega arith)
      | false ↦
          elim (ltb v 65536) as (λ t. Unsigned (cond t 5 (cond (ltb v 4294967296) 6 7))) [
            | true ↦ (omega arith, omega arith)
            | false ↦
                elim (ltb v 4294967296) as (λ t. Unsigned (cond t 6 7)) [ true ↦ (omega arith, omega arith) | false ↦ (omega arith, omega arith) ]
          ]
    ]

-- ---- sizes

pub number_size_le : (v : ℕ) → number_size v ≤ 10
number_size_le v = omega (arith, width_le (smallest v))

module _ (v : ℕ) where
  pub size_u8 : v < 256 → number_size v ≤ 3
  unfolding smallest width
  size_u8 l = rw (lt-ltb v 256 l) (omega arith)

  pub size_u16 : v < 65536 → number_size v ≤ 4
  unfolding smallest width
  size_u16 l =
      elim (ltb v 256) as (λ t. 2 + width (cond t 4 (cond (ltb v 65536) 5 (cond (ltb v 4294967296) 6 7))) ≤ 4)
      [ true ↦ omega arith | false ↦ rw (lt-ltb v 65536 l) (omega arith) ]

  pub size_u32 : v < 4294967296 → number_size v ≤ 6
  unfolding smallest width
  size_u32 l =
      elim (ltb v 256) as (λ t. 2 + width (cond t 4 (cond (ltb v 65536) 5 (cond (ltb v 4294967296) 6 7))) ≤ 6) [
        | true ↦ omega arith
        | false ↦
            elim (ltb v 65536) as (λ t. 2 + width (cond t 5 (cond (ltb v 4294967296) 6 7)) ≤ 6)
            [ true ↦ omega arith | false ↦ rw (lt-ltb v 4294967296 l) (omega arith) ]
      ]

pub number-length : (tag v : ℕ) → length (number_bytes tag v) ≡ number_size v
number-length tag v = omega (arith, low_length (width (smallest v)) v)

pub octets-length : (tag : ℕ) (bytes : List ℕ) → length (octets_bytes tag bytes) ≡ octets_size (length bytes)
octets-length tag bytes =
    let n = length bytes in
    omega (arith, low_length (width (smallest n)) n, length-append (low_first (width (smallest n)) n) bytes)
