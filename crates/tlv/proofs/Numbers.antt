-- The laws of numbers in bytes. Assumes nothing.
use Prim.Native.Nat.{ℕ, zero, suc, ◌+◌, ◌^◌, ◌≤◌, ◌<◌}
use mathlib.Core.List.{List}
use native.Mathlib.Nat.{pow-succ', pow-le-pow_right}
use native.Mathlib.Omega.{arith}
use lib.ListN.{get_or}
use Rattle.tlv.specs.Elements.{little}

module _ (b : List ℕ) where
  module _ (h : (i : ℕ) → get_or b i 0 < 256) where
    little_below : (n at : ℕ) → little n b at < 256 ^ n
    unfolding little
    little_below zero at = omega arith
    little_below (suc n) at = omega (arith, little_below n (at + 1), h at, pow-succ' 256 n)

    pub little_under : (m n at : ℕ) → n ≤ m → little n b at < 256 ^ m
    little_under m n at l = omega (arith, little_below n at, pow-le-pow_right {n = 256} (omega arith) l)
