-- The parts of a key word and of a record word, and what clearing a record word leaves of them. Assumes nothing.
use Prim.Native.Nat.{ℕ, ◌+◌, ◌*◌, ◌/◌, ◌%◌, ◌^◌, ◌<◌}
use native.Mathlib.Omega.{arith}
use mathlib.Core.Path.{◌≡◌, refl}
use mathlib.Core.Bool.{true, false, cond}
use borrow.Author.Tests.{lt-leb}
use Rattle.words.specs.Words.{word_of, fabric_of, endpoint_of, group_of, scene_of, key_of_record, is_valid}
use Rattle.records.specs.declared.Scope.{Scope}
use Rattle.records.specs.Records.{hits, cleared}
use Rattle.observation.specs.Calls.{scene_key}

-- ---- key words

module _ (f e g s : ℕ) (hf : f < 2 ^ 8) (he : e < 2 ^ 16) (hg : g < 2 ^ 16) (hs : s < 2 ^ 8) where
  pub key-fabric : fabric_of (word_of (scene_key f e g s)) ≡ f
  key-fabric = omega arith

  pub key-scene : scene_of (word_of (scene_key f e g s)) ≡ s
  key-scene = omega arith

  pub key_small : word_of (scene_key f e g s) < 2 ^ 48
  key_small = omega arith

digits : (k a b c s g e : ℕ) → a * 2 ^ 8 + s ≡ k → b * 2 ^ 16 + g ≡ a → c * 2 ^ 16 + e ≡ b → k ≡ c * 2 ^ 40 + e * 2 ^ 24 + g * 2 ^ 8 + s
digits k a b c s g e p q r = omega arith

-- a key word is that of its parts
pub rebuilt : (k : ℕ) → k ≡ word_of (scene_key (fabric_of k) (endpoint_of k) (group_of k) (scene_of k))
rebuilt k =
    digits k (k / 2 ^ 8) (k / 2 ^ 24) (k / 2 ^ 40) (k % 2 ^ 8) (k / 2 ^ 8 % 2 ^ 16) (k / 2 ^ 24 % 2 ^ 16) (omega arith) (omega arith) (omega arith)

-- ---- record words

module _ (k : ℕ) where
  pub record_key : k < 2 ^ 48 → key_of_record (k + 2 ^ 48) ≡ k
  record_key h = omega arith

  pub low_key : key_of_record (key_of_record k) ≡ key_of_record k
  low_key = omega arith

  pub low_invalid : is_valid (key_of_record k) ≡ false
  low_invalid = lt-leb (2 ^ 48) (k % 2 ^ 48) (omega arith)

-- clearing a record word changes whether it is valid, and no part of its key
pub cleared-key : (scope : Scope) (w : ℕ) → key_of_record (cleared scope w) ≡ key_of_record w
cleared-key scope w = elim (hits scope w) as (λ b. key_of_record (cond b (key_of_record w) w) ≡ key_of_record w) [ true ↦ low_key w | false ↦ refl ]
