-- The laws of refusals: none has the number of a success, and so the status of an answer tells whether it is one. Assumes nothing.
use Rattle.std.proofs.Common.{◌≡◌, ◌≤◌, true, false, Result, Ok, Err, refl, arith}
use Rattle.std.specs.Prelude.{⊤, is_err}
use Rattle.words.specs.Constants.{success}
use Rattle.words.specs.Refusals.{number_of, status_of}
use Rattle.words.specs.declared.Refusal.{Refusal}
use Rattle.words.specs.declared.Refusal.TheVariants.{NoFabric, MembershipFailed, CaptureTooLong, ApplyFailed, SingleElement, Unsound, BadPair, BufferTooShort, BadImage, ClashingImage, BadFieldSets, MembershipsFull, InvalidCommand, ConstraintError, InsufficientSpace, NotFound}

number_above : (r : Refusal) → 1 ≤ number_of r
number_above r =
    elim r as (λ k. 1 ≤ number_of k) [
      | NoFabric ↦ omega arith
      | MembershipFailed ↦ omega arith
      | CaptureTooLong ↦ omega arith
      | ApplyFailed ↦ omega arith
      | SingleElement ↦ omega arith
      | Unsound ↦ omega arith
      | BadPair ↦ omega arith
      | BufferTooShort ↦ omega arith
      | BadImage ↦ omega arith
      | ClashingImage ↦ omega arith
      | BadFieldSets ↦ omega arith
      | MembershipsFull ↦ omega arith
      | InvalidCommand ↦ omega arith
      | ConstraintError ↦ omega arith
      | InsufficientSpace ↦ omega arith
      | NotFound ↦ omega arith
    ]

pub refusal-number : (r : Refusal) → number_of r ≡ success → ⊥
refusal-number r z = let h = number_above r in let w : ⊥ = omega arith in w

-- the status of an answer, by whether it is a refusal
pub err-number : (a : Result ⊤ Refusal) → is_err a ≡ true → status_of a ≡ success → ⊥
err-number (Ok _) e = absurd (let w : ⊥ = cc in w)
err-number (Err r) e = refusal-number r

pub ok-number : (a : Result ⊤ Refusal) → is_err a ≡ false → status_of a ≡ success
ok-number (Ok _) e = refl
ok-number (Err r) e = absurd (let w : ⊥ = cc in w)
