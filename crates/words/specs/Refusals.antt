-- The refusals of document 01 ("Commands" and "Who causes which refusal") and document 02, each at its number, and the status of an answer
-- that may be one.
use Rattle.std.specs.Prelude.{ℕ, ⊤, Result, Ok, Err}
use Rattle.words.specs.Constants.{success, invalid_command, constraint_error, insufficient_space, not_found, no_fabric, membership_failed, capture_too_long, apply_failed, single_element, unsound, bad_pair, buffer_too_short, bad_image, clashing_image, bad_field_sets, memberships_full}
use Rattle.words.specs.declared.Refusal.{Refusal}
use Rattle.words.specs.declared.Refusal.TheVariants.{NoFabric, MembershipFailed, CaptureTooLong, ApplyFailed, SingleElement, Unsound, BadPair, BufferTooShort, BadImage, ClashingImage, BadFieldSets, MembershipsFull, InvalidCommand, ConstraintError, InsufficientSpace, NotFound}

-- the number that a refusal is answered with
abbrev pub number_of : Refusal → ℕ
number_of NoFabric = no_fabric
number_of MembershipFailed = membership_failed
number_of CaptureTooLong = capture_too_long
number_of ApplyFailed = apply_failed
number_of SingleElement = single_element
number_of Unsound = unsound
number_of BadPair = bad_pair
number_of BufferTooShort = buffer_too_short
number_of BadImage = bad_image
number_of ClashingImage = clashing_image
number_of BadFieldSets = bad_field_sets
number_of MembershipsFull = memberships_full
number_of InvalidCommand = invalid_command
number_of ConstraintError = constraint_error
number_of InsufficientSpace = insufficient_space
number_of NotFound = not_found

-- 0 where nothing refuses
abbrev pub status_of : Result ⊤ Refusal → ℕ
status_of (Ok done) = success
status_of (Err refusal) = number_of refusal
