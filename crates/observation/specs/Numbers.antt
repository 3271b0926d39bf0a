-- Being one of a list of numbers: demand 1's "an answer from document 01's list".
use Rattle.std.specs.Prelude.{ℕ, ◌≡◌, Bool, true, false, ◌||◌, List, [], ◌∷◌, eqb}
use Rattle.words.specs.Constants.{membership_failed}
use Rattle.requests.specs.declared.Membership.{Membership}
use Rattle.requests.specs.declared.Membership.TheVariants.{Yes, No, Failed}

abbrev pub one_of : List ℕ → ℕ → Bool
one_of [] n = false
one_of (m ∷ ms) n = eqb m n || one_of ms n

abbrev pub Among : List ℕ → ℕ → Type 0
Among ms n = one_of ms n ≡ true

-- what a membership adds to the numbers of a call: 2 where the host could not tell, and else nothing
abbrev pub failing : Membership → List ℕ
failing Yes = []
failing No = []
failing Failed = membership_failed ∷ []
