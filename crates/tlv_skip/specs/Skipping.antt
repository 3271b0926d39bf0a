-- How an element is skipped with whatever it holds, to a depth: document 02, Q-2: "Containers may stand inside values, and a container is skipped
-- together with whatever it holds, to a depth of 16, a container value being depth 1. Of what is skipped only element types, lengths and ends
-- are tested." The depth that is left falls by one with each container that is entered.
use Rattle.std.specs.Prelude.{ℕ, zero, suc, cond, List, Option, Some, None}
use Rattle.tlv.specs.Elements.{opens, element_at}
use Rattle.tlv.specs.Passing.{reading}
use Rattle.tlv_skip.specs.Containers.{Taken, Known, Refused, taken_from}

-- a member of which nothing is kept but where it ends
abbrev pub past : Option ℕ → Taken (Unit {0})
past (Some next) = Known tt next
past None = Refused

abbrev pub behind : Taken (Unit {0}) → Option ℕ
behind (Known u next) = Some next
behind Refused = None

-- the position behind an element in which containers stand no deeper than so many; with none left a container is refused
unfoldable pub skipped : ℕ → List ℕ → ℕ → Option ℕ
skipped zero bytes at = reading (element_at bytes at) None λ h. cond (opens h.kind) None (Some h.next)
skipped (suc depth) bytes at =
    reading (element_at bytes at) None λ h.
    cond (opens h.kind) (behind (taken_from (λ u i m. past (skipped depth bytes i)) bytes tt h.next)) (Some h.next)
