-- How an element is passed over with whatever it holds: document 02, Q-1; the TLV appendix of the Matter Core Specification, on containers and
-- their end. As `container_next` of read.rs has it, by counting the containers that are open, to any depth. A container that the bytes end
-- within is broken: the end of the bytes closes nothing that is passed over. (`Members` has the one level where it does.)
-- Every element has a byte at least, so one more than there are bytes is enough of them.
use Rattle.std.specs.Prelude.{ℕ, zero, suc, ◌+◌, ◌-◌, cond, List, eqb, length, Option, Some, None}
use Rattle.tlv.specs.Types.{end_type}
use Rattle.tlv.specs.Elements.{opens, element_at}

-- goes on with what was read, or without
abbrev pub reading : {A B : Type 0} → Option A → B → (A → B) → B
reading (Some x) none go = go x
reading None none go = none

-- ---- by the containers that are open

-- how many containers are open behind the head of an element
unfoldable pub nested : ℕ → ℕ → ℕ
nested kind level = cond (opens kind) (level + 1) (cond (eqb kind end_type) (level - 1) level)

-- the position behind the element and all that follow up to where no container is open
unfoldable pub passed : ℕ → List ℕ → ℕ → ℕ → Option ℕ
passed zero bytes level at = None
passed (suc n) bytes level at =
    reading (element_at bytes at) None λ h.
    cond (eqb (nested h.kind level) 0) (Some h.next) (passed n bytes (nested h.kind level) h.next)

abbrev pub passed_from : List ℕ → ℕ → ℕ → Option ℕ
passed_from bytes level at = passed (suc (length bytes)) bytes level at

-- the position behind an element
abbrev pub passed_at : List ℕ → ℕ → Option ℕ
passed_at bytes at = passed_from bytes 0 at
