-- What a store tells the host beside its answer: how many key words it held against the wanted one. Document 02, Q-6. It is no part of a
-- member's answer, which is `store_scene`'s.
use Rattle.std.specs.Prelude.{ℕ, ◌+◌, ◌≤◌, ◌≡◌, cond, List, eqb, Option, Some, None}
use Rattle.words.specs.Constants.{success}
use Rattle.words.specs.declared.SceneKey.{SceneKey}
use Rattle.requests.specs.declared.Membership.{Membership}
use Rattle.state.specs.Table.{Table}
use Rattle.state.specs.Change.{find_scene}
use Rattle.state.specs.Answer.{Result}
use Rattle.commands.specs.Commands.{store_scene}

-- what was held against the wanted key word, of n: up to the first match, or all
abbrev pub keys_compared : Option ℕ → ℕ → ℕ
keys_compared (Some p) n = p + 1
keys_compared None n = n

-- a store's answer, with the count
pub record Counted : Type 0 where
  pub result : Result
  pub compared : ℕ

abbrev pub counted_of : Result → ℕ → Counted
counted_of r n = record { result = r; compared = n }

-- the count of what a store into t answers: 0 at any refusal
unfoldable pub counted : SceneKey → Table → Result → Counted
counted key t r = counted_of r (cond (eqb r.status success) (keys_compared (find_scene key t) t.state.entries) 0)

-- the definition of a store with what the host is told
unfoldable pub store_counted : SceneKey → Membership → List ℕ → Table → Counted
store_counted key member captured t = counted key t (store_scene key member captured t)

-- the theorem of Q-6. `same`: each other answer and each byte is what it was, the status, the save mark, the head and all lent memory
pub record StoreCounts : Type 0 where
  pub same : (key : SceneKey) (m : Membership) (captured : List ℕ) (t : Table) → (store_counted key m captured t).result ≡ store_scene key m captured t
  pub refused : (key : SceneKey) (m : Membership) (captured : List ℕ) (t : Table) → ((store_scene key m captured t).status ≡ success → ⊥)
      → (store_counted key m captured t).compared ≡ 0
  pub known : (key : SceneKey) (m : Membership) (captured : List ℕ) (t : Table) (p : ℕ) → (store_scene key m captured t).status ≡ success
      → find_scene key t ≡ Some p → (store_counted key m captured t).compared ≡ p + 1
  pub new : (key : SceneKey) (m : Membership) (captured : List ℕ) (t : Table) → (store_scene key m captured t).status ≡ success
      → find_scene key t ≡ None → (store_counted key m captured t).compared ≡ t.state.entries
  -- no key word is counted twice
  pub once : (key : SceneKey) (m : Membership) (captured : List ℕ) (t : Table) → (store_counted key m captured t).compared ≤ t.state.entries
