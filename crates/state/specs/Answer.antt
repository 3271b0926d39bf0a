-- What every call answers before the table decides: fault 6 first, then what the request alone decides. Document 01, "Who causes
-- which refusal".
use Rattle.std.specs.Prelude.{ℕ, Bool, false, cond, ◌==◌}
use Rattle.words.specs.Constants.{success, unsound}
use Rattle.state.specs.Sound.{sound}
use Rattle.state.specs.Table.{Table}

-- a command's status or fault, its save mark, and the table that it leaves
pub record Result : Type 0 where
  pub status : ℕ
  pub save : Bool
  pub table : Table

abbrev pub result_of : ℕ → Bool → Table → Result
result_of n s t = record { status = n; save = s; table = t }

-- a refusal has no save mark and changes nothing
abbrev pub refused : Table → ℕ → Result
refused t n = result_of n false t

-- 6 comes before the refusal that the request alone decides
unfoldable pub refusal_of : Table → ℕ → ℕ
refusal_of t gate = cond (sound t) gate unsound

-- a call that is refused by n, or not, with what it answers then
unfoldable pub guarded : {A : Type 0} → (ℕ → A) → ℕ → A → A
guarded refuse n o = cond (n == success) o (refuse n)
