-- What a call answers: an answer with the table that it leaves, and with the buffer of lists and images.
use Rattle.std.specs.Prelude.{ℕ, Bool, false, List, ◌++◌, take, drop}
use Rattle.state.specs.Table.{Table}
use Rattle.state.specs.Answer.{Result}
use Rattle.script_answers.specs.declared.Tail.{Tail}
use Rattle.script_answers.specs.declared.Tail.TheVariants.{Nothing}
use Rattle.script_answers.specs.declared.Answer.{Answer}

-- an answer with the table that it leaves
pub record Done : Type 0 where
  pub status : ℕ
  pub save : Bool
  pub tail : Tail
  pub table : Table

abbrev pub done_of : Answer → Table → Done
done_of a t = record { status = a.status; save = a.save; tail = a.tail; table = t }

abbrev pub answer_of : Done → Answer
answer_of d = record { status = d.status; save = d.save; state = d.table.state; tail = d.tail }

-- a command's answer has no tail
abbrev pub plain : Result → Done
plain r = record { status = r.status; save = r.save; tail = Nothing; table = r.table }

-- a read leaves the table as it was, and nothing to save
abbrev pub read_of : ℕ → Tail → Table → Done
read_of status tail t = record { status = status; save = false; tail = tail; table = t }

-- an answer with the list and image buffer that it leaves
pub record Called : Type 0 where
  pub done : Done
  pub buffer : List ℕ

abbrev pub called_of : Done → List ℕ → Called
called_of d buffer = record { done = d; buffer = buffer }

-- a call that is lent the front of the buffer, up to a length, or all of it; the rest stays
abbrev pub in_front : ℕ → (List ℕ → Called) → List ℕ → Called
in_front n f buffer = let c : Called = f (take n buffer) in called_of c.done (c.buffer ++ drop n buffer)
