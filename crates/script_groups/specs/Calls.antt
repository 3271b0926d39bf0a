-- Which call a line makes that needs the memberships. Letters are in ASCII codes.
use Rattle.std.specs.Prelude.{ℕ, Bool, true, cond, List, [], ◌∷◌}
use Rattle.state.specs.Table.{Table}
use Rattle.groups.specs.Groups.{Groups}
use Rattle.script_lines.specs.Lines.{one_of}
use Rattle.script_lines.specs.Values.{asking}
use Rattle.script_answers.specs.Done.{Called, called_of}
use Rattle.script_asking.specs.Asked.{asked_command, asked_query}
use Rattle.script_groups.specs.Memberships.{GroupDone, group_event}

-- J Q H m F Z, and any other that asks for its membership
unfoldable pub needs_groups : ℕ → List ℕ → Bool
needs_groups letter values = cond (one_of letter (74 ∷ 81 ∷ 72 ∷ 109 ∷ 70 ∷ 90 ∷ [])) true (asking letter values)

-- an answer, the table, the buffer of lists and the memberships
pub record GroupCalled : Type 0 where
  pub called : Called
  pub groups : Groups

abbrev pub group_called : Called → Groups → GroupCalled
group_called c g = record { called = c; groups = g }

abbrev pub group_called_of : GroupDone → List ℕ → GroupCalled
group_called_of d buffer = group_called (called_of d.done buffer) d.groups

-- A B S R X C are commands that ask, V L M reads that ask, which leave the memberships as they were; any other is one of J Q H m F Z
unfoldable pub group_call : ℕ → List ℕ → (ℕ → List ℕ) → List ℕ → Groups → Table → GroupCalled
group_call letter values bytes buffer g t =
    cond (one_of letter (65 ∷ 66 ∷ 83 ∷ 82 ∷ 88 ∷ 67 ∷ [])) (group_called (called_of (asked_command letter values bytes g t) buffer) g)
    (cond (one_of letter (86 ∷ 76 ∷ 77 ∷ [])) (group_called (asked_query letter values buffer g t) g)
    (group_called_of (group_event letter values g t) buffer))
