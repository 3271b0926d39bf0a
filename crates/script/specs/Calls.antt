-- Which call of the table a line asks for, with the memberships or without them. Letters are in ASCII codes.
use Rattle.std.specs.Prelude.{ℕ, cond, List, [], ◌∷◌}
use Rattle.state.specs.Table.{Table}
use Rattle.groups.specs.Groups.{Groups}
use Rattle.script_lines.specs.Lines.{one_of}
use Rattle.script_answers.specs.Done.{Called, called_of}
use Rattle.script_commands.specs.Commands.{command}
use Rattle.script_reads.specs.Reads.{query}
use Rattle.script_images.specs.Images.{image}
use Rattle.script_events.specs.Events.{event}
use Rattle.script_events.specs.Writes.{host_write}
use Rattle.script_groups.specs.Calls.{needs_groups, GroupCalled, group_called, group_call}

-- A B S R X C are commands, V L M I reads, K e r raw writes, P G images, and any other an event
unfoldable pub call : ℕ → List ℕ → (ℕ → List ℕ) → List ℕ → Table → Called
call letter values bytes buffer t =
    cond (one_of letter (65 ∷ 66 ∷ 83 ∷ 82 ∷ 88 ∷ 67 ∷ [])) (called_of (command letter values bytes t) buffer)
    (cond (one_of letter (86 ∷ 76 ∷ 77 ∷ 73 ∷ [])) (query letter values buffer t)
    (cond (one_of letter (75 ∷ 101 ∷ 114 ∷ [])) (called_of (host_write letter values bytes t) buffer)
    (cond (one_of letter (80 ∷ 71 ∷ [])) (image letter values bytes buffer t)
    (called_of (event letter values t) buffer))))

-- with the memberships where a line needs them; else they stay as they were
unfoldable pub any_call : ℕ → List ℕ → (ℕ → List ℕ) → List ℕ → Groups → Table → GroupCalled
any_call letter values bytes buffer g t =
    cond (needs_groups letter values) (group_call letter values bytes buffer g t) (group_called (call letter values bytes buffer t) g)
