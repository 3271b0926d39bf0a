-- What the letters A, B, S, R, X, C, V, L and M ask where `?` stands for their membership, and what is answered. The words of a line are
-- numbers, `values`, and some spell bytes. Letters are in ASCII codes.
use Rattle.std.specs.Prelude.{ℕ, cond, List, eqb}
use Rattle.state.specs.Table.{Table}
use Rattle.groups.specs.Groups.{Groups}
use Rattle.asking.specs.Asking.{add_asking, add_read_asking, store_asking, remove_asking, remove_all_asking, copy_asking, recall_asking, lookup_asking, view_asking, membership_asking}
use Rattle.script_lines.specs.Values.{long, value_at, scene_key, group_key}
use Rattle.script_answers.specs.Done.{Done, plain, Called, called_of, in_front}
use Rattle.script_commands.specs.Commands.{copy_request, store_done}
use Rattle.script_reads.specs.Reads.{applied, transition, viewed, recalled, listed}

-- A, with the pairs and the fields
unfoldable pub add_asked : List ℕ → List ℕ → List ℕ → Groups → Table → Done
add_asked values pairs ext g t = plain (add_asking (scene_key values) (long (value_at values 4)) pairs ext g t)

-- B: the same through the reader of field bytes
unfoldable pub add_read_asked : List ℕ → List ℕ → List ℕ → Groups → Table → Done
add_read_asked values pairs ext g t = plain (add_read_asking (scene_key values) (long (value_at values 4)) pairs ext g t)

-- S, with the captured bytes
unfoldable pub store_asked : List ℕ → List ℕ → Groups → Table → Done
store_asked values captured g t = store_done (store_asking (scene_key values) captured g t)

-- R
unfoldable pub remove_asked : List ℕ → Groups → Table → Done
remove_asked values g t = plain (remove_asking (scene_key values) g t)

-- X
unfoldable pub remove_all_asked : List ℕ → Groups → Table → Done
remove_all_asked values g t = plain (remove_all_asking (group_key values) g t)

-- C
unfoldable pub copy_asked : List ℕ → Groups → Table → Done
copy_asked values g t = plain (copy_asking (copy_request values) g t)

-- the commands by letter, C for any other; the bytes of a word by its position
unfoldable pub asked_command : ℕ → List ℕ → (ℕ → List ℕ) → Groups → Table → Done
asked_command letter values bytes g t =
    cond (eqb letter 65) (add_asked values (bytes 6) (bytes 7) g t)
    (cond (eqb letter 66) (add_read_asked values (bytes 6) (bytes 7) g t)
    (cond (eqb letter 83) (store_asked values (bytes 5) g t)
    (cond (eqb letter 82) (remove_asked values g t)
    (cond (eqb letter 88) (remove_all_asked values g t)
    (copy_asked values g t)))))

-- V
unfoldable pub view_asked : List ℕ → Groups → Table → Done
view_asked values g t = viewed (view_asking (scene_key values) g t) t

-- L: the lookup's scene with the recall's end
unfoldable pub recall_asked : List ℕ → Groups → Table → Done
recall_asked values g t =
    recalled (lookup_asking (scene_key values) (transition (value_at values 5)) g t)
    (recall_asking (scene_key values) (applied (value_at values 6)) g t)

unfoldable pub list_asked : List ℕ → List ℕ → Groups → Table → Called
list_asked values buffer g t = listed (membership_asking (group_key values) buffer g t) t

-- M: the front of the buffer that the line asks for, or all of it; the rest stays
unfoldable pub list_in_asked : List ℕ → List ℕ → Groups → Table → Called
list_in_asked values buffer g t = in_front (value_at values 4) (λ b. list_asked values b g t) buffer

-- the reads by letter, M for any other
unfoldable pub asked_query : ℕ → List ℕ → List ℕ → Groups → Table → Called
asked_query letter values buffer g t =
    cond (eqb letter 86) (called_of (view_asked values g t) buffer)
    (cond (eqb letter 76) (called_of (recall_asked values g t) buffer)
    (list_in_asked values buffer g t))
