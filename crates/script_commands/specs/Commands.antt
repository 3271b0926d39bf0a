-- What the letters A, B, S, R, X and C ask of the table, and what it answers. The words of a line are numbers, `values`, and some spell
-- bytes. Letters are in ASCII codes.
use Rattle.std.specs.Prelude.{ℕ, cond, List, eqb}
use Rattle.requests.specs.declared.CopyRequest.{CopyRequest}
use Rattle.requests.specs.Requests.{membership_of}
use Rattle.state.specs.Table.{Table}
use Rattle.commands.specs.Commands.{add_scene, remove_scene, remove_all_scenes}
use Rattle.commands.specs.Counted.{Counted, store_counted}
use Rattle.copies.specs.Copy.{copy_scene}
use Rattle.add_read.specs.Adding.{add_scene_read}
use Rattle.script_lines.specs.Values.{byte, short, long, value_at, scene_key, group_key}
use Rattle.script_answers.specs.declared.Tail.TheVariants.{Number}
use Rattle.script_answers.specs.Done.{Done, plain}

abbrev pub copy_request : List ℕ → CopyRequest
copy_request values = record {
  fabric = byte (value_at values 0);
  endpoint = short (value_at values 1);
  mode = byte (value_at values 2);
  from = record { group = short (value_at values 3); scene = byte (value_at values 4) };
  to = record { group = short (value_at values 5); scene = byte (value_at values 6) };
}

-- A, with the pairs and the fields
unfoldable pub add : List ℕ → List ℕ → List ℕ → Table → Done
add values pairs ext t = plain (add_scene (scene_key values) (long (value_at values 4)) (membership_of (byte (value_at values 5))) pairs ext t)

-- B: the same through the reader of field bytes
unfoldable pub add_read : List ℕ → List ℕ → List ℕ → Table → Done
add_read values pairs ext t =
    plain (add_scene_read (scene_key values) (long (value_at values 4)) (membership_of (byte (value_at values 5))) pairs ext t)

-- a store's answer ends with its count
abbrev pub store_done : Counted → Done
store_done c = record { status = c.result.status; save = c.result.save; tail = Number c.compared; table = c.result.table }

-- S, with the captured bytes
unfoldable pub store : List ℕ → List ℕ → Table → Done
store values captured t = store_done (store_counted (scene_key values) (membership_of (byte (value_at values 4))) captured t)

-- R
unfoldable pub remove : List ℕ → Table → Done
remove values t = plain (remove_scene (scene_key values) (membership_of (byte (value_at values 4))) t)

-- X
unfoldable pub remove_all : List ℕ → Table → Done
remove_all values t = plain (remove_all_scenes (group_key values) (membership_of (byte (value_at values 3))) t)

-- C
unfoldable pub copy : List ℕ → Table → Done
copy values t = plain (copy_scene (copy_request values) (membership_of (byte (value_at values 7))) (membership_of (byte (value_at values 8))) t)

-- by letter, C for any other; the bytes of a word by its position
unfoldable pub command : ℕ → List ℕ → (ℕ → List ℕ) → Table → Done
command letter values bytes t =
    cond (eqb letter 65) (add values (bytes 6) (bytes 7) t)
    (cond (eqb letter 66) (add_read values (bytes 6) (bytes 7) t)
    (cond (eqb letter 83) (store values (bytes 5) t)
    (cond (eqb letter 82) (remove values t)
    (cond (eqb letter 88) (remove_all values t)
    (copy values t)))))
