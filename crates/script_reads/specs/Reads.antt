-- What the letters V, L, M and I ask of the table, and what it answers, with the list buffer that is left. The words of a line are
-- numbers, `values`. Letters are in ASCII codes.
use Rattle.std.specs.Prelude.{ℕ, ◌^◌, cond, List, eqb}
use Rattle.words.specs.Constants.{success}
use Rattle.requests.specs.Requests.{membership_of}
use Rattle.commands.specs.declared.Applied.{Applied}
use Rattle.std.specs.Prelude.{None, Some}
use Rattle.reads.specs.declared.SceneRead.{SceneRead}
use Rattle.reads.specs.declared.ListRead.{ListRead}
use Rattle.reads.specs.declared.InfoRead.{InfoRead}
use Rattle.state.specs.Table.{Table}
use Rattle.state.specs.Answer.{Result}
use Rattle.commands.specs.Commands.{recall_scene}
use Rattle.reads.specs.Reads.{Transition, view_scene, recall_lookup, Listed, get_scene_membership, read_fabric_scene_info}
use Rattle.script_lines.specs.Values.{byte, short, long, value_at, scene_key, group_key}
use Rattle.script_answers.specs.declared.Tail.{Tail}
use Rattle.script_answers.specs.declared.Tail.TheVariants.{Nothing, Scene, Ids, NoRow, Info}
use Rattle.script_answers.specs.Done.{Done, read_of, Called, called_of, in_front}
use Rattle.commands.specs.declared.Applied.TheVariants as applying

abbrev pub applied : ℕ → Applied
applied value = cond (eqb value 0) applying.Failed applying.Yes

-- 2^32, which no time reaches, is no override
abbrev pub transition : ℕ → Transition
transition value = cond (eqb value (2 ^ 32)) None (Some (long value))

-- time, position and length of a scene that was found
abbrev pub scene_tail : SceneRead → Tail
scene_tail found = cond (eqb found.status success) (Scene found.time found.at found.len) Nothing

abbrev pub viewed : SceneRead → Table → Done
viewed found t = read_of found.status (scene_tail found) t

-- V
unfoldable pub view : List ℕ → Table → Done
view values t = viewed (view_scene (scene_key values) (membership_of (byte (value_at values 4))) t) t

-- the lookup's scene with the recall's end
abbrev pub recalled : SceneRead → Result → Done
recalled found r = record { status = r.status; save = r.save; tail = scene_tail found; table = r.table }

-- L
unfoldable pub recall : List ℕ → Table → Done
recall values t =
    recalled (recall_lookup (scene_key values) (membership_of (byte (value_at values 4))) (transition (value_at values 5)) t)
    (recall_scene (scene_key values) (membership_of (byte (value_at values 4))) (applied (value_at values 6)) t)

abbrev pub info_tail : InfoRead → Tail
info_tail info =
    cond (eqb info.status success)
    (cond info.present (Info (record {
      count = info.count;
      group = info.group;
      scene = info.scene;
      valid = info.valid;
      remaining = info.remaining;
      fabric = info.fabric;
    })) NoRow)
    Nothing

abbrev pub informed : InfoRead → Table → Done
informed info t = read_of info.status (info_tail info) t

-- I
unfoldable pub info : List ℕ → Table → Done
info values t = informed (read_fabric_scene_info (byte (value_at values 0)) (short (value_at values 1)) (eqb (value_at values 2) 1) t) t

-- the remaining capacity and the length of a list
abbrev pub list_tail : ListRead → Tail
list_tail read = cond (eqb read.status success) (Ids read.remaining read.len) Nothing

abbrev pub listed : Listed → Table → Called
listed l t = called_of (read_of l.read.status (list_tail l.read) t) l.ids

unfoldable pub list : List ℕ → List ℕ → Table → Called
list values buffer t = listed (get_scene_membership (group_key values) (membership_of (byte (value_at values 3))) buffer t) t

-- M: the front of the buffer that the line asks for, or all of it; the rest stays
unfoldable pub list_in : List ℕ → List ℕ → Table → Called
list_in values buffer t = in_front (value_at values 4) (λ b. list values b t) buffer

-- by letter, I for any other
unfoldable pub query : ℕ → List ℕ → List ℕ → Table → Called
query letter values buffer t =
    cond (eqb letter 86) (called_of (view values t) buffer)
    (cond (eqb letter 76) (called_of (recall values t) buffer)
    (cond (eqb letter 77) (list_in values buffer t)
    (called_of (info values t) buffer)))
