-- Document 01, "Boxes on paper": the rows marked P, as one table, with the capacity row for N 1,024 of document 02, Q-4, and a row of what a
-- store counts, by Q-6. Fabric 1, endpoint 1, group 0, N 16 and membership yes unless said.
use Rattle.std.specs.Prelude.{ℕ, ◌≡◌, cond, List, [], ◌∷◌, ◌++◌, eqb, replicate}
use Rattle.words.specs.Constants.{success, constraint_error, insufficient_space, not_found, global_scene, reserved_scene}
use Rattle.words.specs.Words.{key_of}
use Rattle.words.specs.declared.SceneKey.{SceneKey}
use Rattle.slots.specs.Slots.{SceneEntry}
use Rattle.requests.specs.declared.Membership.{Membership}
use Rattle.requests.specs.declared.Membership.TheVariants.{Yes}
use Rattle.requests.specs.declared.CopyRequest.{CopyRequest}
use Rattle.requests.specs.Requests.{copy_gate}
use Rattle.commands.specs.declared.Applied.{Applied}
use Rattle.reads.specs.Reads.{Transition}
use Rattle.state.specs.Table.{Table, new_state, empty_table, entries_in, with_entry_count}
use Rattle.state.specs.Capacity.{remaining}
use Rattle.state.specs.Answer.{Result}
use Rattle.commands.specs.Commands.{add_scene, store_scene, remove_scene, recall_scene}
use Rattle.commands.specs.Counted.{Counted, store_counted}
use Rattle.copies.specs.Copy.{copy_scene}
use Rattle.reads.specs.Reads.{view_scene, recall_lookup}

-- a row: what the definitions compute is what the paper says, in every case that the row speaks of
pub record Row : Type 1 where
  pub Case : Type 0
  pub computed : Case → List ℕ
  pub written : Case → List ℕ

abbrev pub Holds : Row → Type 0
Holds r = (c : r.Case) → r.computed c ≡ r.written c

-- a row of one case
abbrev pub only : List ℕ → List ℕ → Row
only computed written = record { Case = Unit {0}; computed = λ _. computed; written = λ _. written }

-- ---- tables and calls

abbrev pub scene_in : ℕ → ℕ → SceneKey
scene_in g s = record { fabric = 1; endpoint = 1; group = g; scene = s }

abbrev pub added : ℕ → ℕ → ℕ → Table → Result
added g s time t = add_scene (scene_in g s) time Yes [] [] t

abbrev pub copy_of : ℕ → ℕ → ℕ → ℕ → ℕ → CopyRequest
copy_of mode g s h r =
    record { fabric = 1; endpoint = 1; mode = mode; from = record { group = g; scene = s }; to = record { group = h; scene = r } }

-- a scene of fabric 1 on endpoint 1, as it stands in a table: its key word, then its time
abbrev pub standing : ℕ → ℕ → ℕ → List ℕ
standing g s time = key_of 1 1 g s ∷ time ∷ []

-- the key word and the time of each entry, in order
abbrev pub keys_and_times : List SceneEntry → List ℕ
keys_and_times [] = []
keys_and_times (x ∷ xs) = x.key ∷ x.time ∷ keys_and_times xs

abbrev pub listed : Table → List ℕ
listed t = keys_and_times (entries_in t)

-- a status, and the entries that the table then has
abbrev pub outcome : Result → List ℕ
outcome r = r.status ∷ listed r.table

-- ---- the rows

-- capacity: a table of n places whose entries, as many as are used, are all the fabric's
abbrev pub capacity : ℕ → ℕ → ℕ → Row
capacity n used left = only (remaining (with_entry_count used (new_state n)) (replicate n (key_of 1 1 0 1)) 1 ∷ []) (left ∷ [])

-- time 60,000,000 is added; 60,000,001 gives 0x87
abbrev pub longest : Row
longest = only (outcome (added 0 5 60000000 (empty_table 16))) (0 ∷ standing 0 5 60000000)

abbrev pub too_long : Row
too_long = only (outcome (added 0 5 60000001 (empty_table 16))) (0x87 ∷ [])

-- the commands that name a scene; a copy names two
pub data Naming : Type 0 where
  byAdd byView byRemove byStore : Naming
  by_recall : Applied → Naming
  by_lookup : Transition → Naming
  bySource byTarget : ℕ → Naming

-- the status of such a command with scene s in group g, on an empty table
abbrev pub named : Naming → ℕ → ℕ → Membership → ℕ
named byAdd g s m = (add_scene (scene_in g s) 0 m [] [] (empty_table 16)).status
named byView g s m = (view_scene (scene_in g s) m (empty_table 16)).status
named byRemove g s m = (remove_scene (scene_in g s) m (empty_table 16)).status
named byStore g s m = (store_scene (scene_in g s) m [] (empty_table 16)).status
named (by_recall a) g s m = (recall_scene (scene_in g s) m a (empty_table 16)).status
named (by_lookup o) g s m = (recall_lookup (scene_in g s) m o (empty_table 16)).status
named (bySource r) g s m = (copy_scene (copy_of 0 g s g r) m m (empty_table 16)).status
named (byTarget r) g s m = (copy_scene (copy_of 0 g r g s) m m (empty_table 16)).status

-- scenes 1 and 254 pass: what an empty table answers then
abbrev pub passes : Naming → ℕ
passes byAdd = success
passes byView = not_found
passes byRemove = not_found
passes byStore = success
passes (by_recall a) = not_found
passes (by_lookup o) = not_found
passes (bySource r) = not_found
passes (byTarget r) = not_found

-- the other scene of a copy is 9
abbrev pub plain : Naming → Naming
plain byAdd = byAdd
plain byView = byView
plain byRemove = byRemove
plain byStore = byStore
plain (by_recall a) = by_recall a
plain (by_lookup o) = by_lookup o
plain (bySource r) = bySource 9
plain (byTarget r) = byTarget 9

abbrev pub passing : ℕ → Row
passing s = record { Case = Naming; computed = λ n. named (plain n) 0 s Yes ∷ []; written = λ n. passes n ∷ [] }

-- 0 and 255 give 0x87, before membership: whatever the group and its membership, and the other scene of a copy
pub record Asked : Type 0 where
  pub naming : Naming
  pub group : ℕ
  pub member : Membership

abbrev pub reserved : ℕ → Row
reserved s = record { Case = Asked; computed = λ c. named c.naming c.group s c.member ∷ []; written = λ c. constraint_error ∷ [] }

-- N 3, one entry: every copy from it that passes 0x87 gives 0x89; add still works
abbrev pub one_of_three : Table
one_of_three = (added 0 5 0 (empty_table 3)).table

pub record Copying : Type 0 where
  pub mode : ℕ
  pub group : ℕ
  pub scene : ℕ
  pub to_group : ℕ
  pub to_scene : ℕ

abbrev pub request : Copying → CopyRequest
request c = copy_of c.mode c.group c.scene c.to_group c.to_scene

abbrev pub no_copy : Row
no_copy = record {
  Case = Copying;
  computed = λ c. (copy_scene (request c) Yes Yes one_of_three).status ∷ [];
  written = λ c. cond (eqb (copy_gate (request c) Yes Yes) constraint_error) constraint_error insufficient_space ∷ [];
}

abbrev pub add_works : Row
add_works = only (outcome (added 0 6 0 one_of_three)) (0 ∷ standing 0 5 0 ++ standing 0 6 0)

-- N 7, scenes 1 and 2 in group 1, copied whole to group 2: one copy kept, 0x89, three entries
abbrev pub seven_copied : Result
seven_copied = copy_scene (copy_of 1 1 0 2 0) Yes Yes (added 1 2 200 (added 1 1 100 (empty_table 7)).table).table

abbrev pub midway : Row
midway = only (seven_copied.table.state.entries ∷ outcome seven_copied) (3 ∷ 0x89 ∷ standing 1 1 100 ++ standing 1 2 200 ++ standing 2 1 100)

-- keys a, b, c; remove a; c, b remain in that order
abbrev pub abc : Table
abc = (added 0 3 300 (added 0 2 200 (added 0 1 100 (empty_table 16)).table).table).table

abbrev pub removed : Row
removed = only (outcome (remove_scene (scene_in 0 1) Yes abc)) (0 ∷ standing 0 3 300 ++ standing 0 2 200)

-- store the same scene twice from empty: version 1, then 3
abbrev pub stored : Table → Table
stored t = (store_scene (scene_in 0 5) Yes [] t).table

abbrev pub versions : Row
versions = only ((stored (empty_table 16)).state.dataver ∷ (stored (stored (empty_table 16))).state.dataver ∷ []) (1 ∷ 3 ∷ [])

-- N 1, stores of scene 5, scene 5 and scene 6: 0 and 0 compared, 0 and 1, 0x89 and 0. So 0 is no sign of a refusal
abbrev pub counting : ℕ → Table → Counted
counting s t = store_counted (scene_in 0 s) Yes [] t

abbrev pub status_and_count : Counted → List ℕ
status_and_count c = c.result.status ∷ c.compared ∷ []

abbrev pub counts : Row
counts =
    let one : Table = (counting 5 (empty_table 1)).result.table in
    only (status_and_count (counting 5 (empty_table 1)) ++ status_and_count (counting 5 one) ++ status_and_count (counting 6 one))
    (0 ∷ 0 ∷ 0 ∷ 1 ∷ 0x89 ∷ 0 ∷ [])

-- ---- the table

abbrev pub rows : List Row
rows =
    capacity 0 0 0
    ∷ capacity 1 0 0
    ∷ capacity 2 0 0
    ∷ capacity 3 0 1
    ∷ capacity 16 6 1
    ∷ capacity 16 7 0
    ∷ capacity 1024 0 253
    ∷ longest
    ∷ too_long
    ∷ passing 1
    ∷ passing 254
    ∷ reserved global_scene
    ∷ reserved reserved_scene
    ∷ no_copy
    ∷ add_works
    ∷ midway
    ∷ removed
    ∷ versions
    ∷ counts
    ∷ []

-- every row of a table holds
abbrev pub EveryRow : List Row → Type 0
EveryRow [] = Unit {0}
EveryRow (r ∷ rs) = Holds r × EveryRow rs
