-- What the laws of the calls say over a view: small functions of what was found, and of the views' changes. Assumes nothing: these are
-- abbreviations of the laws' right-hand sides.
use Prim.Native.Nat.{ℕ, min}
use mathlib.Core.Bool.{Bool, true, false, cond, not, ◌&&◌}
use mathlib.Core.List.{List, [], ◌∷◌, map}
use mathlib.Core.Option.{Option, none, some}
use Rattle.std.proofs.Common as std
use lib.Dec.{eqb}
use lib.ListN.{length}
use Rattle.words.specs.Constants.{success, insufficient_space, not_found, apply_failed, bad_image, clashing_image, max_fields, max_shown, max_remaining}
use Rattle.words.specs.Words.{word_of, group_of, scene_of, key_of_record, is_valid, endpoint_keys, group_keys}
use Rattle.words.specs.declared.SceneKey.{SceneKey}
use Rattle.slots.specs.Slots.{SceneEntry}
use Rattle.records.specs.declared.Scope.{Scope}
use Rattle.records.specs.declared.Scope.TheVariants.{Scene, Group}
use Rattle.requests.specs.Requests.{whole_group, add_gate, store_gate, lookup_gate, group_gate, copy_gate, info_gate}
use Rattle.commands.specs.declared.Applied.{Applied}
use Rattle.commands.specs.declared.Applied.TheVariants.{Yes, Failed}
use Rattle.reads.specs.Reads.{Transition}
use Rattle.state.specs.Table.{Table}
use Rattle.reads.specs.Reads.{effective_time}
use Rattle.image_reader.specs.Image.{Image, image_in}
use Rattle.image_gate.specs.Verdict.{clashes}
use Rattle.add_read.specs.Adding.{add_read_gate}
use Rattle.observation.specs.Lists.{bit, count, find, keep}
use Rattle.observation.specs.Calls.{Command, add, add_read, view, remove, remove_all, store, recall, copy, membership, info, Call, Answer, answer, next, scene_key, group_key, copy_request}
use Rattle.observation.specs.Equivalence.{key_is}
use Rattle.observation.proofs.Lists.{found}
use Rattle.observation.proofs.Lookups.{holds, entry_of}
use Rattle.observation.proofs.Changes.{View, view_of, room_in, current_in, place_for, stepped, written, invalidated, written_all}

-- what a call answers and what it leaves to be seen
abbrev pub Seen : Type 0
Seen = Answer × View

abbrev pub sees : Call → Table → Seen
sees c t = (answer c t, view_of (next c t))

abbrev pub refuse : ℕ → Answer
refuse n = record { status = n; save = false; values = []; ids = [] }

abbrev pub done : Bool → Answer
done b = record { status = success; save = b; values = []; ids = [] }

abbrev pub shown : List ℕ → Answer
shown l = record { status = success; save = false; values = l; ids = [] }

-- what the request of a command decides alone
abbrev pub gate_of : ℕ → ℕ → Command → ℕ
gate_of f e (add g s time m pairs ext) = add_gate (scene_key f e g s) time m pairs max_fields (length ext)
gate_of f e (add_read g s time m pairs ext) = add_read_gate (scene_key f e g s) time m pairs max_fields ext
gate_of f e (view g s m) = lookup_gate (scene_key f e g s) m
gate_of f e (remove g s m) = lookup_gate (scene_key f e g s) m
gate_of f e (remove_all g m) = group_gate (group_key f e g) m
gate_of f e (store g s m captured) = store_gate (scene_key f e g s) m max_fields (length captured)
gate_of f e (recall g s m o a) = lookup_gate (scene_key f e g s) m
gate_of f e (copy mode g s h r m n) = copy_gate (copy_request f e mode g s h r) m n
gate_of f e (membership g m buffer) = group_gate (group_key f e g) m
gate_of f e (info single) = info_gate f single

-- ---- lookups

abbrev pub time_of : Option SceneEntry → ℕ
time_of none = 0
time_of (some x) = x.time

abbrev pub viewed : Option SceneEntry → Answer
viewed none = refuse not_found
viewed (some x) = shown (x.time ∷ x.fields)

abbrev pub applied : Applied → Bool
applied Yes = true
applied Failed = false

abbrev pub recalled : Transition → Applied → Option SceneEntry → Answer
recalled o a none = refuse not_found
recalled o a (some x) = record { status = cond (applied a) success apply_failed; save = applied a; values = effective_time o x.time ∷ x.fields; ids = [] }

-- ---- adds, listed or through the reader

abbrev pub add_out : SceneKey → ℕ → List ℕ → View → Seen
add_out key time ext v =
    cond (place_for key.fabric (word_of key) v) (done true, invalidated (Scene key) (written (entry_of key time ext) v)) (refuse insufficient_space, v)

-- ---- copies

abbrev pub first : Option SceneEntry → List SceneEntry
first none = []
first (some x) = x ∷ []

-- the entries that a copy copies, in table order
abbrev pub sources : ℕ → ℕ → ℕ → ℕ → ℕ → View → List SceneEntry
sources f e mode g s v =
    cond (whole_group mode) (keep (holds (group_keys f e g)) v.entries) (first (find (key_is (word_of (scene_key f e g s))) v.entries))

-- where an entry is copied to
abbrev pub target : ℕ → ℕ → ℕ → ℕ → ℕ → SceneEntry → SceneEntry
target f e mode h r x = record { key = word_of (scene_key f e h (cond (whole_group mode) (scene_of x.key) r)); time = x.time; fields = x.fields }

abbrev pub scope_of : ℕ → ℕ → ℕ → ℕ → ℕ → Scope
scope_of f e mode h r = cond (whole_group mode) (Group (group_key f e h)) (Scene (scene_key f e h r))

abbrev pub copied : Scope → Bool × View → Seen
copied scope o = cond o.0 (done true, invalidated scope o.1) (refuse insufficient_space, o.1)

abbrev pub copy_out : ℕ → Scope → List SceneEntry → View → Seen
copy_out f scope [] v = (refuse not_found, v)
copy_out f scope (x ∷ xs) v = copied scope (written_all f (x ∷ xs) v)

-- ---- membership and info

abbrev pub ids_in : ℕ → ℕ → ℕ → View → List ℕ
ids_in f e g v = map (λ x. scene_of x.key) (keep (holds (group_keys f e g)) v.entries)

abbrev pub remaining_in : ℕ → View → ℕ
remaining_in f v = min (room_in f v) max_remaining

-- count, the record's group, scene and whether valid, or 0, 0 and no without one, remaining, fabric
abbrev pub row : ℕ → ℕ → ℕ → Option ℕ → List ℕ
row n left f none = min n max_shown ∷ 0 ∷ 0 ∷ 0 ∷ left ∷ f ∷ []
row n left f (some w) = min n max_shown ∷ group_of (key_of_record w) ∷ scene_of (key_of_record w) ∷ bit (is_valid w) ∷ left ∷ f ∷ []

abbrev pub info_out : ℕ → ℕ → View → Answer
info_out f e v =
    let n : ℕ = count (holds (endpoint_keys f e)) v.entries in
    cond (eqb n 0 && not (found (current_in f v))) (shown []) (shown (row n (remaining_in f v) f (current_in f v)))

-- ---- an image

-- by whether it clashes
abbrev pub loaded_by : Bool → Image → View → Seen
loaded_by true i v = (refuse clashing_image, v)
loaded_by false i v = (done false, record { size = v.size; modes = v.modes; dataver = stepped v.dataver; entries = i.entries; records = i.records })

-- what a load makes of what the bytes are read as, which is an Option of the code's kind, std's
abbrev pub decoded : std.Option Image → View → Seen
decoded std.None v = (refuse bad_image, v)
decoded (std.Some i) v = loaded_by (clashes i) i v

-- a startup without a saved table
abbrev pub started : View → Seen
started v = (done false, record { size = v.size; modes = v.modes; dataver = v.dataver; entries = []; records = [] })

-- no bytes are such a startup
abbrev pub loaded : List ℕ → View → Seen
loaded [] v = started v
loaded (b ∷ bs) v = decoded (image_in v.size (b ∷ bs)) v
