-- A table that stays sound from call to call: demand 1, and document 01, "Who causes which refusal", fault 6. A host whose memory nobody else
-- can write need not have the table tested: it makes the calls on a table that is known to be sound, on the condition that `sound t ≡ true`.
use Rattle.std.specs.Prelude.{ℕ, ◌*◌, ◌^◌, ◌≤◌, ◌<◌, ◌≡◌, true, List, [], ◌∷◌, length}
use Rattle.words.specs.Constants.{max_scenes, stride}
use Rattle.words.specs.declared.SceneKey.{SceneKey}
use Rattle.requests.specs.declared.Membership.{Membership}
use Rattle.commands.specs.declared.Applied.{Applied}
use Rattle.reads.specs.Reads.{Transition}
use Rattle.state.specs.Table.{Table, table_of, new_state_with}
use Rattle.state.specs.Sound.{sound}
use Rattle.commands.specs.Commands.{recall_scene}
use Rattle.reads.specs.Reads.{recall_lookup}
use Rattle.image_save.specs.Saving.{save_image}
use Rattle.observation.specs.Calls.{Call, next, with_state, InRange}

-- ---- the calls, as a host makes them

-- a command, a read, an event or a load, with a recall as one call; and what is no `Call`: a recall's two calls, each by itself, a save, and
-- a read of the field bytes at a position
pub data HostCall : Type 0 where
  made : Call → HostCall
  recall_looked_up : SceneKey → Membership → Transition → HostCall
  recall_ended : SceneKey → Membership → Applied → HostCall
  image_saved : (buffer : List ℕ) → HostCall
  fields_read : (at : ℕ) → HostCall

-- the table afterwards: the head that was handed back, and the memory as it was left. A read of field bytes hands back no head
abbrev pub leaves : HostCall → Table → Table
leaves (made c) t = next c t
leaves (recall_looked_up key m o) t = with_state (recall_lookup key m o t).state t
leaves (recall_ended key m a) t = (recall_scene key m a t).table
leaves (image_saved buffer) t = with_state (save_image buffer t).answer.state t
leaves (fields_read at) t = t

-- inputs of their widths. Of a call that changes nothing, whatever its inputs, nothing is asked
abbrev pub HostInRange : HostCall → Type 0
HostInRange (made c) = InRange c
HostInRange (recall_looked_up key m o) = Unit {0}
HostInRange (recall_ended key m a) = (key.fabric < 2 ^ 8) × (key.endpoint < 2 ^ 16) × (key.group < 2 ^ 16) × (key.scene < 2 ^ 8)
HostInRange (image_saved buffer) = Unit {0}
HostInRange (fields_read at) = Unit {0}

abbrev pub AllInRange : List HostCall → Type 0
AllInRange [] = Unit {0}
AllInRange (c ∷ cs) = HostInRange c × AllInRange cs

-- ---- the condition holds before every call

-- the table is sound before every call of a list, each made on what the one before it left, and after the last
pub data SoundThroughout : List HostCall → Table → Type 0 where
  at_end : {t : Table} → sound t ≡ true → SoundThroughout [] t
  before : {c : HostCall} {cs : List HostCall} {t : Table} → sound t ≡ true → SoundThroughout cs (leaves c t) → SoundThroughout (c ∷ cs) t

-- from a sound start the condition of a call on a sound table holds before every call of any list, loads among them and whatever is
-- answered, and after the last. So a host that tests its table once, or begins with a new one, has met this condition for all its calls
abbrev pub StaysSound : Type 0
StaysSound = (cs : List HostCall) (t : Table) → AllInRange cs → sound t ≡ true → SoundThroughout cs t

-- a sound start: a new head of at most 1,024 places over memory that is long enough, whatever it holds and whatever the modes
abbrev pub NewSound : Type 0
NewSound =
    (size modes : ℕ) (keys times fields records : List ℕ) → size ≤ max_scenes → size ≤ length keys → size ≤ length times
    → size * stride ≤ length fields → size ≤ length records → sound (table_of (new_state_with size modes) keys times fields records) ≡ true

-- the start has to be sound: from any table the claim is false
abbrev pub NotFromAny : Type 0
NotFromAny = ((cs : List HostCall) (t : Table) → AllInRange cs → SoundThroughout cs t) → ⊥
