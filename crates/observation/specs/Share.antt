-- The modes of a table and what the share mode promises: document 02, Q-5.
use Rattle.std.specs.Prelude.{ℕ, ◌-◌, ◌/◌, ◌<◌, ◌≤◌, ◌≡◌, Bool, true, false, not, ◌&&◌, eqb, ltb, length}
use Rattle.words.specs.Constants.{insufficient_space, max_fields}
use Rattle.state.specs.declared.ScenesState.{ScenesState}
use Rattle.state.specs.Table.{Table, entries_in}
use Rattle.state.specs.Sound.{sound}
use Rattle.state.specs.Capacity.{share_mode}
use Rattle.observation.specs.Lists.{count}
use Rattle.observation.specs.Calls.{Command, add, add_read, view, remove, remove_all, store, recall, copy, membership, info, Call, command, notice, removal, reset, start, failSafeEvent, load, Answer, next, InRange}
use Rattle.observation.specs.Equivalence.{Reached, empty, after, mine}
use Rattle.observation.specs.Calls as calls
use Rattle.observation.specs.Refusals as refusals

-- ---- the modes are fixed when the table is made

-- the head that a call hands back
abbrev pub head_of : refusals.Answered → ScenesState
head_of (refusals.result r) = r.table.state
head_of (refusals.scene r) = r.state
head_of (refusals.list l) = l.read.state
head_of (refusals.row r) = r.state
head_of (refusals.image s) = s.answer.state

-- no call changes them: of every table, sound or not, whatever the inputs and the answer
abbrev pub ModesStay : Type 0
ModesStay = (c : refusals.Outward) (t : Table) → (head_of (refusals.answer c t)).modes ≡ t.state.modes

-- nor in the runs of demand 3
abbrev pub ModesStayRun : Type 0
ModesStayRun = (c : Call) (t : Table) → (next c t).state.modes ≡ t.state.modes

-- ---- no fabric has more than its share

-- sat(N − 1) / 2. This minus stops at 0
abbrev pub share : Table → ℕ
share t = (t.state.size - 1) / 2

-- the fabric's scenes
abbrev pub scenes_used : ℕ → Table → ℕ
scenes_used f t = count (mine f) (entries_in t)

-- a call that brings scenes from elsewhere: a load
abbrev pub brings : Call → Bool
brings (command f e c) = false
brings (notice e) = false
brings (removal f) = false
brings reset = false
brings start = false
brings failSafeEvent = false
brings (load image) = true

-- no call since the empty table passes the test
abbrev pub NoneSince : (Call → Bool) → {t : Table} → Reached t → Type 0
NoneSince p (empty t s e r) = Unit {0}
NoneSince p (after c h r) = (p c ≡ false) × NoneSince p r

-- from an empty table in share mode, with no load since
abbrev pub WithinShare : Type 0
WithinShare = (t : Table) (r : Reached t) → NoneSince brings r → share_mode t.state ≡ true → (f : ℕ) → scenes_used f t ≤ share t

-- ---- below its share a fabric is refused a place in a full table alone

-- more field bytes than a scene has: an add of these is answered 0x89 by what it asks for, whatever the table
abbrev pub long_fields : Command → Bool
long_fields (add g s time m pairs ext) = ltb max_fields (length ext)
long_fields (add_read g s time m pairs ext) = ltb max_fields (length ext)
long_fields (view g s m) = false
long_fields (remove g s m) = false
long_fields (remove_all g m) = false
long_fields (store g s m captured) = false
long_fields (recall g s m o a) = false
long_fields (copy mode g s h r m n) = false
long_fields (membership g m buffer) = false
long_fields (info single) = false

-- refused for want of a place: 0x89, and not for long fields
abbrev pub wants_place : Command → Answer → Bool
wants_place c a = eqb a.status insufficient_space && not (long_fields c)

-- of every sound table, in either mode: whether the fabric is below its share, and the table full, is asked of what the refused call leaves. That
-- is the table itself but for a whole-group copy that ran out, which leaves the copies that it made
abbrev pub OnlyWhenFull : Type 0
OnlyWhenFull =
    (f e : ℕ) (c : Command) (t : Table) → InRange (command f e c) → sound t ≡ true → wants_place c (calls.answer (command f e c) t) ≡ true
    → scenes_used f (next (command f e c) t) < share (next (command f e c) t)
    → (next (command f e c) t).state.entries ≡ (next (command f e c) t).state.size
