-- What upserting, removing and retaining make of a table: document 01, "Upsert", and of "Commands" what remove and remove all do
-- to the entries.
use Rattle.std.specs.Prelude.{◌≡◌, ℕ, ◌+◌, ◌-◌, false, cond, List, length, ◌==◌, nat_lt, Option, Some, None}
use Rattle.words.specs.Constants.{success, insufficient_space}
use Rattle.words.specs.Words.{word_of}
use Rattle.words.specs.declared.KeyRange.{KeyRange}
use Rattle.words.specs.declared.SceneKey.{SceneKey}
use Rattle.slots.specs.Slots.{first_key, put_slot, copy_slot, outside, gathered}
use Rattle.records.specs.declared.Scope.TheVariants.{Scene}
use Rattle.state.specs.Table.{Table, Entries, with_entries, with_current, with_entry_count}
use Rattle.state.specs.Capacity.{share_mode, may_append}
use Rattle.state.specs.Current.{invalidate_current}
use Rattle.state.specs.Answer.{Result, result_of}

-- where a scene stands: the first match
abbrev pub find_scene : SceneKey → Table → Option ℕ
find_scene key t = first_key t.slots.keys t.state.entries (word_of key)

-- ---- upsert

-- new time and fields at a position
unfoldable pub put_at : ℕ → SceneKey → ℕ → List ℕ → Entries → Entries
put_at p key time ext e = record { state = e.state; slots = put_slot p (word_of key) time ext e.slots }

-- a new entry behind the last one
unfoldable pub append : SceneKey → ℕ → List ℕ → Entries → Entries
append key time ext e = record { state = with_entry_count (e.state.entries + 1) e.state; slots = put_slot e.state.entries (word_of key) time ext e.slots }

pub record Upserted : Type 0 where
  pub status : ℕ
  pub table : Table

abbrev pub upserted_of : ℕ → Table → Upserted
upserted_of s t = record { status = s; table = t }

-- a written scene's valid records become invalid
abbrev pub written : SceneKey → Table → Upserted
written key t = upserted_of success (with_current (invalidate_current (Scene key)) t)

-- a known key gets new time and fields, whether or not there is a place; otherwise 0x89 where one more does not fit, else an append
unfoldable pub upsert_at : Option ℕ → SceneKey → ℕ → List ℕ → Table → Upserted
upsert_at (Some p) key time ext t = written key (with_entries (put_at p key time ext) t)
upsert_at None key time ext t =
    cond (may_append t.state t.slots.keys key.fabric) (written key (with_entries (append key time ext) t)) (upserted_of insufficient_space t)

unfoldable pub upsert : SceneKey → ℕ → List ℕ → Table → Upserted
upsert key time ext t = upsert_at (find_scene key t) key time ext t

-- the upsert of document 01, by which 0x89 means a full table
abbrev pub plain_at : Option ℕ → SceneKey → ℕ → List ℕ → Table → Upserted
plain_at (Some p) key time ext t = written key (with_entries (put_at p key time ext) t)
plain_at None key time ext t =
    cond (nat_lt t.state.entries t.state.size) (written key (with_entries (append key time ext) t)) (upserted_of insufficient_space t)

-- the theorem of Q-5 about adds and stores: without the share mode an upsert is that one, and in it too where the key is known. No other
-- definition of a call looks at the modes
pub record UpsertByShare : Type 0 where
  pub without : (key : SceneKey) (time : ℕ) (ext : List ℕ) (t : Table) → share_mode t.state ≡ false
      → upsert key time ext t ≡ plain_at (find_scene key t) key time ext t
  pub known : (key : SceneKey) (time : ℕ) (ext : List ℕ) (t : Table) (p : ℕ) → find_scene key t ≡ Some p
      → upsert key time ext t ≡ plain_at (Some p) key time ext t

-- the save mark is set for status 0
abbrev pub saved : Upserted → Result
saved u = result_of u.status (u.status == success) u.table

-- ---- remove and retain

-- the last entry takes the freed position; what stood at its own stays there
unfoldable pub swap_remove : ℕ → Entries → Entries
swap_remove p e = record { state = with_entry_count (e.state.entries - 1) e.state; slots = copy_slot (e.state.entries - 1) p e.slots }

-- the entries outside a range move to the front, in order
unfoldable pub retain_outside : KeyRange → Entries → Entries
retain_outside r e =
    let kept : List ℕ = outside e.slots.keys e.state.entries r in
    record { state = with_entry_count (length kept) e.state; slots = gathered kept e.slots }
