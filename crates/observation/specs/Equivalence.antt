-- Observational equivalence of two tables for a fabric, and the four matters that it comes down to: demand 3, and document 01, "In the
-- sight of a fabric", which calls equivalent tables "equal in the sight of" the fabric; places by document 02, Q-5.
use Rattle.std.specs.Prelude.{ℕ, ◌+◌, ◌<◌, ◌≤◌, ◌≡◌, ◌↔◌, Bool, true, false, cond, ◌&&◌, ◌||◌, eqb, ltb}
use mathlib.Core.List.{List, [], ◌∷◌, Permᴰ, Memᴰ}
use Rattle.std.proofs.Math.Option.{Option, none, map}
use Rattle.words.specs.Constants.{insufficient_space}
use Rattle.words.specs.Words.{fabric_of, endpoint_of, group_of, scene_of, key_of_record, is_valid}
use Rattle.slots.specs.Slots.{SceneEntry}
use Rattle.requests.specs.Requests.{whole_group}
use Rattle.state.specs.Table.{Table, entries_in, records_in}
use Rattle.state.specs.Sound.{sound}
use Rattle.state.specs.Capacity.{share_mode, places_for}
use Rattle.observation.specs.Lists.{count, find, keep}
use Rattle.observation.specs.Calls.{Command, add, add_read, view, remove, remove_all, store, recall, copy, membership, info, Call, command, notice, Answer, answer, next, InRange}

-- ---- reached tables

-- an empty table, whatever its version and the lent bytes, and what any call, refused or not, leaves of a reached one
pub data Reached : Table → Type 0 where
  empty : (t : Table) → sound t ≡ true → t.state.entries ≡ 0 → t.state.recorded ≡ 0 → Reached t
  after : (c : Call) {t : Table} → InRange c → Reached t → Reached (next c t)

-- ---- equal answers to whole lists

-- what a list holds: a command or read of the fabric, or an attribute notice
pub data Event : Type 0 where
  own : (endpoint : ℕ) → Command → Event
  noticed : (endpoint : ℕ) → Event

abbrev pub call_of : ℕ → Event → Call
call_of f (own e c) = command f e c
call_of f (noticed e) = notice e

-- scene ids compare order aside, each as often
pub record Same (a b : Answer) : Type 0 where
  pub status : a.status ≡ b.status
  pub save : a.save ≡ b.save
  pub values : a.values ≡ b.values
  pub ids : Permᴰ a.ids b.ids

-- a notice's answers are not compared
abbrev pub Compared : Event → Answer → Answer → Type 0
Compared (own e c) a b = Same a b
Compared (noticed e) a b = Unit {0}

abbrev pub whole_copy : Command → Bool
whole_copy (add g s time m pairs ext) = false
whole_copy (add_read g s time m pairs ext) = false
whole_copy (view g s m) = false
whole_copy (remove g s m) = false
whole_copy (remove_all g m) = false
whole_copy (store g s m captured) = false
whole_copy (recall g s m o a) = false
whole_copy (copy mode g s h r m n) = whole_group mode
whole_copy (membership g m buffer) = false
whole_copy (info single) = false

-- a whole-group copy that is answered 0x89 ends the list
abbrev pub ends : Event → Answer → Bool
ends (own e c) a = whole_copy c && eqb a.status insufficient_space
ends (noticed e) a = false

abbrev pub unless : Bool → Type 0 → Type 0
unless true X = Unit {0}
unless false X = X

-- both runs of a list draw equal answers
abbrev pub Alike : ℕ → List Event → Table → Table → Type 0
Alike f [] s t = Unit {0}
Alike f (x ∷ xs) s t =
    Compared x (answer (call_of f x) s) (answer (call_of f x) t)
    × unless (ends x (answer (call_of f x) s) || ends x (answer (call_of f x) t)) (Alike f xs (next (call_of f x) s) (next (call_of f x) t))

abbrev pub AllInRange : ℕ → List Event → Type 0
AllInRange f [] = Unit {0}
AllInRange f (x ∷ xs) = InRange (call_of f x) × AllInRange f xs

-- equal in the sight of the fabric
abbrev pub Equivalent : ℕ → Table → Table → Type 0
Equivalent f s t = (xs : List Event) → AllInRange f xs → Alike f xs s t

-- ---- the four matters

-- places: how many scenes the fabric may still add. They are the free places and, in share mode (document 02, Q-5), the smaller of the share
-- that is left and these; nothing is cut
abbrev pub places_of : ℕ → Table → ℕ
places_of f t = places_for t.state t.slots.keys f

-- the fabric's entries, in table order
abbrev pub mine : ℕ → SceneEntry → Bool
mine f x = eqb (fabric_of x.key) f

abbrev pub scenes_of : ℕ → Table → List SceneEntry
scenes_of f t = keep (mine f) (entries_in t)

-- its current record
abbrev pub of_fabric : ℕ → ℕ → Bool
of_fabric f word = eqb (fabric_of (key_of_record word)) f

abbrev pub current_of : ℕ → Table → Option ℕ
current_of f t = find (of_fabric f) (records_in t)

-- group, scene and whether valid; the endpoint only while valid
pub record SeenRecord : Type 0 where
  pub group : ℕ
  pub scene : ℕ
  pub valid : Bool
  pub endpoint : ℕ

abbrev pub seen : ℕ → SeenRecord
seen word = record {
  group = group_of (key_of_record word);
  scene = scene_of (key_of_record word);
  valid = is_valid word;
  endpoint = cond (is_valid word) (endpoint_of (key_of_record word)) 0;
}

-- one more record fits
abbrev pub record_fits : Table → Bool
record_fits t = ltb t.state.recorded t.state.size

pub record Agree (f : ℕ) (s t : Table) : Type 0 where
  pub places : places_of f s ≡ places_of f t
  pub scenes : Permᴰ (scenes_of f s) (scenes_of f t)
  pub recorded : map seen (current_of f s) ≡ map seen (current_of f t)
  pub one_more : current_of f s ≡ none → 0 < count (mine f) (entries_in s) + places_of f s → record_fits s ≡ record_fits t

-- the entry of a key word
abbrev pub key_is : ℕ → SceneEntry → Bool
key_is k x = eqb x.key k

-- what every reached table has: it is sound; no key twice, no fabric with two records; scene ids 1 to 254 in entries and in records
pub record Proper (t : Table) : Type 0 where
  pub intact : sound t ≡ true
  pub distinct : (k : ℕ) → count (key_is k) (entries_in t) ≤ 1
  pub one_record : (f : ℕ) → count (of_fabric f) (records_in t) ≤ 1
  pub scenes : (x : SceneEntry) → Memᴰ x (entries_in t) → (1 ≤ scene_of x.key) × (scene_of x.key ≤ 254)
  pub current : (w : ℕ) → Memᴰ w (records_in t) → (1 ≤ scene_of (key_of_record w)) × (scene_of (key_of_record w) ≤ 254)

-- demand 3, in either mode: the two tables are of one size, and both or neither in share mode. The other bits of the modes may differ
abbrev pub Demand3 : Type 0
Demand3 =
    (f : ℕ) (s t : Table) → 1 ≤ f → f ≤ 255 → Reached s → Reached t → s.state.size ≡ t.state.size
    → share_mode s.state ≡ share_mode t.state → Equivalent f s t ↔ Agree f s t
