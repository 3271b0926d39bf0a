-- Observational equivalence of two nodes for a fabric, whose commands ask the memberships that the node holds, and what it comes down to: document 02, Q-7,
-- "two such boxes look alike to a fabric exactly when its own memberships and the free membership places agree as well, joins and leaves being among its
-- commands". Demand 3, with memberships as inputs, stands beside it.
use Rattle.std.specs.Prelude.{ℕ, ◌-◌, ◌≤◌, ◌≡◌, ◌↔◌, ◌⊎◌, Bool, true, false, ◌&&◌, ◌||◌, eqb}
use mathlib.Core.List.{List, [], ◌∷◌, Permᴰ, Memᴰ}
use Rattle.words.specs.Constants.{insufficient_space, max_memberships}
use Rattle.words.specs.Words.{fabric_of, endpoint_of, group_of}
use Rattle.slots.specs.Slots.{SceneEntry}
use Rattle.requests.specs.Requests.{whole_group}
use Rattle.state.specs.Table.{entries_in}
use Rattle.state.specs.Sound.{sound}
use Rattle.state.specs.Capacity.{share_mode}
use Rattle.groups.specs.Groups.{groups_sound, words_in, is_member}
use Rattle.observation.specs.Lists.{keep}
use Rattle.observation.specs.Calls.{Answer, group_key}
use Rattle.observation.specs.Equivalence as scenes
use Rattle.observation.specs.Equivalence.{Same, unless}
use Rattle.observation.specs.Calls as calls
use Rattle.group_observation.specs.Nodes.{Node, Command, add, add_read, view, remove, remove_all, store, recall, copy, membership, info, join, leave, Call, command, on_scenes, answer, next, InRange, loads, is_told}

-- ---- reached nodes

-- scenes and memberships both empty, whatever the version and the lent memory, and what any call leaves of a reached one
pub data Reached : Node → Type 0 where
  begun : (n : Node) → sound n.scenes ≡ true → n.scenes.state.entries ≡ 0 → n.scenes.state.recorded ≡ 0
      → groups_sound n.groups ≡ true → n.groups.state.held ≡ 0 → Reached n
  after : (c : Call) {n : Node} → InRange c → Reached n → Reached (next c n)

-- no call since the start passes the test
abbrev pub NoneSince : (Call → Bool) → {n : Node} → Reached n → Type 0
NoneSince p (begun n s e r g h) = Unit {0}
NoneSince p (after c w r) = (p c ≡ false) × NoneSince p r

-- filled only by joins, leaves and commands that ask: no load since, and no command that is told its membership
abbrev pub fills : Call → Bool
fills c = loads c || is_told c

-- ---- equal answers to whole lists

-- what a list holds: a command or read of the fabric, a join or leave among them, or an attribute notice
pub data Event : Type 0 where
  own : (endpoint : ℕ) → Command → Event
  noticed : (endpoint : ℕ) → Event

abbrev pub call_of : ℕ → Event → Call
call_of f (own e c) = command f e c
call_of f (noticed e) = on_scenes (calls.notice e)

abbrev pub Compared : Event → Answer → Answer → Type 0
Compared (own e c) a b = Same a b
Compared (noticed e) a b = Unit {0}

abbrev pub whole_copy : Command → Bool
whole_copy (add g s time pairs ext) = false
whole_copy (add_read g s time pairs ext) = false
whole_copy (view g s) = false
whole_copy (remove g s) = false
whole_copy (remove_all g) = false
whole_copy (store g s captured) = false
whole_copy (recall g s o a) = false
whole_copy (copy mode g s h r) = whole_group mode
whole_copy (membership g buffer) = false
whole_copy (info single) = false
whole_copy (join g) = false
whole_copy (leave g) = false

-- a whole-group copy that is answered 0x89 ends the list
abbrev pub ends : Event → Answer → Bool
ends (own e c) a = whole_copy c && eqb a.status insufficient_space
ends (noticed e) a = false

abbrev pub Alike : ℕ → List Event → Node → Node → Type 0
Alike f [] m n = Unit {0}
Alike f (x ∷ xs) m n =
    Compared x (answer (call_of f x) m) (answer (call_of f x) n)
    × unless (ends x (answer (call_of f x) m) || ends x (answer (call_of f x) n)) (Alike f xs (next (call_of f x) m) (next (call_of f x) n))

abbrev pub AllInRange : ℕ → List Event → Type 0
AllInRange f [] = Unit {0}
AllInRange f (x ∷ xs) = InRange (call_of f x) × AllInRange f xs

abbrev pub Equivalent : ℕ → Node → Node → Type 0
Equivalent f m n = (xs : List Event) → AllInRange f xs → Alike f xs m n

-- ---- the matters

-- the fabric's memberships, and how many more of any fabric are taken up
abbrev pub memberships_of : ℕ → Node → List ℕ
memberships_of f n = keep (λ w. eqb (fabric_of w) f) (words_in n.groups)

abbrev pub free_memberships : Node → ℕ
free_memberships n = max_memberships - n.groups.state.held

pub record Agree (f : ℕ) (m n : Node) : Type 0 where
  -- the four matters of demand 3
  pub scenes : scenes.Agree f m.scenes n.scenes
  -- order aside
  pub memberships : Permᴰ (memberships_of f m) (memberships_of f n)
  pub free : free_memberships m ≡ free_memberships n

-- two nodes with a history in which no call passes a test are equivalent exactly when they are related
abbrev pub Exactly : (Call → Bool) → (ℕ → Node → Node → Type 0) → Type 0
Exactly p R =
    (f : ℕ) (m n : Node) → 1 ≤ f → f ≤ 255 → (rm : Reached m) → (rn : Reached n) → NoneSince p rm → NoneSince p rn
    → m.scenes.state.size ≡ n.scenes.state.size → share_mode m.scenes.state ≡ share_mode n.scenes.state
    → Equivalent f m n ↔ R f m n

-- the first claim, of nodes that were begun empty and filled only by what asks
abbrev pub AlikeExactly : Type 0
AlikeExactly = Exactly fills Agree

-- what carries it: a scene of a group other than 0 has its membership
abbrev pub Enrolled : Node → Type 0
Enrolled n =
    (x : SceneEntry) → Memᴰ x (entries_in n.scenes)
    → (group_of x.key ≡ 0) ⊎ (is_member (group_key (fabric_of x.key) (endpoint_of x.key) (group_of x.key)) n.groups ≡ true)

abbrev pub ReachedEnrolled : Type 0
ReachedEnrolled = (n : Node) → (r : Reached n) → NoneSince fills r → Enrolled n

-- the second claim, of any history: with memberships as inputs the scenes are equivalent exactly when they agree on the four matters
abbrev pub WithInputs : Type 0
WithInputs =
    (f : ℕ) (m n : Node) → 1 ≤ f → f ≤ 255 → Reached m → Reached n → m.scenes.state.size ≡ n.scenes.state.size
    → share_mode m.scenes.state ≡ share_mode n.scenes.state
    → scenes.Equivalent f m.scenes n.scenes ↔ scenes.Agree f m.scenes n.scenes
