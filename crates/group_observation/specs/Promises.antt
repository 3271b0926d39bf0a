-- What the calls on scenes and memberships promise, whatever their values: a fabric's removal leaves nothing of it, each call answers one of few numbers, a
-- refusal changes nothing, 6 comes before all else, and what is sound stays sound. Document 02, Q-7, and demand 1.
use Rattle.std.specs.Prelude.{ℕ, ◌≤◌, ◌≡◌, Bool, true, false, not, List, [], ◌∷◌, eqb}
use Rattle.words.specs.Constants.{success, unsound}
use Rattle.words.specs.Words.{fabric_of}
use Rattle.words.specs.declared.GroupKey.{GroupKey}
use Rattle.state.specs.Table.{entries_in, records_in}
use Rattle.state.specs.Sound.{sound}
use Rattle.groups.specs.Groups.{Groups, groups_sound, words_in, member_of, read_group}
use Rattle.observation.specs.Lists.{count, keep}
use Rattle.observation.specs.Numbers.{Among}
use Rattle.observation.specs.Calls.{group_key, copy_request}
use Rattle.observation.specs.Equivalence.{mine, of_fabric}
use Rattle.observation.specs.Refusals as refusals
use Rattle.group_observation.specs.Nodes.{Node, Command, add, add_read, view, remove, remove_all, store, recall, copy, membership, info, join, leave, Call, command, removal, reset, on_scenes, step, answer, next, InRange}

-- ---- a fabric's removal

-- its word among the memberships
abbrev pub of_fabric_word : ℕ → ℕ → Bool
of_fabric_word f w = eqb (fabric_of w) f

-- n without all of the fabric's: of the others everything is left, in order
pub record Removed (f : ℕ) (n left : Node) : Type 0 where
  pub entries : entries_in left.scenes ≡ keep (λ x. not (mine f x)) (entries_in n.scenes)
  pub records : records_in left.scenes ≡ keep (λ w. not (of_fabric f w)) (records_in n.scenes)
  pub memberships : words_in left.groups ≡ keep (λ w. not (of_fabric_word f w)) (words_in n.groups)
  pub no_entry : count (mine f) (entries_in left.scenes) ≡ 0
  pub no_record : count (of_fabric f) (records_in left.scenes) ≡ 0
  pub no_membership : count (of_fabric_word f) (words_in left.groups) ≡ 0

abbrev pub RemovalLeavesNothing : Type 0
RemovalLeavesNothing =
    (f : ℕ) (n : Node) → 1 ≤ f → f ≤ 255 → sound n.scenes ≡ true → groups_sound n.groups ≡ true → Removed f n (next (removal f) n)

-- memberships that go by themselves neither step nor mark
pub record Quiet (c : Call) (n : Node) : Type 0 where
  pub status : (answer c n).status ≡ success
  pub save : (answer c n).save ≡ false
  pub dataver : (next c n).scenes.state.dataver ≡ n.scenes.state.dataver

abbrev pub MembershipsAlone : Type 0
MembershipsAlone =
    (f : ℕ) (n : Node) → 1 ≤ f → f ≤ 255 → sound n.scenes ≡ true → groups_sound n.groups ≡ true
    → count (mine f) (entries_in n.scenes) ≡ 0 → count (of_fabric f) (records_in n.scenes) ≡ 0 → Quiet (removal f) n

-- nor does a join: it leaves the very scenes
abbrev pub JoinIsQuiet : Type 0
JoinIsQuiet = (f e g : ℕ) (n : Node) → ((answer (command f e (join g)) n).save ≡ false) × ((next (command f e (join g)) n).scenes ≡ n.scenes)

-- ---- the numbers

-- a command that asks never answers 2
abbrev pub numbers : Command → List ℕ
numbers (add g s time pairs ext) = 0 ∷ 1 ∷ 6 ∷ 7 ∷ 0x85 ∷ 0x87 ∷ 0x89 ∷ []
numbers (add_read g s time pairs ext) = 0 ∷ 1 ∷ 6 ∷ 7 ∷ 11 ∷ 0x85 ∷ 0x87 ∷ 0x89 ∷ []
numbers (view g s) = 0 ∷ 1 ∷ 6 ∷ 0x85 ∷ 0x87 ∷ 0x8B ∷ []
numbers (remove g s) = 0 ∷ 1 ∷ 6 ∷ 0x85 ∷ 0x87 ∷ 0x8B ∷ []
numbers (remove_all g) = 0 ∷ 1 ∷ 6 ∷ 0x85 ∷ []
numbers (store g s captured) = 0 ∷ 1 ∷ 3 ∷ 6 ∷ 0x85 ∷ 0x87 ∷ 0x89 ∷ []
numbers (recall g s o a) = 0 ∷ 1 ∷ 4 ∷ 6 ∷ 0x85 ∷ 0x87 ∷ 0x8B ∷ []
numbers (copy mode g s h r) = 0 ∷ 1 ∷ 6 ∷ 0x85 ∷ 0x87 ∷ 0x89 ∷ 0x8B ∷ []
numbers (membership g buffer) = 0 ∷ 1 ∷ 6 ∷ 8 ∷ 0x85 ∷ []
numbers (info single) = 0 ∷ 1 ∷ 5 ∷ 6 ∷ []
numbers (join g) = 0 ∷ 1 ∷ 6 ∷ 12 ∷ 0x87 ∷ []
numbers (leave g) = 0 ∷ 1 ∷ 6 ∷ 0x87 ∷ 0x8B ∷ []

pub record Numbers : Type 0 where
  pub command : (f e : ℕ) (c : Command) (n : Node) → Among (numbers c) (answer (command f e c) n).status
  pub removal : (f : ℕ) (n : Node) → Among (0 ∷ 1 ∷ 6 ∷ []) (answer (removal f) n).status
  pub reset : (n : Node) → Among (0 ∷ 6 ∷ []) (answer reset n).status
  pub held : (k : GroupKey) (g : Groups) → Among (0 ∷ 1 ∷ 6 ∷ []) (read_group k g).status

-- ---- refusals

-- 0x89 midway, of a copy in either form
abbrev pub midway : Call → Node → Bool
midway (command f e (add g s time pairs ext)) n = false
midway (command f e (add_read g s time pairs ext)) n = false
midway (command f e (view g s)) n = false
midway (command f e (remove g s)) n = false
midway (command f e (remove_all g)) n = false
midway (command f e (store g s captured)) n = false
midway (command f e (recall g s o a)) n = false
midway (command f e (copy mode g s h r)) n =
    refusals.midway (refusals.copy (copy_request f e mode g s h r) (member_of (group_key f e g) n.groups) (member_of (group_key f e h) n.groups)) n.scenes
midway (command f e (membership g buffer)) n = false
midway (command f e (info single)) n = false
midway (command f e (join g)) n = false
midway (command f e (leave g)) n = false
midway (removal f) n = false
midway reset n = false
midway (on_scenes c) n = refusals.midway (refusals.outward c) n.scenes

-- any other refusal leaves the very scenes and memberships
abbrev pub RefusedRun : Type 0
RefusedRun = (c : Call) (n : Node) → ((answer c n).status ≡ success → ⊥) → midway c n ≡ false → next c n ≡ n

-- the calls that are lent the memberships: all but info and those of the scenes alone
abbrev pub lent : Call → Bool
lent (command f e (add g s time pairs ext)) = true
lent (command f e (add_read g s time pairs ext)) = true
lent (command f e (view g s)) = true
lent (command f e (remove g s)) = true
lent (command f e (remove_all g)) = true
lent (command f e (store g s captured)) = true
lent (command f e (recall g s o a)) = true
lent (command f e (copy mode g s h r)) = true
lent (command f e (membership g buffer)) = true
lent (command f e (info single)) = false
lent (command f e (join g)) = true
lent (command f e (leave g)) = true
lent (removal f) = true
lent reset = true
lent (on_scenes c) = false

-- memberships that are not sound: each of them answers 6 and nothing else, and leaves all as it was
abbrev pub UnsoundRun : Type 0
UnsoundRun =
    (n : Node) → groups_sound n.groups ≡ false → (c : Call) → lent c ≡ true → step c n ≡ (record { status = unsound; save = false; values = []; ids = [] }, n)

-- ---- sound nodes

-- every call leaves a sound node sound, so that a host which alone writes its memory need not test it
abbrev pub StaysSound : Type 0
StaysSound =
    (c : Call) (n : Node) → InRange c → sound n.scenes ≡ true → groups_sound n.groups ≡ true
    → (sound (next c n).scenes ≡ true) × (groups_sound (next c n).groups ≡ true)
