-- The laws of a call that asks the memberships: on sound ones it is the call that is told the answer, and on any others it answers 6. And
-- those of the calls that change both. Assumes nothing.
use Prim.Native.Nat.{ℕ}
use mathlib.Core.Path.{◌≡◌, sym, ap, ◌∙◌}
use mathlib.Core.Bool.{true, false}
use mathlib.Core.List.{List}
use borrow.Author.Tests.{eq-eqb, ne_eqb}
use Rattle.words.specs.Constants.{success, unsound}
use Rattle.words.specs.Words.{group_keys}
use Rattle.words.specs.declared.GroupKey.{GroupKey}
use Rattle.slots.specs.Slots.{Slots}
use Rattle.requests.specs.declared.Membership.{Membership}
use Rattle.requests.specs.declared.Membership.TheVariants.{Yes}
use Rattle.state.specs.declared.Outcome.{Outcome}
use Rattle.state.specs.Table.{Table}
use Rattle.state.specs.Sound.{sound}
use Rattle.state.specs.Answer.{Result, result_of, refused}
use Rattle.state.proofs.Guard.{result_in, admits, refuses, answers_unsound}
use Rattle.commands.specs.declared.Stored.{Stored}
use Rattle.commands.specs.Commands.{remove_all_scenes}
use Rattle.commands.specs.Counted.{Counted, counted_of}
use Rattle.commands.proofs.Counting.{counted_in}
use Rattle.groups.specs.declared.GroupsState.{GroupsState}
use Rattle.groups.specs.Groups.{Groups, groups_of, groups_sound, member_of, retain_groups}
use Rattle.asking.specs.declared.BothOutcome.{BothOutcome}
use Rattle.asking.specs.Asking.{asking, Both, both_of, both_refused, leave_gate, leave_group, following}

-- ---- asking

module _ (g : Groups) where
  pub asks : {A : Type 0} (refuse : ℕ → A) (o : A) → groups_sound g ≡ true → o ≡ asking g refuse o
  unfolding asking
  asks refuse o s = rw s

  -- what a call answered that was told the membership of a group
  pub asks_told : {A : Type 0} (refuse : ℕ → A) (call : Membership → A) (key : GroupKey)
      → groups_sound g ≡ true
      → {k : GroupKey} {m : Membership} {r : A}
      → k ≡ key
      → m ≡ member_of k g
      → r ≡ call m
      → r ≡ asking g refuse (call (member_of key g))
  asks_told refuse call key s e q p = p ∙ ap call (q ∙ ap (λ (k : GroupKey). member_of k g) e) ∙ asks refuse (call (member_of key g)) s

  module _ (s : groups_sound g ≡ false) where
    pub asks-unsound : {A : Type 0} (refuse : ℕ → A) (o : A) → refuse unsound ≡ asking g refuse o
    unfolding asking
    asks-unsound refuse o = rw s

    pub unsound-asked : (t : Table) (o : Outcome) (body : Result)
        → o ≡ record { status = unsound; save = false; state = t.state }
        → result_in t.slots t.records o ≡ asking g (refused t) body
    unsound-asked t o body q = ap (result_in t.slots t.records) q ∙ asks-unsound (refused t) body

    pub unsound-counted : (t : Table) (o : Stored) (body : Counted)
        → o ≡ record { status = unsound; save = false; state = t.state; compared = 0 }
        → counted_in t.slots t.records o ≡ asking g (λ n. counted_of (refused t n) 0) body
    unsound-counted t o body q = ap (counted_in t.slots t.records) q ∙ asks-unsound (λ n. counted_of (refused t n) 0) body

-- ---- what changes both

-- what a call answered, with the memory that it left
abbrev pub both_in : Slots → List ℕ → List ℕ → BothOutcome → Both
both_in s r w o = both_of (result_of o.status o.save (record { state = o.state; slots = s; records = r })) (groups_of o.groups w)

-- a command's answer with the memberships' head
abbrev pub ended_of : GroupsState → Outcome → BothOutcome
ended_of g o = record { state = o.state; groups = g; status = o.status; save = o.save }

module _ (g : Groups) (t : Table) where
  -- a refusal changes neither
  abbrev pub stays : ℕ → BothOutcome
  stays n = record { state = t.state; groups = g.state; status = n; save = false }

  abbrev pub both_here : BothOutcome → Both
  both_here o = both_in t.slots t.records g.words o

  pub both_unsound : groups_sound g ≡ false → (o : BothOutcome) (body : Both) → o ≡ stays unsound → both_here o ≡ asking g (both_refused g t) body
  both_unsound s o body q = ap both_here q ∙ asks-unsound g s (both_refused g t) body

  module _ (h : groups_sound g ≡ true) where
    module _ (key : GroupKey) where
      abbrev left : Both
      left = both_of (remove_all_scenes key Yes t) (retain_groups (group_keys key.fabric key.endpoint key.group) g)

      pub leaves-unsound : sound t ≡ false → (o : BothOutcome) → o ≡ stays unsound → both_here o ≡ leave_group key g t
      unfolding leave_group
      leaves-unsound s o q = ap both_here q ∙ answers_unsound t s (leave_gate key g) (both_refused g t) left ∙ asks g _ _ h

      module _ (s : sound t ≡ true) (n : ℕ) (e : n ≡ leave_gate key g) where
        pub leaves-refused : (n ≡ success → ⊥) → (o : BothOutcome) → o ≡ stays n → both_here o ≡ leave_group key g t
        unfolding leave_group
        leaves-refused z o q = ap both_here q ∙ refuses t s n (leave_gate key g) e (both_refused g t) left z ∙ asks g _ _ h

        pub leaves : n ≡ success → (r : Result) (l : Groups)
            → r ≡ remove_all_scenes key Yes t
            → l ≡ retain_groups (group_keys key.fabric key.endpoint key.group) g
            → both_of r l ≡ leave_group key g t
        unfolding leave_group
        leaves z r l p q =
            (λ i. both_of (p i) (q i)) ∙ (admits t s n (leave_gate key g) e z).answers (both_refused g t) left ∙ asks g _ _ h

    -- the memberships follow where the scenes did not refuse
    module _ (new : Groups) (r d : Result) (e : r ≡ d) where
      pub follows : r.status ≡ success → (done : Groups) → done ≡ new → both_of r done ≡ asking g (both_refused g t) (following d new g)
      follows z done q =
          (λ i. both_of (e i) (q i))
          ∙ (let p : d.status ≡ success = sym (ap (λ (x : Result). x.status) e) ∙ z in rw (eq-eqb _ _ p) (asks g _ _ h))

      pub follows_not : (r.status ≡ success → ⊥) → both_of r g ≡ asking g (both_refused g t) (following d new g)
      follows_not z =
          ap (λ (x : Result). both_of x g) e
          ∙ (let p : d.status ≡ success → ⊥ = λ y. z (ap (λ (x : Result). x.status) e ∙ y) in rw (ne_eqb _ _ p) (asks g _ _ h))
