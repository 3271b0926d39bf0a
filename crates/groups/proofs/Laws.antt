-- The laws of sound memberships, and of what a read and a join answer. Assumes nothing.
use Prim.Native.Nat.{ℕ, ◌≤◌, ◌<◌}
use mathlib.Core.Path.{◌≡◌, refl, sym, ap}
use mathlib.Core.Bool.{Bool, true, false, not}
use mathlib.Core.List.{List, [], ◌∷◌}
use native.Mathlib.Omega.{arith}
use lib.Dec.{leb}
use lib.ListN.{length, get_or}
use borrow.Author.Tests.{le-leb, lt-leb, leb-true, eq-eqb, ne_eqb, lt-ltb, le-ltb}
use Rattle.words.specs.Below.{every_below}
use Rattle.words.specs.Conditions.{all_of}
use Rattle.words.specs.Constants.{success, unsound, memberships_full, max_memberships}
use Rattle.words.specs.declared.GroupKey.{GroupKey}
use Rattle.words.proofs.Tests.{and_true, and_false, all_head, all_tail}
use Rattle.requests.specs.Requests.{first_refusal, or_next, refuse_if, fabric_gate}
use Rattle.groups.specs.declared.GroupRead.{GroupRead}
use Rattle.groups.specs.declared.GroupsOutcome.{GroupsOutcome}
use Rattle.groups.specs.declared.GroupsState.{GroupsState}
use Rattle.groups.specs.Groups.{Groups, group_sound, groups_sound, is_member, read_group, groups_of, joined_of, ungrouped_gate, join_gate, with_member, join_new, join_group}

-- ---- sound memberships

module _ (g : Groups) where
  -- the three conditions
  abbrev few : Bool
  few = leb g.state.held max_memberships

  abbrev room : Bool
  room = leb max_memberships (length g.words)

  abbrev words_in_range : Bool
  words_in_range = every_below (λ i. group_sound (get_or g.words i 0)) g.state.held

  pub groups_few : groups_sound g ≡ true → g.state.held ≤ max_memberships
  unfolding groups_sound
  groups_few e = leb-true _ _ (all_head few (room ∷ words_in_range ∷ []) e)

  pub groups-room : groups_sound g ≡ true → max_memberships ≤ length g.words
  unfolding groups_sound
  groups-room e = leb-true _ _ (all_head room (words_in_range ∷ []) (all_tail few (room ∷ words_in_range ∷ []) e))

  pub groups_fit : groups_sound g ≡ true → g.state.held ≤ length g.words
  groups_fit e = omega (arith, groups_few e, groups-room e)

  -- as the code tests them
  pub many_unsound : max_memberships < g.state.held → false ≡ groups_sound g
  unfolding groups_sound all_of
  many_unsound h = rw (lt-leb _ _ h)

  pub short-unsound : length g.words < max_memberships → false ≡ groups_sound g
  unfolding groups_sound all_of
  short-unsound h = rw (lt-leb _ _ h) (sym (and_false few))

  pub sound-words : g.state.held ≤ max_memberships → max_memberships ≤ length g.words → words_in_range ≡ groups_sound g
  unfolding groups_sound all_of
  sound-words h k = rw (le-leb _ _ h, le-leb _ _ k) (sym (and_true words_in_range))

-- ---- what a read and a join answer

-- a join's answer, from the outcome that it made
pub answered : {o : GroupsOutcome} (words : List ℕ) (n : ℕ) (s : GroupsState) → o ≡ record { status = n; state = s } → joined_of o.status (groups_of o.state words) ≡ joined_of n (groups_of s words)
answered words n s e = ap (λ (o : GroupsOutcome). joined_of o.status (groups_of o.state words)) e

abbrev read : ℕ → Bool → GroupRead
read n b = record { status = n; held = b }

module _ (k : GroupKey) (g : Groups) where
  pub read-unsound : groups_sound g ≡ false → read unsound false ≡ read_group k g
  unfolding read_group first_refusal or_next
  read-unsound e = rw e

  pub read-refused : groups_sound g ≡ true → (n : ℕ) → n ≡ fabric_gate k.fabric → (n ≡ success → ⊥) → read n false ≡ read_group k g
  unfolding read_group first_refusal or_next
  read-refused e n q h = simp (e, sym q, ne_eqb n success h) refl

  pub read_told : groups_sound g ≡ true → fabric_gate k.fabric ≡ success → (b : Bool) → b ≡ is_member k g → read success b ≡ read_group k g
  unfolding read_group first_refusal or_next
  read_told e p b q = rw (e, p) (ap (read success) q)

  -- a join that is not refused finds sound memberships
  pub joins_sound : join_gate k g ≡ success → groups_sound g ≡ true
  unfolding join_gate first_refusal or_next
  joins_sound e =
      let rest = or_next (fabric_gate k.fabric) (or_next (ungrouped_gate k.group) success) in
      (elim (groups_sound g) as (λ b. or_next (refuse_if (not b) unsound) rest ≡ success → b ≡ true) [
        | true ↦ λ _. refl
        | false ↦ λ q. let w : ⊥ = omega (arith, q) in absurd w
      ]) e

  pub join-refused : (n : ℕ) → n ≡ join_gate k g → (n ≡ success → ⊥) → joined_of n g ≡ join_group k g
  unfolding join_group
  join-refused n q h = rw (← q, ne_eqb n success h)

  module _ (passed : join_gate k g ≡ success) where
    new : join_new k g ≡ join_group k g
    unfolding join_group
    new = rw (eq-eqb _ _ passed)

    pub join-held : is_member k g ≡ true → joined_of success g ≡ join_group k g
    unfolding join_new
    join-held e = rw (← new, e)

    module _ (fresh : is_member k g ≡ false) where
      pub join_full : g.state.held ≡ max_memberships → joined_of memberships_full g ≡ join_group k g
      unfolding join_new
      join_full e = rw (← new, fresh, le-ltb g.state.held max_memberships (omega arith))

      pub join-new : g.state.held < max_memberships → joined_of success (with_member k g) ≡ join_group k g
      unfolding join_new
      join-new h = rw (← new, fresh, lt-ltb _ _ h)
