-- `GroupsState::join` meets its contract: refused by its gate, as it was, full, or one more behind the last. Assumes nothing.
use Prim.Native.Nat.{ℕ, ◌<◌, ◌+◌}
use mathlib.Core.Path.{◌≡◌, sym, ap, ◌∙◌}
use mathlib.Core.Bool.{true}
use native.Mathlib.Omega.{arith}
use lib.ListN.{set}
use Rattle.words.specs.Constants.{success, max_memberships}
use Rattle.groups.specs.Groups.{Groups, groups_of, with_held, groups_sound, joined_of, with_member}
use Rattle.words.proofs.Refusals.{refusal-number}
use Rattle.groups.proofs.Laws.{answered, groups_few, groups-room, groups_fit, joins_sound, join-refused, join-held, join_full, join-new}
use Rattle.groups.proofs.GroupsState.join.Goals as goal

pub returns-in-Err : goal.returns-in-Err
returns-in-Err c =
    answered c.args.words.now _ _ c.refused.ensures ∙ join-refused _ _ _ c.in-Err.ensures (refusal-number _)

pub is_member-requires : goal.is_member-requires
is_member-requires c =
    let came : Groups = let a = c.args in
    groups_of a.self a.words.now in
    let sound : groups_sound came ≡ true = joins_sound _ _ (sym c.in_default.ensures) in
    groups_fit _ sound

pub returns-then-is_member : goal.returns-then-is_member
returns-then-is_member c =
    answered c.args.words.now _ _ c.answered.ensures ∙ join-held _ _ (sym c.in_default.ensures) (sym c.is_member.ensures ∙ c.if-is_member.true)

pub returns-then-self-eq-MAX_MEMBERSHIPS : goal.returns-then-self-eq-MAX_MEMBERSHIPS
returns-then-self-eq-MAX_MEMBERSHIPS c =
    answered c.args.words.now _ _ c.refused-then-self-eq-MAX_MEMBERSHIPS.ensures ∙ join_full _ _ (sym c.in_default.ensures) (sym c.is_member.ensures ∙ c.if-is_member.false) c.if-self-eq-MAX_MEMBERSHIPS.true

pub offset_bounds-words-held : goal.offset_bounds-words-held
offset_bounds-words-held c =
    let came : Groups = let a = c.args in
    groups_of a.self a.words.now in
    let sound : groups_sound came ≡ true = joins_sound _ _ (sym c.in_default.ensures) in
    let room : came.state.held < max_memberships = omega (arith, c.if-self-eq-MAX_MEMBERSHIPS.false, groups_few _ sound) in
    omega (arith, room, groups-room _ sound)

pub bounds-words-held : goal.bounds-words-held
bounds-words-held c =
    let came : Groups = let a = c.args in
    groups_of a.self a.words.now in
    let sound : groups_sound came ≡ true = joins_sound _ _ (sym c.in_default.ensures) in
    let room : came.state.held < max_memberships = omega (arith, c.if-self-eq-MAX_MEMBERSHIPS.false, groups_few _ sound) in
    omega (arith, room, groups-room _ sound)

pub overflow_add-self : goal.overflow_add-self
overflow_add-self c =
    let came : Groups = let a = c.args in
    groups_of a.self a.words.now in
    let sound : groups_sound came ≡ true = joins_sound _ _ (sym c.in_default.ensures) in
    let room : came.state.held < max_memberships = omega (arith, c.if-self-eq-MAX_MEMBERSHIPS.false, groups_few _ sound) in
    omega (arith, room)

pub returns : goal.returns
unfolding with_member
returns c =
    let came : Groups = let a = c.args in
    groups_of a.self a.words.now in
    let sound : groups_sound came ≡ true = joins_sound _ _ (sym c.in_default.ensures) in
    let room : came.state.held < max_memberships = omega (arith, c.if-self-eq-MAX_MEMBERSHIPS.false, groups_few _ sound) in
    let g = came in
    answered _ _ _ c.answered-2.ensures
    ∙ ap (λ (w : ℕ). joined_of success (groups_of (with_held (g.state.held + 1)) (set g.words g.state.held w))) c.word.ensures
    ∙ join-new _ _ (sym c.in_default.ensures) (sym c.is_member.ensures ∙ c.if-is_member.false) room
