-- `ScenesState::in_bounds` meets its contract. Assumes nothing.
use Rattle.std.proofs.Common.{le-leb}
use borrow.Author.Tests.{lt-leb}
use Rattle.words.specs.Conditions.{all_of}
use Rattle.state.specs.Sound.{in_bounds}
use Rattle.state.proofs.ScenesState.in_bounds.Goals as goal

pub returns-then-size-gt-MAX_SCENES : goal.returns-then-size-gt-MAX_SCENES
unfolding in_bounds all_of
returns-then-size-gt-MAX_SCENES c =
    simp (lt-leb _ _ c.if-size-gt-MAX_SCENES.true)

pub returns-then-size-entries : goal.returns-then-size-entries
unfolding in_bounds all_of
returns-then-size-entries c =
    simp (le-leb _ _ c.if-size-gt-MAX_SCENES.false, lt-leb _ _ c.if-size-entries.true)

pub returns-then-size-recorded : goal.returns-then-size-recorded
unfolding in_bounds all_of
returns-then-size-recorded c =
    simp (le-leb _ _ c.if-size-gt-MAX_SCENES.false, le-leb _ _ c.if-size-entries.false, lt-leb _ _ c.if-size-recorded.true)

pub returns-then-keys-size : goal.returns-then-keys-size
unfolding in_bounds all_of
returns-then-keys-size c =
    simp (le-leb _ _ c.if-size-gt-MAX_SCENES.false, le-leb _ _ c.if-size-entries.false, le-leb _ _ c.if-size-recorded.false, lt-leb _ _ c.if-keys-size.true)

pub returns-then-times-size : goal.returns-then-times-size
unfolding in_bounds all_of
returns-then-times-size c =
    simp (le-leb _ _ c.if-size-gt-MAX_SCENES.false, le-leb _ _ c.if-size-entries.false, le-leb _ _ c.if-size-recorded.false, le-leb _ _ c.if-keys-size.false, lt-leb _ _ c.if-times-size.true)

pub returns-then-fields-size : goal.returns-then-fields-size
unfolding in_bounds all_of
returns-then-fields-size c =
    simp (le-leb _ _ c.if-size-gt-MAX_SCENES.false, le-leb _ _ c.if-size-entries.false, le-leb _ _ c.if-size-recorded.false, le-leb _ _ c.if-keys-size.false, le-leb _ _ c.if-times-size.false, lt-leb _ _ c.if-fields-size.true)

pub returns-then-records-size : goal.returns-then-records-size
unfolding in_bounds all_of
returns-then-records-size c =
    simp (le-leb _ _ c.if-size-gt-MAX_SCENES.false, le-leb _ _ c.if-size-entries.false, le-leb _ _ c.if-size-recorded.false, le-leb _ _ c.if-keys-size.false, le-leb _ _ c.if-times-size.false, le-leb _ _ c.if-fields-size.false, lt-leb _ _ c.if-records-size.true)

pub returns : goal.returns
unfolding in_bounds all_of
returns c =
    simp (le-leb _ _ c.if-size-gt-MAX_SCENES.false, le-leb _ _ c.if-size-entries.false, le-leb _ _ c.if-size-recorded.false, le-leb _ _ c.if-keys-size.false, le-leb _ _ c.if-times-size.false, le-leb _ _ c.if-fields-size.false, le-leb _ _ c.if-records-size.false)
