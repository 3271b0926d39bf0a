-- `is_head_sound` meets its contract. Assumes nothing.
use borrow.Author.Tests.{le-leb, lt-leb}
use Rattle.words.specs.Conditions.{all_of}
use Rattle.words.proofs.Tests.{and_true}
use Rattle.notices.specs.Notice.{head_sound}
use Rattle.notices.proofs.is_head_sound.Goals as goal

pub returns-then-size-gt-MAX_SCENES : goal.returns-then-size-gt-MAX_SCENES
unfolding head_sound all_of
returns-then-size-gt-MAX_SCENES c =
    simp (lt-leb _ _ c.if-size-gt-MAX_SCENES.true)

pub returns-then-size-state : goal.returns-then-size-state
unfolding head_sound all_of
returns-then-size-state c =
    simp (le-leb _ _ c.if-size-gt-MAX_SCENES.false, lt-leb _ _ c.if-size-state.true)

pub returns-then-size-state-2 : goal.returns-then-size-state-2
unfolding head_sound all_of
returns-then-size-state-2 c =
    simp (le-leb _ _ c.if-size-gt-MAX_SCENES.false, le-leb _ _ c.if-size-state.false, lt-leb _ _ c.if-size-state-2.true)

pub returns : goal.returns
unfolding head_sound all_of
returns c =
    simp (le-leb _ _ c.if-size-gt-MAX_SCENES.false, le-leb _ _ c.if-size-state.false, le-leb _ _ c.if-size-state-2.false, and_true)
