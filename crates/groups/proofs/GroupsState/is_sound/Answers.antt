-- `GroupsState::is_sound` meets its contract: the counts fit, and it has looked at each word. Assumes nothing.
use Rattle.std.proofs.Common.{ap, ◌∙◌, arith}
use Rattle.std.specs.List.{list_all}
use Rattle.std.proofs.lemmas.List.{take_all}
use Rattle.words.proofs.Below.{every_list}
use Rattle.groups.specs.Groups.{group_sound}
use Rattle.groups.proofs.Laws.{many_unsound, short-unsound, sound-words}
use Rattle.groups.proofs.GroupsState.is_sound.Goals as goal

pub returns-then-self-gt-MAX_MEMBERSHIPS : goal.returns-then-self-gt-MAX_MEMBERSHIPS
returns-then-self-gt-MAX_MEMBERSHIPS c =
    many_unsound _ c.if-self-gt-MAX_MEMBERSHIPS.true

pub returns-then-words-lt-MAX_MEMBERSHIPS : goal.returns-then-words-lt-MAX_MEMBERSHIPS
returns-then-words-lt-MAX_MEMBERSHIPS c =
    short-unsound _ c.if-words-lt-MAX_MEMBERSHIPS.true

pub returns : goal.returns
returns c =
    c.loop-word.invariant
    ∙ ap (list_all group_sound) (take_all _ _ c.loop-word-test.false)
    ∙ every_list group_sound c.args.words.now c.args.self.held (omega arith)
    ∙ sound-words _ c.if-self-gt-MAX_MEMBERSHIPS.false c.if-words-lt-MAX_MEMBERSHIPS.false
