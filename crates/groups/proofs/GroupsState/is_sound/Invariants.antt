-- `GroupsState::is_sound` meets its contract: the counts fit, and it has looked at each word so far. Assumes nothing.
use Rattle.std.proofs.Common.{◌≡◌, take}
use Rattle.std.specs.List.{list_all}
use Rattle.groups.specs.Groups.{group_sound}
use Rattle.groups.proofs.GroupsState.is_sound.Given as goal

abbrev pub invariant-loop-word : goal.invariant-loop-word
invariant-loop-word l = l.sound ≡ list_all group_sound (take l.word-index l.word-items)
