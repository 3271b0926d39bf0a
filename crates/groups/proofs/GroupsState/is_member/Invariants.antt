-- `GroupsState::is_member` meets its contract: `any` says whether one of the words so far is the wanted one. Assumes nothing.
use Rattle.std.proofs.Common.{◌≡◌, take, eqb}
use Rattle.std.specs.List.{list_any}
use Rattle.groups.proofs.GroupsState.is_member.Given as goal

abbrev pub invariant-loop-word : goal.invariant-loop-word
invariant-loop-word l = l.any ≡ list_any (λ word. eqb word l.wanted) (take l.word-index l.word-items)
