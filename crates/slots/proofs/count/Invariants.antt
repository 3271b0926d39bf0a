-- `slots::count` meets its contract: the count is that of the words so far. Assumes nothing.
use Rattle.std.proofs.Common.{◌≡◌, ◌≤◌, take}
use Rattle.std.specs.List.{count_by}
use Rattle.words.specs.Words.{within}
use Rattle.slots.proofs.count.Given as goal

abbrev pub invariant-loop-word : goal.invariant-loop-word
invariant-loop-word l = (l.count ≤ l.word-index) × (l.count ≡ count_by (within l.range) (take l.word-index (take l.n l.keys)))
