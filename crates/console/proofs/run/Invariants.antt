-- `console::run` is safe and ends: its turns are counted. Assumes nothing.
use Rattle.std.proofs.Common.{length, ◌+◌, ◌≤◌}
use Rattle.console.specs.Whole.{longest, most_held}
use Rattle.console.proofs.run.Given as goal

abbrev pub invariant-loop : goal.invariant-loop
invariant-loop g l = most_held + longest ≤ length l.room
