-- The pairs before the loop's place are passed. Assumes nothing.
use Rattle.std.proofs.Common.{◌≡◌, drop}
use Rattle.requests.specs.Requests.{pairs_gate}
use Rattle.requests.proofs.pairs_gate.Given as goal

abbrev pub invariant-loop-pair : goal.invariant-loop-pair
invariant-loop-pair l = pairs_gate l.fn.pairs ≡ pairs_gate (drop l.pair-index l.fn.pairs)
