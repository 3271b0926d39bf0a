-- `records::find` meets its contract: no record in front is owned. Assumes nothing.
use Rattle.std.proofs.Common.{◌≡◌, None}
use Rattle.records.specs.Records.{first_owned}
use Rattle.records.proofs.find.Given as goal

abbrev pub invariant-loop-at : goal.invariant-loop-at
invariant-loop-at l = first_owned l.records l.at l.fabric l.endpoint ≡ None
