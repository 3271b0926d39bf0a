-- `notices::notice_records`: from the pass and the records of a turn, the turns that are left lead to the answer.
use mathlib.Core.Path.{◌≡◌}
use lib.ListN.{length}
use Rattle.notices.specs.Notice.{notice_records}
use Rattle.notices.proofs.Runs.{Runs, left_of}
use Rattle.notices.proofs.notice_records.Given as goal

abbrev pub invariant-loop-pass : goal.invariant-loop-pass
invariant-loop-pass l = Runs (notice_records l.endpoint l.fn.state l.initial.records) l.pass l.records × (length l.records ≡ length l.initial.records)

abbrev pub decreases-loop-pass : goal.decreases-loop-pass
decreases-loop-pass l = left_of l.pass
