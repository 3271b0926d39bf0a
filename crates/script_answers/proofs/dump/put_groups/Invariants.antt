-- `script_answers::dump::put_groups` meets its contract. Assumes nothing.
use mathlib.Core.Path.{◌≡◌}
use lib.ListN.{get_or}
use Rattle.text_output.specs.Writing.{sheet, writes_below}
use Rattle.script_answers.specs.Dump.{group_line}
use Rattle.script_answers.proofs.dump.put_groups.Given as goal

abbrev pub invariant-loop-word : goal.invariant-loop-word
invariant-loop-word l = sheet l.out l.next ≡ writes_below (λ k. group_line (get_or l.words k 0)) l.word-index (sheet l.initial.out l.at)
