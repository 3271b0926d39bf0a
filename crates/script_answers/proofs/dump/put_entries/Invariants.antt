-- `script_answers::dump::put_entries` meets its contract. Assumes nothing.
use mathlib.Core.Path.{◌≡◌}
use Rattle.text_output.specs.Writing.{sheet, writes_below}
use Rattle.script_answers.specs.Dump.{entry_shown}
use Rattle.script_answers.proofs.dump.put_entries.Given as goal

abbrev pub invariant-loop-i : goal.invariant-loop-i
invariant-loop-i l = sheet l.out l.next ≡ writes_below (entry_shown l.stored l.keys l.times l.fields) l.i (sheet l.initial.out l.at)
