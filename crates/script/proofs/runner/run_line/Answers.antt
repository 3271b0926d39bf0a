-- `script::runner::run_line` meets its contract. Assumes nothing.
use mathlib.Core.Path.{◌∙◌}
use Rattle.text_output.specs.Writing.{sheet}
use Rattle.script.specs.Running.{Session, session}
use Rattle.script.proofs.RunLaws.{same-words, read_runs}
use Rattle.script.proofs.runner.run_line.Goals as goal

pub returns-in-Ok-Some : goal.returns-in-Ok-Some
returns-in-Ok-Some c =
    let a = c.args in
    let read = c.in-Ok-Some.read in
    let after = c.read_line.new.line in
    let s : Session = session c.counted-m.result a.keys.now a.times.now a.fields.now a.records.now a.words.now a.buffer.now after (sheet a.out.now a.at) in
    c.obeyed.ensures
    ∙ same-words read.values read.starts after s read.letter
    ∙ read_runs _ _ _ _ _ _ _ _ a.line.now after _ _ c.counted-m.ensures (rw c.in-Ok-Some.field-0-is at c.in-Ok-Some.ensures)
