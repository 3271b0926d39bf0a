-- `console::run_held` meets its contract: the answer stands whole. Assumes nothing.
use Rattle.std.proofs.Common.{arith, refl}
use Rattle.script.specs.Running.{Session, session}
use Rattle.text_output.specs.Writing.{sheet}
use Rattle.console.proofs.Held.{ran_whole, too_long_whole}
use Rattle.console.proofs.run_held.Goals as goal

pub returns-then-held-line : goal.returns-then-held-line
returns-then-held-line c =
    let after = c.run_line.new in
    let left : Session = session c.run_line.result.machine after.keys after.times after.fields after.records after.words after.buffer after.line (sheet after.out c.run_line.result.at) in
    let a = c.args in
    ran_whole a.machine a.keys.now a.times.now a.fields.now a.records.now a.words.now a.buffer.now a.line.now
    a.held a.out.now a.at _ _
    {s = left} c.run_line.ensures refl (omega (arith, c.run_line.auto.buffer, c.requires.buffer_len_bound)) c.if-held-line.true
    c.requires.line_len_bound c.requires.keys_len_bound c.requires.records_len_bound c.requires.words_len_bound c.requires.longest_in_bounds

pub returns : goal.returns
returns c =
    let a = c.args in
    too_long_whole a.machine a.keys.now a.times.now a.fields.now a.records.now a.words.now a.buffer.now a.line.now
    a.held a.out.now a.at _ _
    c.if-held-line.false c.requires.longest_in_bounds c.too_long.ensures.output
