-- `script::runner::obeyed` meets its contract. Assumes nothing.
use mathlib.Core.Path.{◌≡◌, sym, ◌∙◌}
use mathlib.Core.Bool.{false}
use Rattle.text_output.specs.Writing.{sheet}
use Rattle.script_lines.specs.Values.{bytes_at, half_asking}
use Rattle.script_sets.specs.Texts.{sets_line}
use Rattle.script_machine.specs.Machines.{dump_lines}
use Rattle.script.specs.Running.{Session, session, table_in, groups_in, called}
use Rattle.script.proofs.RunLaws.{ended, obeys_size, obeys_half, obeys_none, obeys_table, obeys_sets, obeys_call}
use Rattle.script.proofs.runner.obeyed.Goals as goal

pub returns-then-read-eq78 : goal.returns-then-read-eq78
returns-then-read-eq78 c =
    let came : Session = let a = c.args in
    session a.machine a.keys.now a.times.now a.fields.now a.records.now a.words.now a.buffer.now a.line.now
    (sheet a.out.now a.at) in
    ended c.args.machine _ _ _ _ _ _ _ _ _ _ _ _ _ c.sized.ensures
    ∙ obeys_size _ _ _ came c.if-read-eq78.true

pub returns-then-asks_half : goal.returns-then-asks_half
returns-then-asks_half c =
    let came : Session = let a = c.args in
    session a.machine a.keys.now a.times.now a.fields.now a.records.now a.words.now a.buffer.now a.line.now
    (sheet a.out.now a.at) in
    ended c.args.machine _ _ _ _ _ _ _ _ _ _ _ _ _ c.wrong.ensures
    ∙ obeys_half _ _ _ came c.if-read-eq78.false (sym c.asks_half.ensures ∙ c.if-asks_half.true)

pub returns-then-read-eq68 : goal.returns-then-read-eq68
returns-then-read-eq68 c =
    let came : Session = let a = c.args in
    session a.machine a.keys.now a.times.now a.fields.now a.records.now a.words.now a.buffer.now a.line.now
    (sheet a.out.now a.at) in
    let told : (let a = c.args in
    half_asking a.read.letter a.read.values ≡ false) = sym c.asks_half.ensures ∙ c.if-asks_half.false in
    let s = came in
    ended s.machine _ _ _ _ _ _ _ _ (dump_lines (groups_in s) (table_in s)) _ _ _ _ c.dumped.ensures
    ∙ obeys_table _ _ _ s c.if-read-eq78.false told c.if-machine.true c.if-read-eq68.true

pub returns-then-read-eq89 : goal.returns-then-read-eq89
returns-then-read-eq89 c =
    let came : Session = let a = c.args in
    session a.machine a.keys.now a.times.now a.fields.now a.records.now a.words.now a.buffer.now a.line.now
    (sheet a.out.now a.at) in
    let told : (let a = c.args in
    half_asking a.read.letter a.read.values ≡ false) = sym c.asks_half.ensures ∙ c.if-asks_half.false in
    let a = c.args in
    let bytes = bytes_at a.read a.line.now 0 in
    ended a.machine _ _ _ _ _ _ _ _ (sets_line a.machine.trace a.machine.state bytes) _ _ _ _ c.parsed.ensures
    ∙ obeys_sets _ _ _ came c.if-read-eq78.false told c.if-machine.true c.if-read-eq68.false c.if-read-eq89.true

pub returns-then-machine : goal.returns-then-machine
returns-then-machine c =
    let came : Session = let a = c.args in
    session a.machine a.keys.now a.times.now a.fields.now a.records.now a.words.now a.buffer.now a.line.now
    (sheet a.out.now a.at) in
    let told : (let a = c.args in
    half_asking a.read.letter a.read.values ≡ false) = sym c.asks_half.ensures ∙ c.if-asks_half.false in
    let left : Session = session c.called.result.machine c.called.new.keys c.called.new.times c.called.new.fields c.called.new.records c.called.new.words c.called.new.buffer
    came.line (sheet c.called.new.out c.called.result.at) in
    let a = c.args in
    let bytes = bytes_at a.read a.line.now in
    let s = came in
    ◌∙◌ {a = left} {b = called a.read.letter a.read.values bytes s} c.called.ensures
    (obeys_call a.read.letter a.read.values bytes s c.if-read-eq78.false told c.if-machine.true c.if-read-eq68.false
    c.if-read-eq89.false)

pub returns : goal.returns
returns c =
    let came : Session = let a = c.args in
    session a.machine a.keys.now a.times.now a.fields.now a.records.now a.words.now a.buffer.now a.line.now
    (sheet a.out.now a.at) in
    let told : (let a = c.args in
    half_asking a.read.letter a.read.values ≡ false) = sym c.asks_half.ensures ∙ c.if-asks_half.false in
    ended c.args.machine _ _ _ _ _ _ _ _ _ _ _ _ _ c.wrong-2.ensures
    ∙ obeys_none _ _ _ came c.if-read-eq78.false told c.if-machine.false
