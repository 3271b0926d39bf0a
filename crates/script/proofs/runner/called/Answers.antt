-- `script::runner::called` meets its contract. Assumes nothing.
use Rattle.text_output.specs.Writing.{sheet}
use Rattle.groups.specs.Groups.{Groups, groups_of}
use Rattle.script_lines.specs.Values.{bytes_at}
use Rattle.script_groups.specs.Calls.{GroupCalled}
use Rattle.script.specs.Calls.{any_call}
use Rattle.script.specs.Running.{Session, session, table_in, groups_in}
use Rattle.script.proofs.RunLaws.{answer-fits, called-ends}
use Rattle.script.proofs.runner.called.Goals as goal

pub put_answer-requires : goal.put_answer-requires
put_answer-requires c =
    let held : Groups = groups_of c.any_call-done.result.groups c.any_call-done.new.words in
    answer-fits c.any_call-done.result.answer _ _ held _ _ _ _ _ _ c.any_call-done.ensures

pub returns : goal.returns
returns c =
    let came : Session = let a = c.args in
    session a.machine a.keys.now a.times.now a.fields.now a.records.now a.words.now a.buffer.now a.line.now
    (sheet a.out.now a.at) in
    let left : GroupCalled = let a = c.args in
    any_call a.read.letter a.read.values (bytes_at a.read a.line.now) a.buffer.now (groups_in came) (table_in came) in
    let held : Groups = groups_of c.any_call-done.result.groups c.any_call-done.new.words in
    called-ends came _ c.any_call-done.result.answer held _ _ _ _ _ _ left c.put_answer.ensures c.any_call-done.ensures
