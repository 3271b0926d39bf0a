-- `script_answers::dump::put_record` meets its contract. Assumes nothing.
use Rattle.text_output.specs.Writing.{writes}
use Rattle.script_answers.proofs.dump.put_record.Goals as goal

pub returns : goal.returns
unfolding writes
returns c =
    cc
