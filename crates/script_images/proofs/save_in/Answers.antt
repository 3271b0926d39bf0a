-- `script_images::save_in` meets its contract. Assumes nothing.
use Rattle.state.specs.declared.ScenesState.{ScenesState}
use Rattle.state.specs.Table.{Table, table_of}
use Rattle.script_lines.specs.Values.{value_at}
use Rattle.script_answers.specs.Done.{done_of}
use Rattle.script_answers.proofs.DoneLaws.{in_front_lem}
use Rattle.script_images.specs.Images.{save, save_in}
use Rattle.script_images.proofs.save_in.Goals as goal

pub returns : goal.returns
unfolding save_in
returns c =
    let came : ScenesState → Table = λ state. let a = c.args in
    table_of state a.keys.now a.times.now a.fields.now a.records.now in
    let a = c.args in
    in_front_lem (λ b. save b (came a.state)) (value_at a.read.values 0) a.buffer.now _
    (done_of c.save.result (came c.save.result.state)) _ c.min-n.ensures c.save.ensures
