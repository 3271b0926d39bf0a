-- `script_images::load` meets its contract. Assumes nothing.
use mathlib.Core.Path.{◌∙◌}
use Rattle.state.specs.Table.{Table, table_of}
use Rattle.image_load.specs.Loading.{load_image}
use Rattle.script_answers.specs.Done.{plain}
use Rattle.script_answers.proofs.DoneLaws.{plain_done}
use Rattle.script_images.specs.Images.{load}
use Rattle.script_images.proofs.load.Goals as goal

pub returns : goal.returns
unfolding load
returns c =
    let came : Table = let a = c.args in
    table_of a.state a.keys.now a.times.now a.fields.now a.records.now in
    plain_done _ _ _ _ _ _ (load_image c.part-bytes.result.now came) c.plain.ensures c.load_image.ensures
    ∙ (λ i. plain (load_image (c.part-bytes.ensures i) came))
