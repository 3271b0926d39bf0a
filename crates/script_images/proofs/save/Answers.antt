-- `script_images::save` meets its contract. Assumes nothing.
use Rattle.script_images.specs.Images.{save}
use Rattle.script_images.proofs.ImageLaws.{saved-done}
use Rattle.script_images.proofs.save.Goals as goal

pub returns : goal.returns
unfolding save
returns c =
    saved-done _ _ _ _ c.args.state _ c.save_image-saved.result _ c.args.buffer.now c.image_tail.ensures c.save_image-saved.ensures
