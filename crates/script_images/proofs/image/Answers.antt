-- `script_images::image` meets its contract. Assumes nothing.
use borrow.Author.Tests.{eq-eqb, ne_eqb}
use Rattle.script_answers.specs.Done.{called_of}
use Rattle.script_images.specs.Images.{image}
use Rattle.script_images.proofs.image.Goals as goal

pub returns-then-read-eq80 : goal.returns-then-read-eq80
unfolding image
returns-then-read-eq80 c =
    rw (eq-eqb _ _ c.if-read-eq80.true) c.save_in.ensures

pub returns : goal.returns
unfolding image
returns c =
    rw (ne_eqb _ _ c.if-read-eq80.false) (λ i. called_of (c.load.ensures i) c.args.buffer.now)
