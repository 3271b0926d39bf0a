-- `field_pairs::put_word` meets its contract. Assumes nothing.
use mathlib.Core.Path.{sym}
use Rattle.text_output.proofs.Writing.{put-fits, put_left_out}
use Rattle.field_pairs.proofs.put_word.Goals as goal

pub returns-then-at-out : goal.returns-then-at-out
returns-then-at-out c =
    sym (put-fits _ _ _ c.if-at-out.true)

pub returns : goal.returns
returns c =
    sym (put_left_out _ _ _ c.if-at-out.false)
