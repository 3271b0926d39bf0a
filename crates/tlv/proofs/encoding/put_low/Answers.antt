-- `tlv::encoding::put_low` meets its contract. Assumes nothing.
use mathlib.Core.Path.{sym, ap, ◌∙◌}
use native.Mathlib.Omega.{arith}
use Rattle.text_output.specs.Writing.{puts}
use Rattle.tlv.proofs.Codes.{low_more, low_none}
use Rattle.tlv.proofs.encoding.put_low.Goals as goal

pub loop-preserved : goal.loop-preserved
loop-preserved c = (
  c.put-next.auto.out ∙ c.loop.invariant.0,
  c.loop.invariant.1 ∙ low_more _ _ _ _ (omega arith) ∙ ap (puts _) (sym c.put-next.ensures),
)

pub returns : goal.returns
returns c =
    sym (c.loop.invariant.1 ∙ low_none _ _ _ (omega arith))
