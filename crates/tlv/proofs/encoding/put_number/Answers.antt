-- `tlv::encoding::put_number` meets its contract. Assumes nothing.
use Prim.Native.Nat.{ℕ}
use mathlib.Core.Path.{ap, ◌∙◌}
use native.Mathlib.Omega.{arith}
use Rattle.text_output.proofs.Writing.{then}
use Rattle.tlv.specs.Elements.{width}
use Rattle.tlv.specs.Encoding.{low_first, context}
use Rattle.tlv.proofs.Codes.{smallest_le, put_same}
use Rattle.tlv.proofs.encoding.put_number.Goals as goal

pub put_head-next-requires : goal.put_head-next-requires
put_head-next-requires c =
    omega (arith, smallest_le c.args.v)

pub returns : goal.returns
returns c =
    let a = c.args in
    then _ _ _ _ _ (put_same (context a.tag) _ _ _ _ c.put_head-next.ensures c.smallest_of-kind.ensures)
    (put_same (λ (n : ℕ). low_first n a.v) _ _ _ _ c.put_low.ensures (c.width_of.ensures ∙ ap width c.smallest_of-kind.ensures))
