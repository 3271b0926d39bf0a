-- `tlv::encoding::put_octets` meets its contract. Assumes nothing.
use Prim.Native.Nat.{ℕ, ◌+◌}
use mathlib.Core.Path.{ap, ◌∙◌}
use native.Mathlib.Omega.{arith}
use lib.ListN.{length}
use Rattle.text_output.proofs.Writing.{then}
use Rattle.tlv.specs.Elements.{width}
use Rattle.tlv.specs.Encoding.{low_first, context}
use Rattle.tlv.proofs.Codes.{smallest_le, put_same}
use Rattle.tlv.proofs.encoding.put_octets.Goals as goal

pub overflow_add-kind : goal.overflow_add-kind
overflow_add-kind c =
    omega (arith, smallest_le (length c.args.bytes.now))

pub put_head-head-requires : goal.put_head-head-requires
put_head-head-requires c =
    omega (arith, smallest_le (length c.args.bytes.now))

pub returns : goal.returns
returns c =
    let a = c.args in
    then _ _ _ _ _ (put_same (λ (k : ℕ). context a.tag (k + 12)) _ _ _ _ c.put_head-head.ensures c.smallest_of-kind.ensures)
    (then _ _ _ _ _ (put_same (λ (n : ℕ). low_first n (length a.bytes.now)) _ _ _ _ c.put_low-next.ensures (c.width_of.ensures ∙ ap width c.smallest_of-kind.ensures))
    c.put_text.ensures)
