-- `tlv::elements::element_at` meets its contract. Assumes nothing.
use mathlib.Core.Path.{◌≡◌, sym, ◌∙◌}
use mathlib.Core.Bool.{true}
use native.Mathlib.Omega.{arith}
use Rattle.tlv.specs.Elements.{known, control_at, length_from, value_from, value_end}
use Rattle.tlv.proofs.Heads.{element_short}
use Rattle.tlv.proofs.elements.element_at.Goals as goal

pub returns-then-bytes-at-2 : goal.returns-then-bytes-at-2
unfolding length_from value_from value_end
returns-then-bytes-at-2 c =
    let is_known : known (control_at c.args.bytes.now c.args.at) ≡ true = sym c.is_known.ensures ∙ c.if-not-is_known.false in
    sym (element_short _ _ (omega arith) is_known (omega arith))

pub returns-then-bytes-value : goal.returns-then-bytes-value
unfolding length_from value_from value_end
returns-then-bytes-value c =
    let is_known : known (control_at c.args.bytes.now c.args.at) ≡ true = sym c.is_known.ensures ∙ c.if-not-is_known.false in
    sym
    (element_short _ _ (omega arith) is_known (omega (arith, rw c.tag_size-tag_bytes.ensures at c.value_size-size.ensures)))
