-- `text_input::input::hex_value` meets its contract. Assumes nothing.
use Rattle.std.proofs.Common.{arith, tests}
use Rattle.text_input.proofs.Reading.{hex_read}
use Rattle.text_input.proofs.input.hex_value.Goals as goal

pub unwrap-requires : goal.unwrap-requires
unwrap-requires c =
    c.to_digit.ensures.succeeds (let h = hex_read _ c.requires in omega arith)

pub returns : goal.returns
returns c =
    let h = hex_read _ c.requires in
    let s = c.to_digit.ensures.value in
    grind (arith, tests)
