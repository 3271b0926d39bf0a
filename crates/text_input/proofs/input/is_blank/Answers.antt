-- `text_input::input::is_blank` meets its contract. Assumes nothing.
use Rattle.std.proofs.Common.{arith, tests}
use Rattle.text_input.specs.Reading.{blank}
use Rattle.text_input.proofs.input.is_blank.Goals as goal

pub returns-in-32 : goal.returns-in-32
unfolding blank
returns-in-32 c =
    grind (arith, tests)

pub returns-in_default : goal.returns-in_default
unfolding blank
returns-in_default c =
    grind (arith, tests)
