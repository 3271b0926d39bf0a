-- `text_output::output::put_decimal` meets its contract. Assumes nothing.
use mathlib.Core.Path.{sym, ◌∙◌}
use native.Mathlib.Omega.{arith}
use Rattle.text_output.proofs.Writing.{then, puts_one, decimal_one, decimal_more}
use Rattle.text_output.proofs.output.+put_decimal.Goals as goal

pub returns-then-n-lt10 : goal.returns-then-n-lt10
returns-then-n-lt10 t c = rw (decimal_one _ c.if-n-lt10.true) (c.put.ensures ∙ sym (puts_one _ _))

pub returns : goal.returns
returns t c =
    rw (decimal_more _ c.if-n-lt10.false (omega arith)) (then _ _ _ _ _ c.put_decimal-next.ensures (c.put-2.ensures ∙ sym (puts_one _ _)))
