-- `text_output::output::put_decimal` ends: what is left of the number falls.
use Rattle.text_output.proofs.output.+put_decimal.Given as goal

abbrev pub decreases-put_decimal : goal.decreases-put_decimal
decreases-put_decimal l = l.n
