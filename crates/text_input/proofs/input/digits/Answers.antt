-- `text_input::input::digits` meets its contract. Assumes nothing.
use Rattle.std.proofs.lemmas.Result.{err_from_is_err_and}
use Rattle.text_input.proofs.Reading.{or_dash_is}
use Rattle.text_input.proofs.input.digits.Goals as goal

pub returns-in_err-is_dash : goal.returns-in_err-is_dash
returns-in_err-is_dash c =
    let e = err_from_is_err_and c.from_residual.result c.from_residual.ensures.1 in
    rw (or_dash_is c.args.word.now _, ← c.is_dash.ensures, c.in_err-is_dash.was, e.1, e.2)

pub returns-then-branch : goal.returns-then-branch
returns-then-branch c =
    rw (or_dash_is c.args.word.now _, ← c.is_dash.ensures, c.in_ok-is_dash.was, c.if-branch.true)

pub returns-then-not-all_digits : goal.returns-then-not-all_digits
returns-then-not-all_digits c =
    rw (or_dash_is c.args.word.now _, ← c.is_dash.ensures, c.in_ok-is_dash.was, c.if-branch.false, ← c.if-not-all_digits.ensures)

pub returns : goal.returns
returns c =
    rw (or_dash_is c.args.word.now _, ← c.is_dash.ensures, c.in_ok-is_dash.was, c.if-branch.false, ← c.if-not-all_digits.ensures)
    c.lay_digits.ensures
