-- `text_input::input::hex` meets its contract. Assumes nothing.
use Rattle.std.proofs.lemmas.Result.{err_from_is_err_and}
use Rattle.text_input.proofs.Reading.{or_dash_is}
use Rattle.text_input.proofs.input.hex.Goals as goal

pub returns-in_err-is_dash : goal.returns-in_err-is_dash
returns-in_err-is_dash c =
    let e = err_from_is_err_and c.from_residual.result c.from_residual.ensures.1 in
    rw (or_dash_is c.args.word.now _, ← c.is_dash.ensures, c.in_err-is_dash.was, e.1, e.2)

pub returns-then-branch : goal.returns-then-branch
returns-then-branch c =
    rw (or_dash_is c.args.word.now _, ← c.is_dash.ensures, c.in_ok-is_dash.was, c.if-branch.true)

pub returns-then-not-all_pairs : goal.returns-then-not-all_pairs
returns-then-not-all_pairs c =
    rw (or_dash_is c.args.word.now _, ← c.is_dash.ensures, c.in_ok-is_dash.was, c.if-branch.false, ← c.if-not-all_pairs.ensures)

pub returns : goal.returns
returns c =
    rw (or_dash_is c.args.word.now _, ← c.is_dash.ensures, c.in_ok-is_dash.was, c.if-branch.false, ← c.if-not-all_pairs.ensures)
    c.lay_pairs.ensures
