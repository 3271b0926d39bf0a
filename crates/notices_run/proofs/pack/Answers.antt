-- `pack` meets its contract. Assumes nothing.
use Rattle.notices_run.proofs.pack.Goals as goal

pub returns-then-c : goal.returns-then-c
returns-then-c c =
    simp (c.valid_record.ensures, c.if-c.true)

pub returns : goal.returns
returns c =
    simp (c.word.ensures, c.if-c.false)
