-- A command's answer has no tail, so that it fits. Assumes nothing.
use Prim.Native.Nat.{ℕ}
use mathlib.Core.List.{List}
use lib.Dec.{eqb}
use Rattle.state.specs.Table.{Table}
use Rattle.script_answers.specs.Answers.{fits}
use Rattle.script_answers.proofs.DoneLaws.{fit_done}
use Rattle.script_commands.specs.Commands.{add, add_read, store, remove, remove_all, copy, command}

pub command-fits : (letter : ℕ) (values : List ℕ) (bytes : ℕ → List ℕ) (t : Table) → fits (command letter values bytes t).tail
unfolding command add add_read store remove remove_all copy
command-fits letter values bytes t =
    fit_done (eqb letter 65) _ _ tt (fit_done (eqb letter 66) _ _ tt (fit_done (eqb letter 83) _ _ tt
    (fit_done (eqb letter 82) _ _ tt (fit_done (eqb letter 88) _ _ tt tt))))
