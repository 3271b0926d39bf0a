-- `script_answers::answers::put_ids` meets its contract. Assumes nothing.
use mathlib.Core.Path.{◌≡◌}
use mathlib.Core.List.{[], ◌∷◌}
use lib.ListN.{get_or}
use Rattle.text_output.specs.Writing.{sheet, writes_below, number}
use Rattle.script_answers.proofs.answers.put_ids.Given as goal

abbrev pub invariant-loop-id : goal.invariant-loop-id
invariant-loop-id l = sheet l.out l.next ≡ writes_below (λ k. number (get_or l.buffer k 0) ∷ []) l.id-index (sheet l.initial.out l.at)
