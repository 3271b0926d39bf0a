-- `AskingHandler::leave_gate` meets its contract: group 0 is refused before it is looked for. Assumes nothing.
use Rattle.std.proofs.Common.{refl, sym, eq-eqb}
use Rattle.requests.specs.Requests.{first_refusal, or_next}
use Rattle.asking.specs.Asking.{leave_gate}
use Rattle.asking.proofs.AskingHandler.leave_gate.Goals as goal

pub returns-then-key-eq0 : goal.returns-then-key-eq0
unfolding leave_gate first_refusal or_next
returns-then-key-eq0 c =
    simp (sym c.in_ok-fabric_gate.ensures, eq-eqb _ _ c.if-key-eq0.true) refl
