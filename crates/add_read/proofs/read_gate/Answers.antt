-- `add_read::read_gate` meets its contract. Assumes nothing.
use Rattle.std.proofs.Common.{◌≡◌, sym, ◌∙◌}
use Rattle.words.specs.Constants.{success}
use Rattle.requests.specs.Requests.{first_refusal}
use Rattle.add_read.specs.Adding.{early_gates}
use Rattle.add_read.proofs.Laws.{early_gate, read-unread, read_same, read-other}
use Rattle.add_read.proofs.read_gate.Goals as goal

pub returns-in_default : goal.returns-in_default
returns-in_default c =
    let front : success ≡ first_refusal (early_gates c.args.key c.args.time c.args.member) = c.in_ok-add_gate.ensures ∙ early_gate _ _ _ in
    read-unread _ _ _ _ _ (sym front) (sym c.count_pairs.ensures ∙ c.in_default.is)

pub returns-then-n-pairs : goal.returns-then-n-pairs
returns-then-n-pairs c =
    let front : success ≡ first_refusal (early_gates c.args.key c.args.time c.args.member) = c.in_ok-add_gate.ensures ∙ early_gate _ _ _ in
    read_same _ _ _ _ _ (sym front) _ (sym c.count_pairs.ensures ∙ c.in-Some.is) c.if-n-pairs.true

pub returns : goal.returns
returns c =
    let front : success ≡ first_refusal (early_gates c.args.key c.args.time c.args.member) = c.in_ok-add_gate.ensures ∙ early_gate _ _ _ in
    read-other _ _ _ _ _ (sym front) _ (sym c.count_pairs.ensures ∙ c.in-Some.is) c.if-n-pairs.false
