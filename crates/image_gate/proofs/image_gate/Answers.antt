-- `image_gate::image_gate` meets its contract. Assumes nothing.
use Rattle.std.proofs.Common.{◌≡◌, refl, sym, ap, ◌∙◌, Bool, cond, Some, None}
use Rattle.words.specs.Constants.{success, clashing_image}
use Rattle.image_gate.specs.Deciding.{first_fault}
use Rattle.image_gate.proofs.Gating.{gate_answers}
use Rattle.image_gate.proofs.Scanning.{keys_local, records_local}
use Rattle.image_gate.proofs.image_gate.Goals as goal

pub scan-requires-clause-looks_back : goal.scan-requires-clause-looks_back
scan-requires-clause-looks_back c = keys_local

pub scan-requires-2-clause-looks_back : goal.scan-requires-2-clause-looks_back
scan-requires-2-clause-looks_back c = records_local

pub returns-in_default : goal.returns-in_default
unfolding first_fault
returns-in_default c =
    let a = c.args in
    gate_answers a.size a.bytes.now a.entries a.records None _ (sym c.in_default.is ∙ c.scan.ensures) refl

pub returns-in_default-scan : goal.returns-in_default-scan
unfolding first_fault
returns-in_default-scan c =
    let a = c.args in
    gate_answers a.size a.bytes.now a.entries a.records (Some c.in-Some.keys_clash) None (sym c.in-Some.is ∙ c.scan.ensures)
    (sym c.in_default-scan.is ∙ c.scan-2.ensures)

pub returns-then-keys_clash-records_clash : goal.returns-then-keys_clash-records_clash
unfolding first_fault
returns-then-keys_clash-records_clash c =
    let a = c.args in
    ap (λ (b : Bool). cond b clashing_image success) (sym c.if-keys_clash-records_clash.true)
    ∙ gate_answers a.size a.bytes.now a.entries a.records (Some c.in-Some.keys_clash) (Some c.in-Some-scan.records_clash)
    (sym c.in-Some.is ∙ c.scan.ensures)
    (sym c.in-Some-scan.is ∙ c.scan-2.ensures)

pub returns : goal.returns
unfolding first_fault
returns c =
    let a = c.args in
    ap (λ (b : Bool). cond b clashing_image success) (sym c.if-keys_clash-records_clash.false)
    ∙ gate_answers a.size a.bytes.now a.entries a.records (Some c.in-Some.keys_clash) (Some c.in-Some-scan.records_clash)
    (sym c.in-Some.is ∙ c.scan.ensures)
    (sym c.in-Some-scan.is ∙ c.scan-2.ensures)
