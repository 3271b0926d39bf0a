-- `script_machine::Machine::parsed` meets its contract. Assumes nothing.
use Rattle.std.proofs.Common.{refl, ◌∙◌}
use Rattle.text_output.specs.Writing.{sheet}
use Rattle.script_sets.specs.Texts.{sets_line}
use Rattle.script_machine.proofs.Machine.parsed.Goals as goal

pub returns : goal.returns
returns c =
    let a = c.args in
    let out = sheet a.out.now a.at in
    record {
      machine = refl;
      output =
          ◌∙◌ {b = sets_line a.self.trace a.self.state c.part-bytes.result.now out} c.put_sets.ensures
          (λ i. sets_line a.self.trace a.self.state (c.part-bytes.ensures i) out);
    }
