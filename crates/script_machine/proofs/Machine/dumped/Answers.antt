-- `script_machine::Machine::dumped` meets its contract: the memberships' lines follow the table's. Assumes nothing.
use Rattle.std.proofs.Common.{refl, ap, ◌∙◌}
use Rattle.script_answers.specs.Dump.{group_lines}
use Rattle.script_machine.proofs.Machine.dumped.Goals as goal

pub returns : goal.returns
returns c =
    let a = c.args in
    record {
      machine = refl;
      output = c.put_groups.ensures ∙ ap (group_lines a.self.groups.held a.words.now) c.put_table-table.ensures;
    }
