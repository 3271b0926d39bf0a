-- `script_events::writes::set_version` meets its contract. Assumes nothing.
use mathlib.Core.Path.{ap, ◌∙◌}
use Rattle.words.specs.Constants.{success}
use Rattle.state.specs.Table.{table_of}
use Rattle.script_answers.specs.declared.Answer.{Answer}
use Rattle.script_answers.specs.Done.{done_of}
use Rattle.script_events.specs.Writes.{raw, with_version, set_version}
use Rattle.script_events.proofs.writes.set_version.Goals as goal

pub returns : goal.returns
unfolding set_version
returns c =
    λ k t f w. ap (λ (a : Answer). done_of a (table_of a.state k t f w)) c.raw.ensures
    ∙ (λ i. raw success (with_version (c.long.ensures i) (table_of c.args.state k t f w)))
