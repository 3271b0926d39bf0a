-- `records::records_sound` meets its contract: it has looked at each word. Assumes nothing.
use Rattle.std.proofs.Common.{arith}
use Rattle.std.proofs.lemmas.Grind.{common_steps}
use Rattle.words.proofs.Below.{every_list}
use Rattle.records.specs.Records.{record_sound, records_sound}
use Rattle.records.proofs.records_sound.Goals as goal

pub returns : goal.returns
unfolding records_sound
returns c =
    let e = every_list record_sound c.args.records.now c.args.n c.requires in
    grind (arith, common_steps)
