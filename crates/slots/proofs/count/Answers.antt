-- `slots::count` meets its contract: the count is that of the words so far. Assumes nothing.
use Rattle.std.proofs.Common.{arith}
use Rattle.std.proofs.lemmas.Grind.{common_steps}
use Rattle.words.specs.Words.{within}
use Rattle.words.proofs.Below.{count_list}
use Rattle.slots.specs.Slots.{count_keys}
use Rattle.slots.proofs.count.Goals as goal

pub returns : goal.returns
unfolding count_keys
returns c =
    let a = c.args in
    let e = count_list (within a.range) a.keys.now a.n c.requires in
    grind (arith, common_steps)
