-- `slots::sound_blocks` meets its contract: each entry below i is sound. Assumes nothing.
use mathlib.Core.Path.{sym, ◌∙◌}
use mathlib.Core.Bool.{not}
use native.Mathlib.Omega.{arith}
use Rattle.words.proofs.Below.{every_block}
use Rattle.slots.specs.Slots.{entry_sound}
use Rattle.slots.proofs.Laws.{four_any}
use Rattle.slots.proofs.sound_blocks.Goals as goal

pub loop-i-preserved : goal.loop-i-preserved
loop-i-preserved c =
    let a = c.args in
    let none = four_any (λ i. not (entry_sound a.keys.now a.fields.now i)) c.loop-i.i ∙ sym c.unsound_in_block.ensures ∙ c.if-unsound_in_block.false in
    (omega arith, every_block _ _ 4 none c.loop-i.invariant.1)
