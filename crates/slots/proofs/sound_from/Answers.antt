-- `slots::sound_from` meets its contract: each entry below i is sound. Assumes nothing.
use mathlib.Core.Path.{◌≡◌, sym, ◌∙◌}
use native.Mathlib.Omega.{arith}
use Rattle.words.proofs.Tests.{not_false, not_true}
use Rattle.words.proofs.Below.{every_both, every_more, every_fails}
use Rattle.slots.specs.Slots.{keys_sound, lengths_sound}
use Rattle.slots.proofs.sound_from.Goals as goal

pub returns-then-is_unsound : goal.returns-then-is_unsound
unfolding keys_sound lengths_sound
returns-then-is_unsound c =
    sym (every_fails _ _ c.loop-i.i c.loop-i-test.true (not_true _ (sym c.is_unsound.ensures ∙ c.if-is_unsound.true))) ∙ every_both _ _ _

pub loop-i-preserved : goal.loop-i-preserved
loop-i-preserved c =
    every_more _ _ c.loop-i.invariant (not_false _ (sym c.is_unsound.ensures ∙ c.if-is_unsound.false))

pub returns : goal.returns
unfolding keys_sound lengths_sound
returns c =
    let e : c.loop-i.i ≡ c.args.n = omega (arith, c.requires.from_le_n) in
    rw (← e) (sym c.loop-i.invariant ∙ every_both _ _ _)
