-- `slots::pass_blocks` meets its contract: below `at` each entry is sound, and no position holds the key word. Assumes nothing.
use Prim.Native.Nat.{ℕ, ◌+◌}
use mathlib.Core.Path.{◌≡◌, sym, ◌∙◌}
use mathlib.Core.Bool.{Bool, not}
use native.Mathlib.Omega.{arith}
use lib.Dec.{eqb}
use lib.ListN.{get_or}
use Rattle.words.proofs.Below.{every_none, every_block, first_none, first_block}
use Rattle.slots.specs.Slots.{first_key, entry_sound}
use Rattle.slots.proofs.Laws.{four_any, eight_any}
use Rattle.slots.proofs.pass_blocks.Goals as goal

pub loop-at-init : goal.loop-at-init
unfolding first_key
loop-at-init c =
    (omega arith, every_none _, first_none _)

pub loop-at-preserved : goal.loop-at-preserved
unfolding first_key
loop-at-preserved c =
    let a = c.args in
    let test : ℕ → Bool = λ k. not (entry_sound a.keys.now a.fields.now k) in
    let four = every_block _ c.loop-at.at 4 (four_any test c.loop-at.at ∙ sym c.unsound_in_block.ensures ∙ c.if-unsound_in_block.false) c.loop-at.invariant.1 in
    let eight = every_block _ (c.loop-at.at + 4) 4 (four_any test (c.loop-at.at + 4) ∙ sym c.unsound_in_block-in-loop-at.ensures ∙ c.if-unsound_in_block-2.false) four in
    let held = eight_any (λ k. eqb (get_or a.keys.now k 0) a.key) c.loop-at.at ∙ sym c.in_block.ensures ∙ c.if-in_block.false in
    let e : c.loop-at.at + 4 + 4 ≡ c.loop-at.at + 8 = omega arith in
    (omega arith, rw (← e) eight, first_block _ _ 8 held c.loop-at.invariant.2)
