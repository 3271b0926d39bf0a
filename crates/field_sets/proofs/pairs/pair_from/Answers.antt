-- `field_sets::pairs::pair_from` meets its contract. Assumes nothing.
use mathlib.Core.Path.{◌≡◌, sym, ap, ◌∙◌}
use Rattle.std.proofs.Common.{ℕ, Option}
use Rattle.field_sets.specs.Pairs.{pair_of}
use Rattle.field_sets.proofs.PairLaws.{paired_from, pair_ends}
use Rattle.field_sets.proofs.pairs.pair_from.Goals as goal
use Rattle.field_sets.proofs.pairs.pair_from.Goals.{Then-h-eq-END_CNT}

-- at its end a pair is what was read of it
ended : (c : Then-h-eq-END_CNT) → paired_from c.args.bytes.now c.loop-h.so c.loop-h.i ≡ pair_of c.loop-h.so c.in_ok-h.h.next
ended c = pair_ends _ _ _ _ (sym c.element_at.ensures ∙ c.in_ok-h.was) c.if-h-eq-END_CNT.true

pub returns-in_err-so : goal.returns-in_err-so
returns-in_err-so c =
    c.from_residual-in_err-so.ensures
    ∙ sym (ap (λ (r : Option ℕ). pair_of r c.in_ok-h.h.next) c.in_err-so.was)
    ∙ sym (ended (goal.at.returns-in_err-so c).Then-h-eq-END_CNT)
    ∙ c.loop-h.invariant

pub returns-then-h-eq-END_CNT : goal.returns-then-h-eq-END_CNT
returns-then-h-eq-END_CNT c =
    sym (ap (λ (r : Option ℕ). pair_of r c.in_ok-h.h.next) c.in_ok-so.was)
    ∙ sym (ended (goal.at.returns-then-h-eq-END_CNT c).Then-h-eq-END_CNT)
    ∙ c.loop-h.invariant
