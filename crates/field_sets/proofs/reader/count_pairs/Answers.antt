-- `field_sets::reader::count_pairs` meets its contract. Assumes nothing.
use mathlib.Core.Path.{sym, ◌∙◌}
use native.Mathlib.Omega.{arith}
use Rattle.field_sets.proofs.SetLaws.{Within, set-within}
use Rattle.field_sets.proofs.ReaderLaws.{total_goes}
use Rattle.field_sets.proofs.reader.count_pairs.Goals as goal

pub overflow_add-total : goal.overflow_add-total
overflow_add-total c =
    let within : Within c.args.bytes.now c.loop-set.at c.in-Set.set.cluster c.in-Set.set.first c.in-Set.set.count c.in-Set.set.next = set-within _ _ _ _ _ _ (sym c.next_set.ensures ∙ c.in-Set.is) in
    let w = within in
    omega (arith, w.roomy, w.inside, c.loop-set.invariant.0)

pub loop-set-smaller : goal.loop-set-smaller
loop-set-smaller c =
    let within : Within c.args.bytes.now c.loop-set.at c.in-Set.set.cluster c.in-Set.set.first c.in-Set.set.count c.in-Set.set.next = set-within _ _ _ _ _ _ (sym c.next_set.ensures ∙ c.in-Set.is) in
    let w = within in
    omega (arith, w.roomy, w.inside)

pub loop-set-preserved : goal.loop-set-preserved
loop-set-preserved c =
    let within : Within c.args.bytes.now c.loop-set.at c.in-Set.set.cluster c.in-Set.set.first c.in-Set.set.count c.in-Set.set.next = set-within _ _ _ _ _ _ (sym c.next_set.ensures ∙ c.in-Set.is) in
    let w = within in (
      omega (arith, w.roomy, c.loop-set.invariant.0),
      w.inside,
      sym (total_goes _ _ _ _ _ _ _ (sym c.next_set.ensures ∙ c.in-Set.is)) ∙ c.loop-set.invariant.2,
    )
