-- `image_load::writing::put_entries` meets its contract. Assumes nothing.
use mathlib.Core.Path.{sym, ◌∙◌}
use native.Mathlib.Omega.{arith}
use Rattle.tlv.proofs.Walks.{member_on}
use Rattle.image_reader.proofs.Bounds.{EntryBounds, entry_bounds}
use Rattle.image_load.proofs.Placing.{fill_over, fill_unread, fill_asks, fill_next}
use Rattle.image_load.proofs.writing.put_entries.Goals as goal

pub returns-in_default-entry_at : goal.returns-in_default-entry_at
returns-in_default-entry_at c =
    fill_unread c.loop-next.invariant _ _ (sym c.member_at.ensures ∙ c.in-Member.is)
    (sym c.entry_at.ensures ∙ c.in_default-entry_at.is)

pub slice_bounds-ext-count : goal.slice_bounds-ext-count
slice_bounds-ext-count c =
    let bounds : EntryBounds c.args.bytes.now c.in-Some.slot = entry_bounds _ (λ i. (c.type_inv.bytes i).fits) _ _
    (sym c.entry_at.ensures ∙ c.in-Some.is) in
    bounds.starts

pub slice_bounds-ext-start : goal.slice_bounds-ext-start
slice_bounds-ext-start c =
    let bounds : EntryBounds c.args.bytes.now c.in-Some.slot = entry_bounds _ (λ i. (c.type_inv.bytes i).fits) _ _
    (sym c.entry_at.ensures ∙ c.in-Some.is) in
    bounds.starts

pub slice_bounds-ext-end : goal.slice_bounds-ext-end
slice_bounds-ext-end c =
    let bounds : EntryBounds c.args.bytes.now c.in-Some.slot = entry_bounds _ (λ i. (c.type_inv.bytes i).fits) _ _
    (sym c.entry_at.ensures ∙ c.in-Some.is) in
    bounds.ends

pub put-requires : goal.put-requires
put-requires c =
    let bounds : EntryBounds c.args.bytes.now c.in-Some.slot = entry_bounds _ (λ i. (c.type_inv.bytes i).fits) _ _
    (sym c.entry_at.ensures ∙ c.in-Some.is) in
    let asks = fill_asks c.loop-next.invariant _ _ (sym c.member_at.ensures ∙ c.in-Member.is) _
    (sym c.entry_at.ensures ∙ c.in-Some.is) bounds in
    record { ext_len_bound = asks.0; at_in_bounds = asks.1.0; at_in_bounds_2 = asks.1.1.0; stride_in_bounds = asks.1.1.1 }

pub loop-next-smaller : goal.loop-next-smaller
loop-next-smaller c =
    omega (arith, member_on _ _ _ _ (sym c.member_at.ensures ∙ c.in-Member.is))

pub loop-next-preserved : goal.loop-next-preserved
loop-next-preserved c =
    let bounds : EntryBounds c.args.bytes.now c.in-Some.slot = entry_bounds _ (λ i. (c.type_inv.bytes i).fits) _ _
    (sym c.entry_at.ensures ∙ c.in-Some.is) in
    fill_next c.loop-next.invariant _ _ (sym c.member_at.ensures ∙ c.in-Member.is) _
    (sym c.entry_at.ensures ∙ c.in-Some.is) _ c.put.ensures bounds

pub returns : goal.returns
returns c = fill_over c.loop-next.invariant _ c.member_at.ensures c.in_default.not-Member
