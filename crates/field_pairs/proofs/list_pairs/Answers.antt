-- `field_pairs::list_pairs` meets its contract. Assumes nothing.
use Prim.Native.Nat.{ℕ}
use mathlib.Core.Path.{◌≡◌, sym, ◌∙◌}
use mathlib.Core.List.{List}
use Rattle.std.proofs.Common.{Some}
use Rattle.field_sets.specs.Reader.{total_of, sets_in}
use Rattle.field_pairs.specs.Listing.{listing_of}
use Rattle.field_pairs.proofs.Laws.{list-unread, list-short, list-fits}
use Rattle.field_pairs.proofs.list_pairs.Goals as goal

pub returns-in_default : goal.returns-in_default
returns-in_default c =
    let bytes : List ℕ = c.args.bytes.now in
    let buffer : List ℕ = c.args.pairs.now in
    (λ i. listing_of (c.refused.ensures i) buffer) ∙ list-unread bytes buffer (sym c.count_pairs.ensures ∙ c.in_default.is)

pub returns-then-pairs-n : goal.returns-then-pairs-n
returns-then-pairs-n c =
    let bytes : List ℕ = c.args.bytes.now in
    let buffer : List ℕ = c.args.pairs.now in
    let total : total_of (sets_in bytes) ≡ Some c.in-Some.n = sym c.count_pairs.ensures ∙ c.in-Some.is in
    (λ i. listing_of (c.refused-then-pairs-n.ensures i) buffer)
    ∙ list-short bytes buffer _ total c.if-pairs-n.true

pub returns : goal.returns
returns c =
    let bytes : List ℕ = c.args.bytes.now in
    let buffer : List ℕ = c.args.pairs.now in
    let total : total_of (sets_in bytes) ≡ Some c.in-Some.n = sym c.count_pairs.ensures ∙ c.in-Some.is in
    list-fits bytes buffer _ total _ _ c.if-pairs-n.false c.put_pairs-len.ensures
