-- What is read of the head and the lent lists is what the views show: lookups, counts and lengths. Assumes nothing.
use Prim.Native.Nat.{ℕ}
use mathlib.Core.Path.{◌≡◌, refl, sym, ap, ◌∙◌}
use mathlib.Core.Bool.{Bool, true}
use mathlib.Core.List.{map}
use mathlib.Core.Option.{some}
use native.Mathlib.Omega.{arith}
use lib.ListN.{length, get_or}
use lib.Seq.{length-take-le}
use Rattle.words.specs.Below.{positions, first_below}
use Rattle.words.specs.Words.{within}
use Rattle.std.specs.Prelude.{Option, Some, None, is_some}
use Rattle.words.specs.declared.KeyRange.{KeyRange}
use Rattle.words.proofs.Below.{first_under}
use Rattle.slots.specs.Slots.{entry_at, first_key, count_keys}
use Rattle.records.specs.declared.Scope.{Scope}
use Rattle.records.specs.Records.{first_owned, hits, any_hit}
use Rattle.state.specs.Table.{Table, entries_in, records_in}
use Rattle.state.specs.Sound.{sound}
use Rattle.state.proofs.Laws.{sound-room}
use Rattle.observation.specs.Lists.{count, find}
use Rattle.observation.specs.Equivalence.{key_is}
use Rattle.observation.proofs.Lists.{found, has}
use Rattle.observation.proofs.Lookups.{holds, owned_by, found_at}
use Rattle.observation.proofs.Counts.{count_map, has_map}
use Rattle.observation.proofs.Firsts.{find_first, find_nowhere}
use Rattle.observation.proofs.Positions.{count-positions, has_positions, view-length, view_at, view-list, view_first, view_nowhere}

-- ---- a list by its elements

module _ {A : Type 0} (d : A) (g : ℕ → A) (h : A → Bool) (n : ℕ) where
  find-view : find h (map g (positions n)) ≡ found_at g (first_below (λ i. h (g i)) n)
  find-view =
      (elim (first_below (λ i. h (g i)) n) as (λ f. first_below (λ i. h (g i)) n ≡ f → find h (map g (positions n)) ≡ found_at g f) [
        | Some p ↦ λ e.
            let f = view_first d g h n p e in
            find_first d h (map g (positions n)) p f ∙ ap some (view_at g d n p (first_under _ n p e).0)
        | None ↦ λ e. find_nowhere d h (map g (positions n)) (view_nowhere d g h n e)
      ]) refl

has_found : {A : Type 0} (g : ℕ → A) (f : Option ℕ) → found (found_at g f) ≡ is_some f
has_found g (Some p) = refl
has_found g None = refl

-- ---- the entries

module _ (t : Table) where
  pub entries-length : length (entries_in t) ≡ t.state.entries
  unfolding entries_in
  entries-length = view-length (entry_at t.slots) t.state.entries

  pub entries-count : (r : KeyRange) → count_keys t.slots.keys t.state.entries r ≡ count (holds r) (entries_in t)
  unfolding entries_in count_keys
  entries-count r =
      count-positions (λ i. within r (get_or t.slots.keys i 0)) t.state.entries
      ∙ sym (count_map (holds r) (entry_at t.slots) (positions t.state.entries))

  module _ (k : ℕ) where
    pub entries-find : find (key_is k) (entries_in t) ≡ found_at (entry_at t.slots) (first_key t.slots.keys t.state.entries k)
    unfolding entries_in first_key
    entries-find = find-view (entry_at t.slots 0) (entry_at t.slots) (key_is k) t.state.entries

    pub entries_has : has (key_is k) (entries_in t) ≡ is_some (first_key t.slots.keys t.state.entries k)
    entries_has = ap found entries-find ∙ has_found (entry_at t.slots) (first_key t.slots.keys t.state.entries k)

-- ---- the records

module _ (t : Table) (sd : sound t ≡ true) where
  pub records-list : map (λ i. get_or t.records i 0) (positions t.state.recorded) ≡ records_in t
  unfolding records_in
  records-list = let r = sound-room t sd in view-list t.records t.state.recorded (omega arith)

  pub records-length : length (records_in t) ≡ t.state.recorded
  unfolding records_in
  records-length = let r = sound-room t sd in length-take-le t.state.recorded t.records (omega arith)

  pub records-find : (f e : ℕ) → find (owned_by f e) (records_in t) ≡ found_at (λ i. get_or t.records i 0) (first_owned t.records t.state.recorded f e)
  unfolding first_owned
  records-find f e =
      ap (find (owned_by f e)) (sym records-list) ∙ find-view 0 (λ i. get_or t.records i 0) (owned_by f e) t.state.recorded

  pub records_has : (f e : ℕ) → has (owned_by f e) (records_in t) ≡ is_some (first_owned t.records t.state.recorded f e)
  records_has f e = ap found (records-find f e) ∙ has_found (λ i. get_or t.records i 0) (first_owned t.records t.state.recorded f e)

  pub records_hit : (scope : Scope) → any_hit scope t.records t.state.recorded ≡ has (hits scope) (records_in t)
  unfolding any_hit
  records_hit scope =
      has_positions (λ i. hits scope (get_or t.records i 0)) t.state.recorded
      ∙ sym (has_map (hits scope) (λ i. get_or t.records i 0) (positions t.state.recorded))
      ∙ ap (has (hits scope)) records-list
