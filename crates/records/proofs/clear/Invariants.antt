-- `records::clear` meets its contract: the words so far are invalidated, and `any` says whether one was hit. Assumes nothing.
use Prim.Native.Nat.{ℕ, ◌<◌}
use mathlib.Core.Path.{◌≡◌, ap, ◌∙◌}
use mathlib.Core.Bool.{Bool}
use mathlib.Core.List.{List}
use lib.ListN.{get_or, take}
use lib.Seq.{get_or-take}
use Rattle.records.specs.declared.Scope.{Scope}
use Rattle.records.specs.Records.{invalidated, any_hit}
use Rattle.records.proofs.Laws.{invalidated_here}
use Rattle.records.proofs.clear.Given as goal

-- of the first n words of l, as they stand now
pub record Turn (l : List ℕ) (n : ℕ) (scope : Scope) (words : List ℕ) (any : Bool) (i : ℕ) : Type 0 where
  pub done : words ≡ invalidated scope i (take n l)
  pub told : any ≡ any_hit scope l i

-- the word at the loop's index is the one that came in
pub here : (l : List ℕ) (n : ℕ) (scope : Scope) (words : List ℕ) (any : Bool) (i : ℕ) → i < n → Turn l n scope words any i → get_or words i 0 ≡ get_or l i 0
here l n scope words any i h t =
    ap (λ (r : List ℕ). get_or r i 0) t.done ∙ invalidated_here scope (take n l) i ∙ get_or-take n l i 0 h

abbrev pub invariant-loop-word : goal.invariant-loop-word
invariant-loop-word l = Turn l.fn.records l.n l.scope l.word-items l.any l.word-index
