-- The law of gathered lines. Assumes nothing.
use Prim.Native.Nat.{ℕ, ◌+◌, ◌<◌}
use mathlib.Core.Path.{◌≡◌, refl, sym, ap, ◌∙◌}
use mathlib.Core.Bool.{true, false, cond}
use mathlib.Core.List.{List}
use native.Mathlib.Omega.{arith}
use lib.ListN.{length}
use borrow.Author.Tests.{ltb-false}
use Rattle.text_input.specs.declared.lines.Gathered.{Gathered}
use Rattle.text_input.specs.Gathering.{line_end, Gathers}

-- what is gathered from a position within the chunk leaves it further on
pub gathers_on : (chunk line after : List ℕ) (from held : ℕ) (r : Gathered) → Gathers chunk from line held after r → from < length chunk → from < r.next
gathers_on chunk line after from held r g h =
    (elim r.ended as (λ t. r.ended ≡ t → from < r.next) [
      | true ↦ λ e. let n = g.next ∙ ap (λ t. cond t (line_end chunk from + 1) (line_end chunk from)) e in omega arith
      | false ↦ λ e. let n = g.next ∙ ap (λ t. cond t (line_end chunk from + 1) (line_end chunk from)) e in
          let l = ltb-false (line_end chunk from) (length chunk) (sym g.ended ∙ e) in omega arith
    ]) refl
