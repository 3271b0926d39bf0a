-- `text_input::input::lay_digits` meets its contract. Assumes nothing.
use Prim.Native.Nat.{ℕ, ◌+◌}
use mathlib.Core.Path.{◌≡◌, ap, ◌∙◌}
use native.Mathlib.Omega.{arith}
use lib.ListN.{length}
use lib.Seq.{drop-set-lt}
use Rattle.std.specs.Prelude.{Ok}
use Rattle.text_input.specs.Reading.{all_digits, turned}
use Rattle.text_input.proofs.Reading.{laid_end, behind-set, digits_end, digits_next, digit_here}
use Rattle.text_input.proofs.input.lay_digits.Goals as goal

pub overflow_sub-b : goal.overflow_sub-b
overflow_sub-b c =
    (digit_here c.loop-b.word c.loop-b.b-index (omega arith) c.loop-b.invariant.2).0

pub loop-b-preserved : goal.loop-b-preserved
loop-b-preserved c =
    let d = digit_here c.loop-b.word c.loop-b.b-index (omega arith) c.loop-b.invariant.2 in (
      c.loop-b.invariant.0 ∙ digits_next c.loop-b.word c.loop-b.b-index (omega arith) _ d.1,
      behind-set c.loop-b.word _ c.loop-b.b-index _ c.loop-b.invariant.1,
      ap all_digits (drop-set-lt (c.loop-b.b-index + 1) c.loop-b.word c.loop-b.b-index _ (omega arith)) ∙ d.2,
    )

pub returns : goal.returns
returns c =
    let n : length c.loop-b.word ≡ c.loop-b.b-index = omega arith in
    ap (λ (k : ℕ). turned (Ok k) c.loop-b.word) n
    ∙ laid_end _ c.loop-b.word _ c.loop-b.b-index (omega arith) (c.loop-b.invariant.0 ∙ digits_end c.loop-b.word c.loop-b.b-index (omega arith)) c.loop-b.invariant.1
