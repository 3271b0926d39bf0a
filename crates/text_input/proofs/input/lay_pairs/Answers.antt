-- `text_input::input::lay_pairs` meets its contract. Assumes nothing.
use Prim.Native.Nat.{ℕ, ◌/◌}
use mathlib.Core.Path.{◌≡◌, refl, ap, ◌∙◌}
use native.Mathlib.Omega.{arith}
use lib.ListN.{length}
use Rattle.text_input.specs.Reading.{turned}
use Rattle.std.specs.Prelude.{Ok}
use Rattle.text_input.proofs.Reading.{laid_end, behind-set, pairs_are, pairs_next, pairs_end, pairs_rest}
use Rattle.text_input.proofs.input.lay_pairs.Goals as goal

pub hex_value-high-requires : goal.hex_value-high-requires
hex_value-high-requires c =
    let d = pairs_are c.loop-i.word c.loop-i.i (omega arith) _ _ refl refl c.loop-i.invariant.1 in
    omega (arith, d)

pub hex_value-low-requires : goal.hex_value-low-requires
hex_value-low-requires c =
    let d = pairs_are c.loop-i.word c.loop-i.i (omega arith) _ _ refl refl c.loop-i.invariant.1 in
    omega (arith, d)

pub overflow_mul-word : goal.overflow_mul-word
overflow_mul-word c =
    let d = pairs_are c.loop-i.word c.loop-i.i (omega arith) _ _ c.hex_value-high.ensures c.hex_value-low.ensures c.loop-i.invariant.1 in
    omega arith

pub overflow_add-word : goal.overflow_add-word
overflow_add-word c =
    let d = pairs_are c.loop-i.word c.loop-i.i (omega arith) _ _ c.hex_value-high.ensures c.hex_value-low.ensures c.loop-i.invariant.1 in
    omega arith

pub loop-i-preserved : goal.loop-i-preserved
loop-i-preserved c = (
  c.loop-i.invariant.0 ∙ pairs_next c.loop-i.word c.loop-i.i (omega arith) _ _ c.hex_value-high.ensures c.hex_value-low.ensures,
  pairs_rest c.loop-i.word c.loop-i.i (omega arith) _ _ c.hex_value-high.ensures c.hex_value-low.ensures c.loop-i.invariant.1,
  behind-set c.loop-i.word _ c.loop-i.i _ c.loop-i.invariant.2,
)

pub returns : goal.returns
returns c =
    let n : length c.args.word.now / 2 ≡ c.loop-i.i = omega arith in
    ap (λ (k : ℕ). turned (Ok k) c.loop-i.word) n
    ∙ laid_end _ c.loop-i.word _ c.loop-i.i (omega arith) (c.loop-i.invariant.0 ∙ pairs_end c.loop-i.word c.loop-i.i (omega arith)) c.loop-i.invariant.2
