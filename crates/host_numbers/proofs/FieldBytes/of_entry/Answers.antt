-- `FieldBytes::of_entry` meets its contract. Assumes nothing.
use Prim.Native.Nat.{◌<◌}
use native.Mathlib.Omega.{arith}
use borrow.Author.Tests.{eq-eqb, ne_eqb}
use Rattle.words.specs.Constants.{max_scenes}
use Rattle.host_numbers.specs.Fields.{place_of}
use Rattle.host_numbers.proofs.FieldBytes.of_entry.Goals as goal

pub returns-then-len-eq0 : goal.returns-then-len-eq0
unfolding place_of
returns-then-len-eq0 c =
    simp (eq-eqb _ _ c.if-len-eq0.true)

pub overflow_mul-offset : goal.overflow_mul-offset
overflow_mul-offset c =
    let below : c.args.at < max_scenes = c.requires c.if-len-eq0.false in
    omega (arith, below)

pub overflow_add-offset : goal.overflow_add-offset
overflow_add-offset c =
    let below : c.args.at < max_scenes = c.requires c.if-len-eq0.false in
    omega (arith, below)

pub returns : goal.returns
unfolding place_of
returns c =
    simp (ne_eqb _ _ c.if-len-eq0.false)
