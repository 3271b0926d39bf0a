-- `slots::count_fits` meets its contract. Assumes nothing.
use Prim.Native.Nat.{◌≤◌}
use mathlib.Core.Path.{sym}
use native.Mathlib.Omega.{arith}
use lib.ListN.{get_or}
use borrow.Author.Tests.{le-leb}
use Rattle.words.specs.Words.{within}
use Rattle.words.proofs.Below.{count_le}
use Rattle.slots.specs.Slots.{count_keys}
use Rattle.slots.proofs.count_fits.Goals as goal

pub returns-then-n-most : goal.returns-then-n-most
unfolding count_keys
returns-then-n-most c =
    let a = c.args in
    let h : count_keys a.keys.now a.n a.range ≤ a.most = omega (arith, count_le (λ i. within a.range (get_or a.keys.now i 0)) a.n) in
    sym (le-leb _ _ h)
