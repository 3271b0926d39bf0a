-- `tlv::encoding::put_low` meets its contract. Assumes nothing.
use Prim.Native.Nat.{◌-◌}
use mathlib.Core.Path.{◌≡◌}
use lib.ListN.{length}
use Rattle.text_output.specs.Writing.{sheet, puts}
use Rattle.tlv.specs.Encoding.{low_first}
use Rattle.tlv.proofs.encoding.put_low.Given as goal

-- what is left of the number, put from here on, is the number put from the start
abbrev pub invariant-loop : goal.invariant-loop
invariant-loop l = (length l.out ≡ length l.initial.out) × (puts (low_first l.size l.v) (sheet l.initial.out l.at) ≡ puts (low_first (l.size - l.counter) l.rest) (sheet l.out l.next))
