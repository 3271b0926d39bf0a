-- `script_sets::put_each` meets its contract: what is still to be written makes one sheet of another, step by step. Assumes nothing.
use Prim.Native.Nat.{◌+◌, ◌-◌}
use mathlib.Core.Path.{◌≡◌}
use mathlib.Core.List.{[]}
use lib.ListN.{length}
use Rattle.std.proofs.Common.{unwrap_or}
use Rattle.text_output.specs.Writing.{sheet, puts}
use Rattle.field_sets.specs.Reader.{sets_in}
use Rattle.script_sets.specs.Texts.{each_text}
use Rattle.script_sets.proofs.Showing.{Ahead}
use Rattle.script_sets.proofs.put_each.Given as goal

abbrev pub invariant-loop-next : goal.invariant-loop-next
invariant-loop-next l = (length l.out ≡ length l.initial.out) ×
    Ahead l.bytes l.cursor (sheet l.out l.next) (puts (each_text (unwrap_or (sets_in l.bytes) [])) (sheet l.initial.out l.at))

-- the pairs that are left, and the bytes behind the next set
abbrev pub decreases-loop-next : goal.decreases-loop-next
decreases-loop-next l = length l.bytes - l.cursor.set + l.cursor.left
