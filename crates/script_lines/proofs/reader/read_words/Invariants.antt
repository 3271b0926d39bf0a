-- `script_lines::reader::read_words` meets its contract. Assumes nothing.
use Prim.Native.Nat.{◌≤◌}
use mathlib.Core.Path.{◌≡◌}
use mathlib.Core.List.{◌++◌}
use lib.ListN.{length, take, drop}
use Rattle.script_lines.specs.Lines.{words_left}
use Rattle.script_lines.proofs.LineLaws.{Says}
use Rattle.script_lines.proofs.reader.read_words.Given as goal

abbrev pub invariant-loop-i : goal.invariant-loop-i
invariant-loop-i l = (l.at ≤ length l.initial.line)
    × (length l.values ≡ 10)
    × (length l.starts ≡ 10)
    × Says l.trace l.letter l.kind-items l.values l.starts l.line l.at l.i (drop l.start l.initial.line)
    × (take l.start l.initial.line ++ words_left l.trace l.kind-items (drop l.start l.initial.line) ≡ take l.at l.line ++ words_left l.trace (drop l.i l.kind-items) (drop l.at l.line))
