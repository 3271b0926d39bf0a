-- `text_input::input::all_pairs` meets its contract. Assumes nothing.
use Prim.Native.Nat.{◌%◌}
use mathlib.Core.Path.{◌≡◌}
use native.Mathlib.Omega.{arith}
use lib.ListN.{length}
use Rattle.std.proofs.Common.{rules, tests, eq-eqb, ne_eqb}
use Rattle.std.specs.Char.{is_ascii_hexdigit}
use Rattle.std.proofs.lemmas.Iterator.{YieldsList-from_slice}
use Rattle.std.proofs.lemmas.Iterator.Search.{all_from_yields_List}
use Rattle.std.specs.List.{list_all}
use Rattle.text_input.proofs.Reading.{pairs_tested}
use Rattle.text_input.proofs.input.all_pairs.Goals as goal

pub returns-then-word-eq0 : goal.returns-then-word-eq0
returns-then-word-eq0 c =
    let all : c.all.result ≡ list_all is_ascii_hexdigit c.args.word.now =
    all_from_yields_List is_ascii_hexdigit _ _ _ c.all.ensures.ran (YieldsList-from_slice c.args.word.now cc) (λ x b q k. search (rules, tests)) in
    rw (pairs_tested c.args.word.now, eq-eqb (length c.args.word.now % 2) 0 (omega arith)) all

pub returns-else-word-eq0 : goal.returns-else-word-eq0
returns-else-word-eq0 c =
    rw (pairs_tested c.args.word.now, ne_eqb (length c.args.word.now % 2) 0 (omega arith))
