-- `text_input::input::next_word` meets its contract. Assumes nothing.
use Rattle.std.proofs.Common.{rules, tests}
use Prim.Native.Nat.{◌+◌}
use mathlib.Core.Path.{◌≡◌, ◌∙◌}
use lib.ListN.{drop}
use Rattle.std.proofs.lemmas.Iterator.{YieldsList-from_slice}
use Rattle.std.proofs.lemmas.Iterator.Consumers.{count_from_yields_List, YieldsList-at}
use Rattle.std.proofs.lemmas.Iterator.Search.{YieldsList-from_take_while}
use Rattle.std.proofs.lemmas.List.Folds.{length-prefix_len}
use Rattle.std.specs.List.{prefix_len}
use Rattle.text_input.specs.Reading.{blank, in_word}
use Rattle.text_input.proofs.input.next_word.Goals as goal

pub returns : goal.returns
returns c =
    let line = c.args.line.now in
    let at = c.args.at in
    let from : c.count.result ≡ prefix_len blank (drop at line) =
    count_from_yields_List c.take_while.result _ c.count.ensures.ran
    (YieldsList-from_take_while _ blank (YieldsList-at c.take_while.ensures.source (YieldsList-from_slice (drop at line) cc))
    c.take_while.ensures.closure c.take_while.ensures.done (λ x b q k. search (rules, tests)))
    ∙ length-prefix_len blank (drop at line) in
    let to : c.count-2.result ≡ prefix_len in_word (drop (at + c.count.result) line) =
    count_from_yields_List c.take_while-2.result _ c.count-2.ensures.ran
    (YieldsList-from_take_while _ in_word (YieldsList-at c.take_while-2.ensures.source (YieldsList-from_slice (drop (at + c.count.result) line) cc))
    c.take_while-2.ensures.closure c.take_while-2.ensures.done (λ x b q k. search (rules, tests)))
    ∙ length-prefix_len in_word (drop (at + c.count.result) line) in
    rw (to, from)
