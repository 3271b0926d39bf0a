-- `agree` meets its contract: by `Agreement`, both passes answer the same and leave the same words. Assumes nothing.
use mathlib.Core.Path.{ap, ◌∙◌}
use Prim.Native.Nat.{ℕ}
use mathlib.Core.List.{List}
use Rattle.std.proofs.Common.{rules, tests}
use Rattle.std.proofs.lemmas.Slice.Eq.{bytes_eq-Decides}
use Rattle.words.proofs.Tests.{and_intro}
use Rattle.lifecycle.specs.Lifecycle.{scenable_attribute_changed}
use Rattle.notices_run.specs.Rows.{table_for}
use Rattle.notices_run.proofs.Agreement.{all_typed, agreement}
use Rattle.notices_run.proofs.agree.Goals as goal

pub returns : goal.returns
returns c =
    let same = agreement c.args.endpoint c.args.state c.args.records c.well_formed.1.0.1.0.1 (all_typed c.args.records c.well_formed.1.0.0 c.well_formed.1.0.1.1)
    c.on_structs-s.result.outcome c.on_words-w.result.outcome c.on_structs-s.result.records c.on_words-w.result.words c.on_structs-s.ensures
    (c.on_words-w.ensures ∙ ap (λ (l : List ℕ). scenable_attribute_changed c.args.endpoint (table_for c.args.state l)) c.pack_all.ensures) in
    let outcomes = same.0 in
    and_intro _ _ (search (rules, tests)) (c.eq-2.ensures ∙ (bytes_eq-Decides _ _).1 (c.pack_all-2.ensures ∙ same.1))
