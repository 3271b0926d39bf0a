-- `commands::end_capture` meets its contract: the bytes are copied, and the end stands behind them. Assumes nothing.
use Prim.Native.Nat.{ℕ, ◌+◌}
use mathlib.Core.Path.{refl, ap, ◌∙◌}
use mathlib.Core.List.{List, [], ◌∷◌, ◌++◌}
use native.Mathlib.Numerals.{add-one}
use native.Mathlib.Omega.{arith}
use lib.ListN.{length, take, drop, set, length-append, length-drop}
use lib.Seq.{take-suc-set, take-append_seam}
use Rattle.words.specs.Constants.{end_of_container}
use Rattle.commands.proofs.end_capture.Goals as goal

pub returns : goal.returns
returns c =
    let n = length c.args.captured.now in
    let rest = drop n c.args.scratch.now in
    let l = c.args.captured.now ++ rest in (
      refl,
      ap (λ (s : List ℕ). take (n + 1) (set (s ++ rest) n end_of_container)) c.copy_from_slice.ensures.after
          ∙ ap (λ (k : ℕ). take k (set l n end_of_container)) (add-one n)
          ∙ take-suc-set l n end_of_container (omega (arith, length-append c.args.captured.now rest, length-drop n c.args.scratch.now))
          ∙ ap (λ (s : List ℕ). s ++ (end_of_container ∷ [])) (take-append_seam c.args.captured.now rest),
    )
