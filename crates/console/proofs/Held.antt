-- The answer to the line that the buffer holds stands whole, run or too long. Assumes nothing.
use Prim.Native.Nat.{ℕ, ◌+◌, ◌<◌, ◌≤◌}
use mathlib.Core.Path.{◌≡◌, ap, subst, ◌∙◌}
use mathlib.Core.Bool.{Bool, cond}
use mathlib.Core.List.{List}
use native.Mathlib.Omega.{arith}
use lib.ListN.{length, take, length-take}
use borrow.Author.Tests.{lt-ltb, le-ltb}
use Rattle.words.specs.Constants.{max_scenes, max_memberships}
use Rattle.script_lines.specs.Lines.{most_image}
use Rattle.text_output.specs.declared.reason.Reason.TheVariants.{TooLong}
use Rattle.text_output.specs.Writing.{Sheet, sheet, writes}
use Rattle.text_output.specs.Errors.{error_line}
use Rattle.text_output.proofs.Whole.{puts_whole}
use Rattle.script_machine.specs.declared.Machine.{Machine}
use Rattle.script_machine.specs.Machines.{counted}
use Rattle.script.specs.Running.{Session, session, run_line}
use Rattle.script.proofs.Lengths.{error_puts, line-puts}
use Rattle.console.specs.Whole.{longest, line_room, held_answer, Whole}

module _ (m : Machine) (keys times fields records words buffer line : List ℕ) (held : ℕ) (out : List ℕ) (at : ℕ) (after : List ℕ) (next : ℕ) where
  abbrev run_on : Sheet → Session
  run_on s = run_line (session (counted m) keys times fields records words buffer (take held line) s)

  abbrev too_long_on : Sheet → Sheet
  too_long_on s = writes (error_line (counted m).lines TooLong) s

  -- s is the session that the line leaves
  pub ran_whole : {s : Session} → s ≡ run_on (sheet out at) → sheet after next ≡ s.output → length s.buffer ≤ most_image
      → held < length line → length line ≤ line_room → length keys ≤ max_scenes → length records ≤ max_scenes
      → length words ≤ max_memberships → at + longest ≤ length out
      → Whole (held_answer m keys times fields records words buffer line held) out at after next
  ran_whole q e i l h k r w o =
      let few = subst (λ (s : Session). length s.buffer ≤ most_image) q i in
      let n = length-take held line in
      let p =
      line-puts (counted m) keys times fields records words buffer (take held line) most_image longest
      (omega (arith, k, r, w)) (omega arith) (omega (arith, n, l, h)) (sheet out at) few in
      record {
        text = p.text;
        short = p.short;
        says = λ s. ap (λ (b : Bool). cond b (run_on s).output (too_long_on s)) (lt-ltb held (length line) l) ∙ p.put s;
        stands = e ∙ ap (λ (s : Session). s.output) q ∙ p.put (sheet out at) ∙ puts_whole p.text out at (omega (arith, p.short, o));
      }

  pub too_long_whole : length line ≤ held → at + longest ≤ length out → sheet after next ≡ too_long_on (sheet out at)
      → Whole (held_answer m keys times fields records words buffer line held) out at after next
  too_long_whole l o e =
      let p = error_puts (counted m).lines TooLong in
      record {
        text = p.text;
        short = omega (arith, p.short);
        says = λ s. ap (λ (b : Bool). cond b (run_on s).output (too_long_on s)) (le-ltb held (length line) l) ∙ p.put s;
        stands = e ∙ p.put (sheet out at) ∙ puts_whole p.text out at (omega (arith, p.short, o));
      }
