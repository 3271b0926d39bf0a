-- The laws of what a call answers: a command's outcome, that a tail fits, and what a call in the front of the buffer leaves. Assumes nothing.
use Prim.Native.Nat.{ℕ, ◌≤◌, min}
use mathlib.Core.Path.{◌≡◌, refl, sym, ap, ◌∙◌}
use mathlib.Core.Bool.{Bool, true, false, cond}
use mathlib.Core.List.{List, ◌++◌}
use native.Mathlib.Omega.{arith}
use lib.Dec.{leb}
use lib.ListN.{length, take, drop, drop_of_length-le}
use lib.Seq.{take_all}
use borrow.Author.Tests.{leb-true, leb-false}
use Rattle.state.specs.declared.Outcome.{Outcome}
use Rattle.state.specs.Table.{table_of}
use Rattle.state.specs.Answer.{Result, result_of}
use Rattle.script_answers.specs.declared.Tail.TheVariants.{Nothing}
use Rattle.script_answers.specs.declared.Answer.{Answer}
use Rattle.script_answers.specs.Done.{Done, done_of, plain, Called, called_of, in_front}
use Rattle.script_answers.specs.Answers.{fits}

module _ (k tm f w : List ℕ) where
  -- a command's
  pub plain_done : (a : Answer) (o : Outcome) (x : Result)
      → a ≡ record { status = o.status; save = o.save; state = o.state; tail = Nothing }
      → result_of o.status o.save (table_of o.state k tm f w) ≡ x
      → done_of a (table_of a.state k tm f w) ≡ plain x
  plain_done a o x e q = ap (λ (a : Answer). done_of a (table_of a.state k tm f w)) e ∙ ap plain q

-- either of two tails fits
pub fit_done : (b : Bool) (x y : Done) → fits x.tail → fits y.tail → fits (cond b x y).tail
fit_done true x y p q = p
fit_done false x y p q = q

pub fit_called : (b : Bool) (x y : Called) → fits x.done.tail → fits y.done.tail → fits (cond b x y).done.tail
fit_called true x y p q = p
fit_called false x y p q = q

-- ---- the front of the buffer

-- as many as there are are the first of all
front_same : (m n : ℕ) (buffer : List ℕ) → m ≡ min n (length buffer) → (take m buffer ≡ take n buffer) × (drop m buffer ≡ drop n buffer)
front_same m n buffer h =
    (elim (leb n (length buffer)) as (λ b. leb n (length buffer) ≡ b → (take m buffer ≡ take n buffer) × (drop m buffer ≡ drop n buffer)) [
      | true ↦ λ e.
          let l = leb-true n (length buffer) e in
          let q : m ≡ n = omega (arith, l, h) in
          (ap (λ (k : ℕ). take k buffer) q, ap (λ (k : ℕ). drop k buffer) q)
      | false ↦ λ e.
          let l = leb-false n (length buffer) e in
          let p : length buffer ≤ m = omega (arith, l, h) in
          let q : length buffer ≤ n = omega (arith, l) in
          (take_all m buffer p ∙ sym (take_all n buffer q), drop_of_length-le buffer p ∙ sym (drop_of_length-le buffer q))
    ]) refl

-- what a call in the front leaves, d and after, with the rest of the buffer behind it
pub in_front_lem : (f : List ℕ → Called) (n : ℕ) (buffer : List ℕ) (m : ℕ) (d : Done) (after : List ℕ) → m ≡ min n (length buffer)
    → called_of d after ≡ f (take m buffer) → called_of d (after ++ drop m buffer) ≡ in_front n f buffer
in_front_lem f n buffer m d after h e =
    let q = front_same m n buffer h in
    (λ i. called_of (e i).done ((e i).buffer ++ drop m buffer)) ∙ (λ i. called_of (f (q.0 i)).done ((f (q.0 i)).buffer ++ q.1 i))
