-- How many key words a store is said to have compared: the theorem of Q-6, and the laws by which a call that was refused, or not, meets it.
-- Assumes nothing.
use Prim.Native.Nat.{ℕ, ◌≤◌}
use mathlib.Core.Path.{◌≡◌, refl, sym, ap, ◌∙◌}
use mathlib.Core.Bool.{true, false, cond}
use mathlib.Core.List.{List}
use native.Mathlib.Omega.{arith}
use lib.Dec.{eqb}
use borrow.Author.Tests.{eq-eqb, ne_eqb}
use Rattle.words.specs.Constants.{success, unsound}
use Rattle.words.specs.Words.{word_of}
use Rattle.std.specs.Prelude.{Option, Some, None}
use Rattle.words.specs.declared.SceneKey.{SceneKey}
use Rattle.slots.specs.Slots.{Slots}
use Rattle.state.specs.Table.{Table}
use Rattle.state.specs.Sound.{sound}
use Rattle.state.specs.Change.{find_scene}
use Rattle.state.specs.Answer.{Result, result_of, refused, refusal_of, guarded}
use Rattle.state.proofs.Guard.{Admitted, refuses, answers_unsound}
use Rattle.state.proofs.Laws.{found_under}
use Rattle.commands.specs.declared.Stored.{Stored}
use Rattle.commands.specs.Commands.{store_scene}
use Rattle.commands.specs.Counted.{keys_compared, Counted, counted_of, counted, store_counted, StoreCounts}

-- what a store answered, with the memory that it left
abbrev pub counted_in : Slots → List ℕ → Stored → Counted
counted_in s r o = counted_of (result_of o.status o.save (record { state = o.state; slots = s; records = r })) o.compared

module _ (key : SceneKey) (t : Table) (r : Result) where
  pub counts_none : (r.status ≡ success → ⊥) → counted_of r 0 ≡ counted key t r
  unfolding counted
  counts_none h = rw (ne_eqb r.status success h)

  pub counts-compared : r.status ≡ success → counted_of r (keys_compared (find_scene key t) t.state.entries) ≡ counted key t r
  unfolding counted
  counts-compared e = rw (eq-eqb r.status success e)

-- what was compared is in the table
pub compared-within : (key : SceneKey) (t : Table) (f : Option ℕ) → f ≡ find_scene key t → keys_compared f t.state.entries ≤ t.state.entries
compared-within key t (Some p) e = omega (arith, found_under t.slots.keys t.state.entries (word_of key) p (sym e))
compared-within key t None e = omega arith

-- ---- a store that passed its gate: x is what the code answered
pub counts-passed : (key : SceneKey) (t : Table) (gate : ℕ) (x : Counted) (body : Result) → Admitted t gate
    → x ≡ counted key t body → x ≡ counted key t (guarded (refused t) (refusal_of t gate) body)
counts-passed key t gate x body a e = e ∙ ap (counted key t) (a.answers (refused t) body)

-- ---- a store that is refused: by the gate, g, on a sound table, or with 6. o is what the code answered

module _ (key : SceneKey) (t : Table) (gate : ℕ) (body : Result) (o : Stored) where
  abbrev answer : Result
  answer = guarded (refused t) (refusal_of t gate) body

  pub counts-refused : sound t ≡ true → (g : ℕ) → g ≡ gate
      → o ≡ record { status = g; save = false; state = t.state; compared = 0 }
      → (g ≡ success → ⊥)
      → counted_in t.slots t.records o ≡ counted key t answer
  counts-refused s g e q h =
      ap (counted_in t.slots t.records) q ∙ counts_none key t (refused t g) h ∙ ap (counted key t) (refuses t s g gate e (refused t) body h)

  pub counts-unsound : sound t ≡ false
      → o ≡ record { status = unsound; save = false; state = t.state; compared = 0 }
      → counted_in t.slots t.records o ≡ counted key t answer
  counts-unsound s q =
      ap (counted_in t.slots t.records) q
      ∙ counts_none key t (refused t unsound) (λ e. let w : ⊥ = omega arith in absurd w)
      ∙ ap (counted key t) (answers_unsound t s gate (refused t) body)

-- ---- the theorem

count-once : (key : SceneKey) (t : Table) (r : Result) → (counted key t r).compared ≤ t.state.entries
unfolding counted
count-once key t r =
    elim (eqb r.status success) as (λ b. cond b (keys_compared (find_scene key t) t.state.entries) 0 ≤ t.state.entries) [
      | true ↦ compared-within key t (find_scene key t) refl
      | false ↦ omega arith
    ]

pub store-counts : StoreCounts
unfolding store_counted counted
store-counts = record {
  same = λ key m captured t. refl;
  refused = λ key m captured t h. rw (ne_eqb (store_scene key m captured t).status success h);
  known = λ key m captured t p e f. rw (eq-eqb (store_scene key m captured t).status success e, f);
  new = λ key m captured t e f. rw (eq-eqb (store_scene key m captured t).status success e, f);
  once = λ key m captured t. count-once key t (store_scene key m captured t);
}
