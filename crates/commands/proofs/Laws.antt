-- From what the called operations answer and leave to what the definitions of store and remove all say. Assumes nothing.
use Prim.Native.Nat.{ℕ}
use mathlib.Core.Path.{◌≡◌, sym, ap, ◌∙◌}
use mathlib.Core.Bool.{true, false}
use mathlib.Core.List.{List}
use borrow.Author.Tests.{eq-eqb, ne_eqb}
use Rattle.words.specs.Constants.{success}
use Rattle.std.specs.Prelude.{Option}
use Rattle.words.specs.declared.SceneKey.{SceneKey}
use Rattle.words.specs.declared.GroupKey.{GroupKey}
use Rattle.records.specs.declared.Scope.TheVariants.{Group}
use Rattle.state.specs.Table.{Table, with_current}
use Rattle.state.specs.Current.{invalidate_current, remember_current}
use Rattle.state.specs.Change.{find_scene, Upserted, upserted_of, saved, upsert}
use Rattle.state.specs.Answer.{Result, result_of}
use Rattle.commands.specs.Commands.{prior_time, stored, removed_all}

-- ---- store

-- u is what the upsert answered, with its mark; f is what the search found, from which the time comes
pub upserted_prior : (key : SceneKey) (time : ℕ) (ext : List ℕ) (t : Table) (u : Result) (f : Option ℕ) (stored : List ℕ)
    → u ≡ saved (upsert key time ext t)
    → time ≡ prior_time f t.slots.times
    → f ≡ find_scene key t
    → ext ≡ stored
    → upserted_of u.status u.table ≡ upsert key (prior_time (find_scene key t) t.slots.times) stored t
upserted_prior key time ext t u f stored e e1 e2 e3 =
    (λ i. upserted_of (e i).status (e i).table)
    ∙ (λ i. upsert key ((e1 ∙ ap (λ (x : Option ℕ). prior_time x t.slots.times) e2) i) (e3 i) t)

module _ (key : SceneKey) (u : Upserted) where
  pub not_stored : (u.status ≡ success → ⊥) → result_of u.status false u.table ≡ stored key u
  unfolding stored
  not_stored n = rw (ne_eqb _ _ n)

  pub was_stored : u.status ≡ success → result_of success true (with_current (remember_current key) u.table) ≡ stored key u
  unfolding stored
  was_stored e = rw (eq-eqb _ _ e)

-- ---- remove all: a is the table that the retain left

module _ (key : GroupKey) (t u a : Table) (e : a ≡ u) where
  pub nothing_went : a.state.entries ≡ t.state.entries → result_of success false a ≡ removed_all key t u
  unfolding removed_all
  nothing_went q =
      let h = ap (λ (x : Table). x.state.entries) (sym e) ∙ q in
      rw (eq-eqb u.state.entries t.state.entries h) (ap (result_of success false) e)

  pub something_went : (a.state.entries ≡ t.state.entries → ⊥)
      → result_of success true (with_current (invalidate_current (Group key)) a) ≡ removed_all key t u
  unfolding removed_all
  something_went n =
      rw (ne_eqb u.state.entries t.state.entries (λ q. n (ap (λ (x : Table). x.state.entries) e ∙ q)))
      (ap (λ (x : Table). result_of success true (with_current (invalidate_current (Group key)) x)) e)
