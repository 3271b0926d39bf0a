-- The laws of a call's refusal: by which a call on a sound table is refused by its gate or answers as its body does, and by which an
-- outward call answers 6 on any other table. Assumes nothing.
use Rattle.std.proofs.Common.{◌≡◌, ℕ, true, false, cond, List, length, sym, refl, ap, ◌∙◌, arith, eq-eqb, ne_eqb}
use Rattle.words.specs.Constants.{success, unsound}
use Rattle.slots.specs.Slots.{Slots}
use Rattle.state.specs.declared.Outcome.{Outcome}
use Rattle.state.specs.Table.{Table, Room}
use Rattle.state.specs.Sound.{sound}
use Rattle.state.specs.Answer.{Result, result_of, refused, refusal_of, guarded}
use Rattle.state.proofs.Laws.{InBounds, sound_bounds, sound-room}

-- what a call answered, with the memory that it left
abbrev pub result_in : Slots → List ℕ → Outcome → Result
result_in s r o = result_of o.status o.save (record { state = o.state; slots = s; records = r })

module _ {A : Type 0} (refuse : ℕ → A) (n : ℕ) (o : A) where
  pub when_refused : (n ≡ success → ⊥) → refuse n ≡ guarded refuse n o
  unfolding guarded
  when_refused h = rw (ne_eqb n success h)

  pub when_passed : n ≡ success → o ≡ guarded refuse n o
  unfolding guarded
  when_passed e = rw (eq-eqb n success e)

-- a call that is not refused finds a sound table
pub passed-sound : (t : Table) (gate : ℕ) → refusal_of t gate ≡ success → sound t ≡ true
unfolding refusal_of
passed-sound t gate e =
    (elim (sound t) as (λ b. cond b gate unsound ≡ success → b ≡ true) [ true ↦ λ _. refl | false ↦ λ q. let w : ⊥ = omega arith in absurd w ]) e

pub refusal_sound : (t : Table) (gate : ℕ) → sound t ≡ true → gate ≡ refusal_of t gate
unfolding refusal_of
refusal_sound t gate e = rw e

pub refusal_unsound : (t : Table) (gate : ℕ) → sound t ≡ false → unsound ≡ refusal_of t gate
unfolding refusal_of
refusal_unsound t gate e = rw e

-- ---- on a sound table: refused by the gate, or the body. g is what the code made of the gate

-- what a call that is not refused has: room for its operations, a request that passed, and its body's answer as its own
pub record Admitted (t : Table) (gate : ℕ) : Type 1 where
  pub bounds : InBounds t.state (length t.slots.keys) (length t.slots.times) (length t.slots.fields) (length t.records)
  pub room : Room t
  pub asked : gate ≡ success
  pub answers : {A : Type 0} (refuse : ℕ → A) (body : A) → body ≡ guarded refuse (refusal_of t gate) body

module _ (t : Table) (s : sound t ≡ true) (g gate : ℕ) (e : g ≡ gate) where
  pub refuses : {A : Type 0} (refuse : ℕ → A) (body : A) → (g ≡ success → ⊥) → refuse g ≡ guarded refuse (refusal_of t gate) body
  refuses refuse body h =
      let f = e ∙ refusal_sound t gate s in
      ap refuse f ∙ when_refused refuse (refusal_of t gate) body (λ p. h (f ∙ p))

  pub refuses-outcome : (o : Outcome) (body : Result)
      → o ≡ record { status = g; save = false; state = t.state }
      → (g ≡ success → ⊥)
      → result_in t.slots t.records o ≡ guarded (refused t) (refusal_of t gate) body
  refuses-outcome o body q h = ap (result_in t.slots t.records) q ∙ refuses (refused t) body h

  pub admits : g ≡ success → Admitted t gate
  admits h =
      let p = sym e ∙ h in
      record {
        bounds = sound_bounds t s;
        room = sound-room t s;
        asked = p;
        answers = λ refuse body. when_passed refuse (refusal_of t gate) body (sym (refusal_sound t gate s) ∙ p);
      }

-- a call without a gate
pub ungated : (t : Table) → sound t ≡ true → Admitted t success
ungated t s = admits t s success success refl refl

-- ---- on a table that is not sound: 6, whatever the request

module _ (t : Table) (s : sound t ≡ false) (gate : ℕ) where
  pub answers_unsound : {A : Type 0} (refuse : ℕ → A) (body : A) → refuse unsound ≡ guarded refuse (refusal_of t gate) body
  answers_unsound refuse body =
      let e = refusal_unsound t gate s in
      ap refuse e ∙ when_refused refuse (refusal_of t gate) body (λ p. let w : ⊥ = omega (arith, e, p) in absurd w)

  pub unsound-outcome : (o : Outcome) (body : Result)
      → o ≡ record { status = unsound; save = false; state = t.state }
      → result_in t.slots t.records o ≡ guarded (refused t) (refusal_of t gate) body
  unsound-outcome o body q = ap (result_in t.slots t.records) q ∙ answers_unsound (refused t) body
