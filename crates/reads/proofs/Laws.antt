-- From what the called operations answer to what the definitions of a lookup and of an info read say. Assumes nothing.
use Prim.Native.Nat.{ℕ, min}
use mathlib.Core.Path.{◌≡◌, ◌∙◌}
use mathlib.Core.Bool.{Bool, true, false}
use lib.ListN.{get_or}
use borrow.Author.Tests.{eq-eqb, ne_eqb}
use Rattle.words.specs.Constants.{success, max_shown}
use Rattle.words.specs.Words.{group_of, scene_of, key_of_record, is_valid}
use Rattle.std.specs.Prelude.{Option, Some, None}
use Rattle.slots.specs.Slots.{length_at}
use Rattle.state.specs.Table.{Table}
use Rattle.state.specs.Capacity.{remaining}
use Rattle.reads.specs.declared.InfoRead.{InfoRead}
use Rattle.reads.specs.Reads.{Transition}
use Rattle.reads.specs.Reads.{effective_time, read_at, no_row, info_row}

-- a scene that was found, n is its effective time
pub read_found : (t : Table) (p n : ℕ) (o : Transition)
    → n ≡ effective_time o (get_or t.slots.times p 0)
    → record { status = success; time = n; at = p; len = length_at t.slots.fields p; state = t.state } ≡ read_at (Some p) o t
unfolding read_at
read_found t p n o e = λ i. record { status = success; time = e i; at = p; len = length_at t.slots.fields p; state = t.state }

-- f is the fabric's record and m how many entries it has on the endpoint; n is what the code counted

module _ (fabric n rem : ℕ) (t : Table) (f : Option ℕ) (m : ℕ) (e : rem ≡ remaining t.state t.slots.keys fabric) (q : n ≡ m) where
  abbrev row : ℕ → ℕ → Bool → InfoRead
  row g s v = record { status = success; present = true; count = min n max_shown; group = g; scene = s; valid = v; remaining = rem; fabric = fabric; state = t.state }

  pub no_row_lem : (o : InfoRead) → o ≡ no_row t success → None ≡ f → n ≡ 0 → o ≡ info_row f fabric m t
  unfolding info_row
  no_row_lem o w h z = w ∙ rw (← h, ← q, eq-eqb n 0 z)

  pub entries-row : (o : InfoRead) → o ≡ row 0 0 false → None ≡ f → (n ≡ 0 → ⊥) → o ≡ info_row f fabric m t
  unfolding info_row
  entries-row o w h z = w ∙ rw (← h, ← q, ne_eqb n 0 z, e)

  pub record_row : (o : InfoRead) (p g s : ℕ) (v : Bool)
      → o ≡ row g s v
      → Some p ≡ f
      → g ≡ group_of (key_of_record (get_or t.records p 0))
      → s ≡ scene_of (key_of_record (get_or t.records p 0))
      → v ≡ is_valid (get_or t.records p 0)
      → o ≡ info_row f fabric m t
  unfolding info_row
  record_row o p g s v w h q1 q2 q3 = w ∙ rw (← h, ← q) (simp (e, q1, q2, q3))
