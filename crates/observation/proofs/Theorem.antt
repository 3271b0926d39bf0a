-- Demand 3: two reached tables of one size and mode are equivalent for a fabric exactly when they agree on the four matters. And what every
-- reached table has. Assumes nothing.
use Prim.Native.Nat.{ℕ, ◌≤◌}
use native.Mathlib.Omega.{arith}
use mathlib.Core.Path.{◌≡◌, ap, ◌∙◌}
use mathlib.Core.Bool.{Bool, false}
use mathlib.Core.List.{List, [], ◌∷◌, Memᴰ}
use lib.Dec.{eqb}
use borrow.Author.Tests.{eqb-false}
use Rattle.words.specs.Words.{scene_of, key_of_record}
use Rattle.state.specs.Table.{Table, entries_in, records_in}
use Rattle.requests.specs.Requests.{reserved}
use Rattle.observation.specs.Lists.{count}
use Rattle.observation.specs.Equivalence.{Reached, Proper, Demand3}
use Rattle.observation.proofs.Changes.{view_of}
use Rattle.observation.proofs.Calls.{laws}
use Rattle.observation.proofs.Choices.{or_none, bit_zero}
use Rattle.observation.proofs.Invariant.{bad, bad_record, fine_entry, fine_record}
use Rattle.observation.proofs.Reach.{reached_standing}
use Rattle.observation.proofs.Forward.{alike, sim_of}
use Rattle.observation.proofs.Asked.{agree}

pub demand3 : Demand3
demand3 f s t f1 f255 rs rt z m =
    let i = reached_standing laws rs in
    let j = reached_standing laws rt in
    ((λ h. agree laws f f1 f255 s t i j h), (λ a xs fit. alike laws f xs s t fit i j (sim_of f s t i j z m a)))

-- ---- reached tables

pub none_passes : {A : Type 0} (p : A → Bool) (xs : List A) → count p xs ≡ 0 → (x : A) → Memᴰ x xs → p x ≡ false
none_passes {A = A} p [] z x m = elim m [ ]
none_passes p (y ∷ ys) z x (Memᴰ.head e) = ap p e ∙ bit_zero (p y) (omega arith)
none_passes p (y ∷ ys) z x (Memᴰ.tail m) = none_passes p ys (omega arith) x m

plain-scene : (k : ℕ) → reserved (scene_of k) ≡ false → (1 ≤ scene_of k) × (scene_of k ≤ 254)
plain-scene k h =
    let a = or_none (eqb (scene_of k) 0) (eqb (scene_of k) 255) h in
    let n = eqb-false (scene_of k) 0 a.0 in
    let m = eqb-false (scene_of k) 255 a.1 in
    (omega arith, omega arith)

pub reached : (t : Table) → Reached t → Proper t
unfolding view_of
reached t r =
    let s = reached_standing laws r in
    record {
      intact = s.intact;
      distinct = s.inv.good.once;
      one_record = s.inv.one;
      scenes = λ x m. plain-scene x.key (fine_entry x (none_passes bad (entries_in t) s.inv.good.fine x m)).0.scene;
      current = λ w m. plain-scene (key_of_record w) (fine_record w (none_passes bad_record (records_in t) s.inv.records w m)).scene;
    }
