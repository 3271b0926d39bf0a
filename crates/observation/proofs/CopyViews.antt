-- Writes in turn: whether they all fit, and what they leave, as counts that do not depend on their order. Assumes nothing.
use Prim.Native.Nat.{ℕ, ◌+◌, ◌-◌, ◌/◌, ◌≤◌, ◌<◌, min}
use native.Mathlib.Omega.{arith}
use mathlib.Core.Path.{◌≡◌, refl, sym, ap, ap₂, ◌∙◌, subst, subst₂}
use mathlib.Core.Bool.{Bool, true, false, cond, not, ◌&&◌, ◌||◌, false≢true}
use mathlib.Core.List.{List, [], ◌∷◌}
use mathlib.Core.Option.{Option, none, some}
use lib.ListN.{length}
use lib.Dec.{leb, ltb, eqb, leb-zero, leb-suc-suc}
use borrow.Author.Tests.{ltb-true, ltb-false, lt-leb, eqb-true, eq-eqb}
use Rattle.words.specs.Words.{fabric_of}
use Rattle.words.proofs.Tests.{and_false}
use Rattle.slots.specs.Slots.{SceneEntry}
use Rattle.observation.specs.Lists.{bit, count, find}
use Rattle.observation.specs.Equivalence.{key_is, mine}
use Rattle.observation.proofs.Lists.{found, has, put, Often}
use Rattle.observation.proofs.Changes.{View, used_in, room_in, places_in, entries_set, written, written_all}
use Rattle.observation.proofs.Counts.{both, count_ext, count_le, count_or, opt, count-put, find-passes, length-put}
use Rattle.observation.proofs.Choices.{or_none, bit_zero, count_none, has_same, length_put_has}
use Rattle.observation.proofs.Places.{room_less, room-free, room-places, Changed}
use Rattle.observation.proofs.Invariant.{bad, Good, Inv, put_good, written_all_inv}
use Rattle.observation.proofs.Simulation.{Sim, key-within, used-found, sim_find, sim_room, sim_entries}

-- where one passes h at most, those that pass h and q are the one found, if it passes q
count-once : {A : Type 0} (h q : A → Bool) (xs : List A) → count h xs ≤ 1 → count (λ x. h x && q x) xs ≡ opt q (find h xs)
count-once h q [] o = refl
count-once h q (x ∷ xs) o =
    let less : count (λ z. h z && q z) xs ≤ count h xs = count_le (λ z. h z && q z) h (λ z e. (both (h z) (q z) e).0) xs in
    (elim (h x) as (λ b. bit b + count h xs ≤ 1 → bit (b && q x) + count (λ z. h z && q z) xs ≡ opt q (cond b (some x) (find h xs)))
    [ true ↦ λ o'. omega arith | false ↦ λ o'. omega (arith, count-once h q xs (omega arith)) ]) o

-- ---- the entries to be written

-- an entry's key is that of one of them
abbrev pub hit : List SceneEntry → SceneEntry → Bool
hit xs e = has (λ x. eqb e.key x.key) xs

pub hit_cons : (x : SceneEntry) (xs : List SceneEntry) (e : SceneEntry) → hit (x ∷ xs) e ≡ (key_is x.key e || hit xs e)
hit_cons x xs e =
    elim (eqb e.key x.key) as (λ b. found (cond b (some x) (find (λ y. eqb e.key y.key) xs)) ≡ (b || hit xs e)) [ true ↦ refl | false ↦ refl ]

-- their keys differ
abbrev pub Apart : List SceneEntry → Type 0
Apart [] = Unit {0}
Apart (x ∷ xs) = (hit xs x ≡ false) × Apart xs

abbrev pub AllMine : ℕ → List SceneEntry → Type 0
AllMine f xs = count (λ x. not (mine f x)) xs ≡ 0

pub record Targets (f : ℕ) (xs : List SceneEntry) : Type 0 where
  pub own : AllMine f xs
  pub apart : Apart xs
  pub fine : count bad xs ≡ 0

pub mine_of : (f : ℕ) (x : SceneEntry) (n : ℕ) → bit (not (mine f x)) + n ≡ 0 → fabric_of x.key ≡ f
mine_of f x n z = eqb-true (fabric_of x.key) f (go (mine f x) z)
  where
    go : (b : Bool) → bit (not b) + n ≡ 0 → b ≡ true
    go true _ = refl
    go false y = absurd (omega arith)

-- tests that agree on the fabric's entries count alike in a list of them
count-mine : (f : ℕ) (p r : SceneEntry → Bool) → ((x : SceneEntry) → fabric_of x.key ≡ f → p x ≡ r x) → (xs : List SceneEntry) → AllMine f xs → count p xs ≡ count r xs
count-mine f p r same [] m = refl
count-mine f p r same (x ∷ xs) m =
    ap₂ (λ (b : Bool) (n : ℕ). bit b + n) (same x (mine_of f x (count (λ y. not (mine f y)) xs) m)) (count-mine f p r same xs (omega arith))

-- tests that differ at x's key only count alike where x's key is not hit
count_apart : (p r : SceneEntry → Bool) (x : SceneEntry) → ((y : SceneEntry) → eqb x.key y.key ≡ false → p y ≡ r y) → (xs : List SceneEntry) → hit xs x ≡ false → count p xs ≡ count r xs
count_apart p r x same [] n = refl
count_apart p r x same (y ∷ ys) n =
    let both-no = or_none (eqb x.key y.key) (hit ys x) (sym (hit_cons y ys x) ∙ n) in
    ap₂ (λ (b : Bool) (m : ℕ). bit b + m) (same y both-no.0) (count_apart p r x same ys both-no.1)

-- ---- one write

abbrev new : View → SceneEntry → Bool
new v x = not (has (key_is x.key) v.entries)

-- it leaves other keys as they were
has_put : (x : SceneEntry) (es : List SceneEntry) (k : ℕ) → eqb x.key k ≡ false → has (key_is k) (put (key_is x.key) x es) ≡ has (key_is k) es
has_put x es k n =
    has_same (key_is k) (put (key_is x.key) x es) es
    (omega (arith, count-put (key_is k) (key_is x.key) x es, ap bit n, go (find (key_is x.key) es) refl))
  where
    go : (o : Option SceneEntry) → find (key_is x.key) es ≡ o → opt (key_is k) o ≡ 0
    go none e = refl
    go (some y) e = ap (λ (w : ℕ). bit (eqb w k)) (eqb-true y.key x.key (find-passes (key_is x.key) es y e)) ∙ ap bit n

pub used-put : (f : ℕ) (x : SceneEntry) (v : View) → fabric_of x.key ≡ f → used_in f (written x v) + bit (has (key_is x.key) v.entries) ≡ used_in f v + 1
used-put f x v h =
    omega (arith, length-put (mine f) (key_is x.key) x (eq-eqb (fabric_of x.key) f h) (key-within f x.key h) v.entries, length_put_has (key_is x.key) x v.entries)

-- ---- whether they all fit

-- exactly when the new ones fit the room
copies : (f : ℕ) (xs : List SceneEntry) (v : View) → AllMine f xs → Apart xs → length v.entries ≤ v.size → (written_all f xs v).0 ≡ leb (count (new v) xs) (room_in f v)
unfolding written_all room_in
copies f [] v m d r = sym (leb-zero (room_in f v))
copies f (x ∷ xs) v m d r =
    let h : fabric_of x.key ≡ f = mine_of f x (count (λ y. not (mine f y)) xs) m in
    let here = has (key_is x.key) v.entries in
    let news : count (new (written x v)) xs ≡ count (new v) xs =
    count_apart (new (written x v)) (new v) x (λ y n. ap not (has_put x v.entries y.key n)) xs d.0 in
    let lp = length_put_has (key_is x.key) x v.entries in
    let up = used-put f x v h in
    (elim here as (λ b. here ≡ b → (cond (b || ltb 0 (room_in f v)) (written_all f xs (written x v)) (false, v)).0 ≡ leb (bit (not b) + count (new v) xs) (room_in f v)) [
      | true ↦ λ e.
          let l : length (put (key_is x.key) x v.entries) ≡ length v.entries = omega (arith, lp, ap bit e) in
          let u : used_in f (written x v) ≡ used_in f v = omega (arith, up, ap bit e) in
          let ih = copies f xs (written x v) (omega arith) d.1 (omega arith) in
          ih ∙ (λ i. leb (news i) (min ((v.size - 1) / 2 - u i) (v.size - l i))) ∙ ap (λ (n : ℕ). leb n (room_in f v)) (omega arith)
      | false ↦ λ e.
          let l : length (put (key_is x.key) x v.entries) ≡ length v.entries + 1 = omega (arith, lp, ap bit e) in
          let u : used_in f (written x v) ≡ used_in f v + 1 = omega (arith, up, ap bit e) in
          (elim (ltb 0 (room_in f v)) as (λ b. ltb 0 (room_in f v) ≡ b → (cond b (written_all f xs (written x v)) (false, v)).0 ≡ leb (1 + count (new v) xs) (room_in f v)) [
            | true ↦ λ q.
                let pos : 0 < room_in f v = ltb-true 0 (room_in f v) q in
                let ih = copies f xs (written x v) (omega arith) d.1 (omega (arith, room-free f v pos)) in
                ih ∙ (λ i. leb (news i) (min ((v.size - 1) / 2 - u i) (v.size - l i)))
                ∙ sym (leb-suc-suc (count (new v) xs) (min ((v.size - 1) / 2 - (used_in f v + 1)) (v.size - (length v.entries + 1))))
                ∙ ap₂ leb (omega arith) (room_less ((v.size - 1) / 2) (used_in f v) v.size (length v.entries) pos)
            | false ↦ λ q. sym (lt-leb (1 + count (new v) xs) (room_in f v) (omega (arith, ltb-false 0 (room_in f v) q)))
          ]) refl
    ]) refl

-- ---- what they leave

dist : (q k h : Bool) → (q && (k || h)) ≡ ((k && q) || (q && h))
dist true true h = refl
dist true false h = refl
dist false true h = refl
dist false false h = refl

-- the old entries with their keys gone, and they there
copied-counts : (f : ℕ) (xs : List SceneEntry) (v : View) (q : SceneEntry → Bool) → Apart xs → Good v.entries → count bad xs ≡ 0 → (written_all f xs v).0 ≡ true
    → count q (written_all f xs v).1.entries + count (λ e. q e && hit xs e) v.entries ≡ count q v.entries + count q xs
unfolding written_all
copied-counts f [] v q d g nb ok = omega (arith, count_none (λ e. q e && false) (λ e. and_false (q e)) v.entries)
copied-counts f (x ∷ xs) v q d g nb ok =
    let w = x.key in
    let es = v.entries in
    let qh : SceneEntry → Bool = λ e. q e && hit xs e in
    let at : (e : SceneEntry) → key_is w e ≡ true → hit xs e ≡ false = λ e k. ap (λ (n : ℕ). has (λ (y : SceneEntry). eqb n y.key) xs) (eqb-true e.key w k) ∙ d.0 in
    let off : (e : SceneEntry) → key_is w e ≡ true → bit (qh e) ≡ 0 = λ e k. rw (at e k) (ap bit (and_false (q e))) in
    let old : opt qh (find (key_is w) es) ≡ 0 =
    (elim (find (key_is w) es) as (λ o. find (key_is w) es ≡ o → opt qh o ≡ 0) [ none ↦ λ _. refl | some y ↦ λ e. off y (find-passes (key_is w) es y e) ]) refl in
    let self : bit (qh x) ≡ 0 = off x (eq-eqb w w refl) in
    let split : count (λ e. q e && hit (x ∷ xs) e) es ≡ count (λ e. key_is w e && q e) es + count qh es =
    count_ext (λ e. q e && hit (x ∷ xs) e) (λ e. (key_is w e && q e) || qh e) (λ e. ap (λ (b : Bool). q e && b) (hit_cons x xs e) ∙ dist (q e) (key_is w e) (hit xs e)) es
    ∙ count_or (λ e. key_is w e && q e) qh (λ e k. ap (λ (b : Bool). q e && b) (at e (both (key_is w e) (q e) k).0) ∙ and_false (q e)) es in
    (elim (has (key_is w) es || ltb 0 (room_in f v)) as (λ b. (cond b (written_all f xs (written x v)) (false, v)).0 ≡ true
    → count q (cond b (written_all f xs (written x v)) (false, v)).1.entries + count (λ e. q e && hit (x ∷ xs) e) es ≡ count q es + (bit (q x) + count q xs)) [
      | true ↦ λ ok'.
          let ih = copied-counts f xs (written x v) q d.1 (put_good x es (bit_zero (bad x) (omega arith)) g) (omega arith) ok' in
          omega (arith, ih, split, count-once (key_is w) q es (g.once w), count-put q (key_is w) x es, count-put qh (key_is w) x es, old, self)
      | false ↦ λ ok'. absurd (false≢true ok')
    ]) ok

-- only the entries change, and only the fabric's
copied_with : (f : ℕ) (xs : List SceneEntry) (v : View) → (written_all f xs v).1 ≡ entries_set (written_all f xs v).1.entries v
unfolding written_all
copied_with f [] v = refl
copied_with f (x ∷ xs) v =
    elim (has (key_is x.key) v.entries || ltb 0 (room_in f v)) as (λ b. (cond b (written_all f xs (written x v)) (false, v)).1 ≡ entries_set (cond b (written_all f xs (written x v)) (false, v)).1.entries v)
    [ true ↦ copied_with f xs (written x v) | false ↦ refl ]

copied-length : (f : ℕ) (xs : List SceneEntry) (v : View) → AllMine f xs → length (written_all f xs v).1.entries + used_in f v ≡ length v.entries + used_in f (written_all f xs v).1
unfolding written_all
copied-length f [] v m = refl
copied-length f (x ∷ xs) v m =
    let h : fabric_of x.key ≡ f = mine_of f x (count (λ y. not (mine f y)) xs) m in
    let lp = length-put (mine f) (key_is x.key) x (eq-eqb (fabric_of x.key) f h) (key-within f x.key h) v.entries in
    elim (has (key_is x.key) v.entries || ltb 0 (room_in f v)) as (λ b. length (cond b (written_all f xs (written x v)) (false, v)).1.entries + used_in f v ≡ length v.entries + used_in f (cond b (written_all f xs (written x v)) (false, v)).1)
    [ true ↦ omega (arith, lp, copied-length f xs (written x v) (omega arith)) | false ↦ refl ]

-- the first needs a scene with its key or room, so the fabric had a scene or a place
copied_alive : (f : ℕ) (xs : List SceneEntry) (v : View) → AllMine f xs → 0 < used_in f (written_all f xs v).1 → 0 < used_in f v + places_in f v
unfolding written_all
copied_alive f [] v m h = omega arith
copied_alive f (x ∷ xs) v m h =
    let own : fabric_of x.key ≡ f = mine_of f x (count (λ y. not (mine f y)) xs) m in
    let here = has (key_is x.key) v.entries in
    let more = ltb 0 (room_in f v) in
    (elim here as (λ b. here ≡ b → 0 < used_in f (cond (b || more) (written_all f xs (written x v)) (false, v)).1 → 0 < used_in f v + places_in f v) [
      | true ↦ λ e _. omega (arith, used-found f x.key v own e)
      | false ↦ λ _.
          (elim more as (λ b. more ≡ b → 0 < used_in f (cond b (written_all f xs (written x v)) (false, v)).1 → 0 < used_in f v + places_in f v) [
            | true ↦ λ e _. omega (arith, ltb-true 0 (room_in f v) e, room-places f v)
            | false ↦ λ _ k. omega arith
          ]) refl
    ]) refl h

-- what they change
copied_changed : (f : ℕ) (xs : List SceneEntry) (v : View) → Inv v → AllMine f xs → count bad xs ≡ 0 → Changed f (written_all f xs v).1.entries v
copied_changed f xs v i m nb = record {
  own = copied-length f xs v m;
  before = i.room;
  after = subst (λ (u : View). length (written_all f xs v).1.entries ≤ u.size) (copied_with f xs v) (written_all_inv f xs v nb i).room;
}

-- ---- in two views alike to the fabric, the same entries in any order

module _ (f : ℕ) (v w : View) (i : Inv v) (j : Inv w) (a : Sim f v w) (xs ys : List SceneEntry) (often : Often xs ys) (tx : Targets f xs) (ty : Targets f ys) where
  pub copies_same : (written_all f xs v).0 ≡ (written_all f ys w).0
  copies_same =
      let n : count (new v) xs ≡ count (new w) ys =
      often (new v) ∙ count-mine f (new v) (new w) (λ x h. ap (λ (o : Option SceneEntry). not (found o)) (sim_find f v w a x.key h j.good)) ys ty.own in
      copies f xs v tx.own tx.apart i.room ∙ ap₂ leb n (sim_room f v w a) ∙ sym (copies f ys w ty.own ty.apart j.room)

  pub copied_sim : (written_all f xs v).0 ≡ true → Sim f (written_all f xs v).1 (written_all f ys w).1
  copied_sim ok =
      let hits : (e : SceneEntry) → hit xs e ≡ hit ys e = λ e. has_same (λ x. eqb e.key x.key) xs ys (often (λ x. eqb e.key x.key)) in
      subst₂ (Sim f) (sym (copied_with f xs v)) (sym (copied_with f ys w))
      (sim_entries f v w a (written_all f xs v).1.entries (written_all f ys w).1.entries
      (λ q z.
      let old : count (λ e. q e && hit xs e) v.entries ≡ count (λ e. q e && hit ys e) w.entries =
      count_ext (λ e. q e && hit xs e) (λ e. q e && hit ys e) (λ e. ap (λ (b : Bool). q e && b) (hits e)) v.entries
      ∙ a.scenes (λ e. q e && hit ys e) (λ e k. z e (both (q e) (hit ys e) k).0) in
      omega (arith, old, often q, a.scenes q z, copied-counts f xs v q tx.apart i.good tx.fine ok, copied-counts f ys w q ty.apart j.good ty.fine (sym copies_same ∙ ok)))
      (copied_changed f xs v i tx.own tx.fine) (copied_changed f ys w j ty.own ty.fine) (copied_alive f xs v tx.own))
