-- Copy, by what its law says over a view: it answers two views that are alike to its fabric alike and leaves them alike, unless a copy of
-- a whole group runs out, and it keeps the invariant. Assumes nothing.
use Prim.Native.Nat.{ℕ, ◌^◌, ◌≤◌, ◌<◌}
use native.Mathlib.Omega.{arith}
use mathlib.Core.Path.{◌≡◌, refl, sym, ap, ap₂, ◌∙◌, subst}
use mathlib.Core.Bool.{Bool, true, false, cond, not, ◌&&◌, ◌||◌, false≢true}
use mathlib.Core.List.{List, [], ◌∷◌, map}
use mathlib.Core.Option.{Option, none, some}
use lib.ListN.{length}
use lib.Dec.{ltb, eqb}
use borrow.Author.Tests.{ltb-true, eqb-true, eq-eqb, ne_eqb}
use Rattle.words.specs.Constants.{insufficient_space}
use Rattle.words.specs.Words.{word_of, fabric_of, endpoint_of, group_of, scene_of, group_keys}
use Rattle.words.proofs.Ranges.{group-keys}
use Rattle.slots.specs.Slots.{SceneEntry}
use Rattle.records.specs.declared.Scope.{Scope}
use Rattle.records.specs.declared.Scope.TheVariants.{Scene, Group}
use Rattle.requests.specs.declared.Membership.{Membership}
use Rattle.requests.specs.Requests.{reserved, whole_group}
use Rattle.observation.specs.Lists.{bit, count, find, keep}
use Rattle.observation.specs.Calls.{Command, copy, scene_key, group_key, copy_request, CommandInRange}
use Rattle.observation.specs.Equivalence.{key_is, whole_copy, mine}
use Rattle.observation.proofs.Lists.{found, has, Often}
use Rattle.observation.proofs.Lookups.{holds}
use Rattle.observation.proofs.Changes.{View, room_in, invalidated, written, written_all}
use Rattle.observation.proofs.Effects.{Seen, refuse, gate_of, first, sources, target, scope_of, copied, copy_out}
use Rattle.observation.proofs.Counts.{both, count-keep, count_map, count_take_out, length-count, opt}
use Rattle.observation.proofs.Choices.{cond_elim, cond_two, or_other, count_none, count_less}
use Rattle.observation.proofs.Bits.{key-fabric, key-scene, rebuilt}
use Rattle.observation.proofs.Places.{room-places}
use Rattle.observation.proofs.Invariant.{bad, Good, Inv, FineKey, named_fine, entry_fine, fine_entry, rest_good, keep_good, written_all_inv, invalidated_inv}
use Rattle.observation.proofs.Simulation.{Within, Sim, sim_find, sim_room, sim_put, sim_invalidated, scene-seen, group-seen}
use Rattle.observation.proofs.CopyViews.{hit, hit_cons, Apart, AllMine, Targets, copies_same, copied_sim}
use Rattle.observation.proofs.Respond.{Kept, Responds, kept, same_of, group-within}
use Rattle.requests.proofs.Passed.{copy_passed}

-- ---- the targets of a copy

module _ (f e mode g h r : ℕ) (hf : f < 2 ^ 8) (he : e < 2 ^ 16) (hg : g < 2 ^ 16) (hh : h < 2 ^ 16) (hr : r < 2 ^ 8) where
  abbrev T : SceneEntry → SceneEntry
  T = target f e mode h r

  abbrev G : SceneEntry → Bool
  G = holds (group_keys f e g)

  abbrev to_scene : SceneEntry → ℕ
  to_scene x = cond (whole_group mode) (scene_of x.key) r

  to_small : (x : SceneEntry) → to_scene x < 2 ^ 8
  to_small x = cond_elim (λ (n : ℕ). n < 2 ^ 8) (whole_group mode) (λ _. omega arith) (λ _. hr)

  target_fabric : (x : SceneEntry) → fabric_of (T x).key ≡ f
  target_fabric x = key-fabric f e h (to_scene x) hf he hh (to_small x)

  target_scene : (x : SceneEntry) → scene_of (T x).key ≡ to_scene x
  target_scene x = key-scene f e h (to_scene x) hf he hh (to_small x)

  pub own_targets : (xs : List SceneEntry) → AllMine f (map T xs)
  own_targets xs =
      count_map (λ x. not (mine f x)) T xs ∙ count_none (λ x. not (mine f (T x))) (λ x. ap not (eq-eqb (fabric_of (T x).key) f (target_fabric x))) xs

  target_fine : 1 ≤ f → (whole_group mode ≡ false → reserved r ≡ false) → (x : SceneEntry) → bad x ≡ false → bad (T x) ≡ false
  target_fine nf nr x nb =
      let b = fine_entry x nb in
      entry_fine (T x)
      (cond_elim (λ (s : ℕ). s < 2 ^ 8 → FineKey (word_of (scene_key f e h s))) (whole_group mode)
      (λ _ l. named_fine f e h (scene_of x.key) hf he hh l nf b.0.scene) (λ n l. named_fine f e h r hf he hh l nf (nr n)) (to_small x))
      b.1

  fine_targets : 1 ≤ f → (whole_group mode ≡ false → reserved r ≡ false) → (xs : List SceneEntry) → count bad xs ≡ 0 → count bad (map T xs) ≡ 0
  fine_targets nf nr xs z = count_map bad T xs ∙ count_less bad (λ x. bad (T x)) (target_fine nf nr) xs z

  -- ---- of a whole group: they differ, as the sources do

  module _ (all : whole_group mode ≡ true) where
    source-key : (x : SceneEntry) → G x ≡ true → x.key ≡ word_of (scene_key f e g (scene_of x.key))
    source-key x k =
        let a = both (eqb (fabric_of x.key) f) (eqb (endpoint_of x.key) e && eqb (group_of x.key) g) (sym (group-keys f e g x.key he hg) ∙ k) in
        let b = both (eqb (endpoint_of x.key) e) (eqb (group_of x.key) g) a.1 in
        let p = eqb-true (fabric_of x.key) f a.0 in
        let q = eqb-true (endpoint_of x.key) e b.0 in
        let z = eqb-true (group_of x.key) g b.1 in
        rebuilt x.key ∙ (λ n. word_of (scene_key (p n) (q n) (z n) (scene_of x.key)))

    target_apart : (x y : SceneEntry) → G x ≡ true → G y ≡ true → (T x).key ≡ (T y).key → y.key ≡ x.key
    target_apart x y gx gy p =
        let to : (z : SceneEntry) → to_scene z ≡ scene_of z.key = λ z. ap (λ (b : Bool). cond b (scene_of z.key) r) all in
        let sc : scene_of y.key ≡ scene_of x.key = sym (target_scene y ∙ to y) ∙ ap scene_of (sym p) ∙ (target_scene x ∙ to x) in
        source-key y gy ∙ ap (λ (n : ℕ). word_of (scene_key f e g n)) sc ∙ sym (source-key x gx)

    hits_none : (x : SceneEntry) → G x ≡ true → (es : List SceneEntry) → count (key_is x.key) es ≡ 0 → hit (map T (keep G es)) (T x) ≡ false
    hits_none x gx [] z = refl
    hits_none x gx (y ∷ es) z =
        let ih = hits_none x gx es (omega arith) in
        (elim (G y) as (λ b. G y ≡ b → hit (map T (cond b (y ∷ keep G es) (keep G es))) (T x) ≡ false) [
          | true ↦ λ gy.
              let differ : eqb (T x).key (T y).key ≡ false =
              ne_eqb (T x).key (T y).key (λ p. let k : bit (key_is x.key y) ≡ 1 = ap bit (eq-eqb y.key x.key (target_apart x y gx gy p)) in omega arith) in
              hit_cons (T y) (map T (keep G es)) (T x) ∙ ap₂ ◌||◌ differ ih
          | false ↦ λ _. ih
        ]) refl

    apart_targets : (es : List SceneEntry) → Good es → Apart (map T (keep G es))
    apart_targets [] gd = tt
    apart_targets (x ∷ es) gd =
        let rest = rest_good x es gd in
        let n : count (key_is x.key) es ≡ 0 = omega (arith, gd.once x.key, ap bit (eq-eqb x.key x.key refl)) in
        (elim (G x) as (λ b. G x ≡ b → Apart (map T (cond b (x ∷ keep G es) (keep G es))))
        [ true ↦ λ gx. (hits_none x gx es n, apart_targets es rest) | false ↦ λ _. apart_targets es rest ]) refl

    whole_targets : 1 ≤ f → (es : List SceneEntry) → Good es → Targets f (map T (keep G es))
    whole_targets nf es gd = record {
      own = own_targets (keep G es);
      apart = apart_targets es gd;
      fine = fine_targets nf (λ n. absurd (false≢true (sym n ∙ all))) (keep G es) (keep_good G es gd).fine;
    }

    whole_often : (es et : List SceneEntry) → ((q : SceneEntry → Bool) → Within f q → count q es ≡ count q et) → Often (map T (keep G es)) (map T (keep G et))
    whole_often es et same p =
        let c : (xs : List SceneEntry) → count p (map T (keep G xs)) ≡ count (λ x. G x && p (T x)) xs = λ xs. count_map p T (keep G xs) ∙ count-keep (λ x. p (T x)) G xs in
        c es ∙ same (λ x. G x && p (T x)) (λ x k. group-within f e g he hg x (both (G x) (p (T x)) k).0) ∙ sym (c et)

-- ---- the sources

first_fine : (h : SceneEntry → Bool) (es : List SceneEntry) → count bad es ≡ 0 → count bad (first (find h es)) ≡ 0
first_fine h es z =
    let o : (y : Option SceneEntry) → count bad (first y) ≡ opt bad y = λ y. elim y as (λ y. count bad (first y) ≡ opt bad y) [ none ↦ refl | some x ↦ omega arith ] in
    omega (arith, o (find h es), count_take_out bad h es)

sources_fine : (f e mode g s : ℕ) (v : View) → Inv v → count bad (sources f e mode g s v) ≡ 0
sources_fine f e mode g s v i =
    cond_elim (λ (xs : List SceneEntry). count bad xs ≡ 0) (whole_group mode)
    (λ _. (keep_good (holds (group_keys f e g)) v.entries i.good).fine) (λ _. first_fine (key_is (word_of (scene_key f e g s))) v.entries i.good.fine)

-- ---- the command

copy_out_inv : (f : ℕ) (scope : Scope) (xs : List SceneEntry) (v : View) → count bad xs ≡ 0 → Inv v → Inv (copy_out f scope xs v).1
copy_out_inv f scope [] v nb i = i
copy_out_inv f scope (x ∷ xs) v nb i =
    let j : Inv (written_all f (x ∷ xs) v).1 = written_all_inv f (x ∷ xs) v nb i in
    cond_elim (λ (q : Seen). Inv q.1) (written_all f (x ∷ xs) v).0 (λ _. invalidated_inv scope (written_all f (x ∷ xs) v).1 j) (λ _. j)

copy_out_kept : (f : ℕ) (c : Command) (scope : Scope) (v w : View) (xs ys : List SceneEntry) → length xs ≡ length ys
    → Kept f c (copied scope (written_all f xs v)) (copied scope (written_all f ys w)) → Sim f v w → Kept f c (copy_out f scope xs v) (copy_out f scope ys w)
copy_out_kept f c scope v w [] [] l k a = kept refl a
copy_out_kept f c scope v w [] (y ∷ ys) l k a = absurd (omega arith)
copy_out_kept f c scope v w (x ∷ xs) [] l k a = absurd (omega arith)
copy_out_kept f c scope v w (x ∷ xs) (y ∷ ys) l k a = k

module _ (f : ℕ) (c : Command) (v w : View) (i : Inv v) (j : Inv w) (a : Sim f v w) where
  single_kept : (scope : Scope) → ((v' w' : View) → Sim f v' w' → Sim f (invalidated scope v') (invalidated scope w')) → (y : SceneEntry) → fabric_of y.key ≡ f
      → Kept f c (copied scope (written_all f (y ∷ []) v)) (copied scope (written_all f (y ∷ []) w))
  unfolding written_all
  single_kept scope look y own =
      let k = key_is y.key in
      let here = has k v.entries in
      let more = ltb 0 (room_in f v) in
      cond_two (λ (o o' : Bool × View). Kept f c (copied scope o) (copied scope o')) (here || more) (has k w.entries || ltb 0 (room_in f w))
      (λ z. found (sim_find f v w a y.key own j.good z) || ltb 0 (sim_room f v w a z))
      (λ p _.
      kept refl (look (written y v) (written y w)
      (sim_put f v w a y own i j (λ q. omega (arith, ltb-true 0 (room_in f v) (or_other here more p q), room-places f v)))))
      (λ _ _. kept refl a)

  whole-kept : (scope : Scope) → ((v' w' : View) → Sim f v' w' → Sim f (invalidated scope v') (invalidated scope w')) → (whole : whole_copy c ≡ true) (xs ys : List SceneEntry) → Often xs ys → Targets f xs → Targets f ys
      → Kept f c (copy_out f scope xs v) (copy_out f scope ys w)
  whole-kept scope look whole xs ys often tx ty =
      copy_out_kept f c scope v w xs ys (length-count xs ∙ often (λ _. true) ∙ sym (length-count ys))
      (cond_two (Kept f c) (written_all f xs v).0 (written_all f ys w).0 (copies_same f v w i j a xs ys often tx ty)
      (λ ok _. kept refl (look (written_all f xs v).1 (written_all f ys w).1 (copied_sim f v w i j a xs ys often tx ty ok)))
      (λ _ _. record { same = same_of refl; onward = λ z. absurd (false≢true (sym z ∙ ap (λ (b : Bool). b && true) whole)) })) a

module _ (f e : ℕ) (hf : f < 2 ^ 8) (he : e < 2 ^ 16) where
  pub copy_responds : (mode g s h r : ℕ) (m n : Membership) → CommandInRange (copy mode g s h r m n) → gate_of f e (copy mode g s h r m n) ≡ 0
      → Responds f (copy mode g s h r m n) (λ v.
      cond (eqb (room_in f v) 0) (refuse insufficient_space, v)
      (copy_out f (scope_of f e mode h r) (map (target f e mode h r) (sources f e mode g s v)) v))
  copy_responds mode g s h r m n hc z =
      let To = target f e mode h r in
      let c = copy mode g s h r m n in
      let p = copy_passed (copy_request f e mode g s h r) m n z in
      let k = word_of (scene_key f e g s) in
      record {
        alike = λ v w i j a.
            cond_two (Kept f c) (eqb (room_in f v) 0) (eqb (room_in f w) 0) (ap (λ (u : ℕ). eqb u 0) (sim_room f v w a)) (λ _ _. kept refl a)
            (λ _ _.
            (elim (whole_group mode) as (λ b. whole_group mode ≡ b → Kept f c
            (copy_out f (cond b (Group (group_key f e h)) (Scene (scene_key f e h r))) (map To (cond b (keep (holds (group_keys f e g)) v.entries) (first (find (key_is k) v.entries)))) v)
            (copy_out f (cond b (Group (group_key f e h)) (Scene (scene_key f e h r))) (map To (cond b (keep (holds (group_keys f e g)) w.entries) (first (find (key_is k) w.entries)))) w)) [
              | true ↦ λ all.
                  whole-kept f c v w i j a (Group (group_key f e h)) (λ v' w'. sim_invalidated f (Group (group_key f e h)) v' w' (group-seen (group_key f e h))) all
                  (map To (keep (holds (group_keys f e g)) v.entries)) (map To (keep (holds (group_keys f e g)) w.entries))
                  (whole_often f e mode g h r hf he hc.1 hc.3 hc.4 all v.entries w.entries a.scenes)
                  (whole_targets f e mode g h r hf he hc.1 hc.3 hc.4 all p.0 v.entries i.good)
                  (whole_targets f e mode g h r hf he hc.1 hc.3 hc.4 all p.0 w.entries j.good)
              | false ↦ λ one.
                  let scope = Scene (scene_key f e h r) in
                  subst (λ (o : Option SceneEntry). Kept f c (copy_out f scope (map To (first (find (key_is k) v.entries))) v) (copy_out f scope (map To (first o)) w))
                  (sim_find f v w a k (key-fabric f e g s hf he hc.1 hc.2) j.good)
                  (elim (find (key_is k) v.entries) as (λ o. Kept f c (copy_out f scope (map To (first o)) v) (copy_out f scope (map To (first o)) w)) [
                    | none ↦ kept refl a
                    | some x ↦ single_kept f c v w i j a scope (λ v' w'. sim_invalidated f scope v' w' (scene-seen (scene_key f e h r))) (To x)
                        (target_fabric f e mode g h r hf he hc.1 hc.3 hc.4 x)
                  ])
            ]) refl);
        leaves = λ v i.
            cond_elim (λ (o : Seen). Inv o.1) (eqb (room_in f v) 0) (λ _. i)
            (λ _.
            copy_out_inv f (scope_of f e mode h r) (map To (sources f e mode g s v)) v
            (fine_targets f e mode g h r hf he hc.1 hc.3 hc.4 p.0 p.1 (sources f e mode g s v) (sources_fine f e mode g s v i)) i);
      }
