-- Each command and read but copy, by what its law says over a view: it answers two views that are alike to its fabric alike and leaves
-- them alike, and it keeps the invariant. Assumes nothing.
use Prim.Native.Nat.{ℕ, ◌^◌, ◌≤◌, ◌<◌, min}
use native.Mathlib.Omega.{arith}
use mathlib.Core.Path.{◌≡◌, refl, sym, ap, ◌∙◌, subst}
use mathlib.Core.Bool.{Bool, true, false, cond, not, ◌&&◌}
use mathlib.Core.List.Permᴰ
use mathlib.Core.List.{List, [], ◌∷◌, ◌++◌}
use mathlib.Core.Option.{Option, none, some, map, none-ne-some, some-ne-none, some-injective}
use lib.ListN.{length, length-append}
use lib.Dec.{ltb, eqb}
use borrow.Author.Tests.{eq-eqb, not-false}
use Rattle.words.specs.Constants.{success, insufficient_space, not_found, buffer_too_short, max_fields, max_shown, max_remaining, end_of_container}
use Rattle.words.specs.Words.{word_of, fabric_of, scene_of, endpoint_keys, group_keys}
use Rattle.words.proofs.Tests.{and_left}
use Rattle.words.proofs.Ranges.{endpoint-keys, group-keys}
use Rattle.slots.specs.Slots.{SceneEntry}
use Rattle.records.specs.declared.Scope.TheVariants.{Scene, Group}
use Rattle.requests.specs.declared.Membership.{Membership}
use Rattle.commands.specs.declared.Applied.{Applied}
use Rattle.reads.specs.Reads.{Transition}
use Rattle.observation.specs.Lists.{bit, count, find, keep}
use Rattle.observation.specs.Calls.{Command, view, remove, remove_all, store, recall, membership, info, Answer, scene_key, group_key, CommandInRange}
use Rattle.observation.specs.Equivalence.{key_is, Same, whole_copy, seen}
use Rattle.observation.proofs.Lists.{found, has, take_out, Often}
use Rattle.observation.proofs.Lookups.{holds, entry_of}
use Rattle.observation.proofs.Changes.{View, used_in, current_in, place_for, entries_set, written, invalidated, remembered}
use Rattle.observation.proofs.Effects.{Seen, refuse, done, shown, gate_of, time_of, viewed, applied, recalled, add_out, ids_in, remaining_in, row, info_out}
use Rattle.observation.proofs.Counts.{count-keep, count_map, length-count, find-put}
use Rattle.observation.proofs.Choices.{cond_elim, cond_two, has_same, less_take_out, less_keep}
use Rattle.observation.proofs.Bits.{key-fabric}
use Rattle.observation.proofs.Places.{places-free}
use Rattle.observation.proofs.Invariant.{Inv, FineKey, named_fine, entry_fine, placed, written_inv, shrunk_inv, take_out_good, keep_good, invalidated_inv, remembered_inv}
use Rattle.observation.proofs.Simulation.{Within, Sim, used-found, sim_find, sim_room, sim_place, sim_found, sim_put, sim_take_out, sim_keep, sim_invalidated, scene-seen, group-seen, sim_remembered}
use Rattle.observation.proofs.Order.{ids_perm}
use Rattle.requests.proofs.Passed.{Named, lookup-passed, store-passed}

-- two runs of a command: equal answers, and views alike, unless the list ends
pub record Kept (f : ℕ) (c : Command) (o o' : Seen) : Type 0 where
  pub same : Same o.0 o'.0
  pub onward : (whole_copy c && eqb o.0.status insufficient_space) ≡ false → Sim f o.1 o'.1

-- r is what a command makes of a view
pub record Responds (f : ℕ) (c : Command) (r : View → Seen) : Type 0 where
  pub alike : (v w : View) → Inv v → Inv w → Sim f v w → Kept f c (r v) (r w)
  pub leaves : (v : View) → Inv v → Inv (r v).1

pub same_of : {a b : Answer} → a ≡ b → Same a b
same_of {a} e = subst (Same a) e (record { status = refl; save = refl; values = refl; ids = Permᴰ.refl a.ids })

pub kept : {f : ℕ} {c : Command} {o o' : Seen} → o.0 ≡ o'.0 → Sim f o.1 o'.1 → Kept f c o o'
kept e a = record { same = same_of e; onward = λ _. a }

pub refused_responds : (f n : ℕ) (c : Command) → Responds f c (λ v. (refuse n, v))
refused_responds f n c = record { alike = λ v w i j a. kept refl a; leaves = λ v i. i }

-- ---- a fabric with a scene is alive

used-written : (f : ℕ) (x : SceneEntry) (v : View) → fabric_of x.key ≡ f → 1 ≤ used_in f (written x v)
used-written f x v h = used-found f x.key (written x v) h (ap found (find-put (key_is x.key) x (eq-eqb x.key x.key refl) v.entries))

-- ---- the ranges are the fabric's

pub group-within : (f e g : ℕ) → e < 2 ^ 16 → g < 2 ^ 16 → Within f (holds (group_keys f e g))
group-within f e g he hg x q = and_left (eqb (fabric_of x.key) f) _ (sym (group-keys f e g x.key he hg) ∙ q)

endpoint-within : (f e : ℕ) → e < 2 ^ 16 → Within f (holds (endpoint_keys f e))
endpoint-within f e he x q = and_left (eqb (fabric_of x.key) f) _ (sym (endpoint-keys f e x.key he) ∙ q)

-- ---- info's row

row_seen : (f : ℕ) {n n' left left' : ℕ} → n ≡ n' → left ≡ left' → (o o' : Option ℕ) → map seen o ≡ map seen o' → row n left f o ≡ row n' left' f o'
row_seen f p q none none e = λ i. min (p i) max_shown ∷ 0 ∷ 0 ∷ 0 ∷ q i ∷ f ∷ []
row_seen f p q none (some w) e = absurd (none-ne-some (seen w) e)
row_seen f p q (some u) none e = absurd (some-ne-none (seen u) e)
row_seen f p q (some u) (some w) e =
    let r = some-injective (seen u) (seen w) e in
    λ i. min (p i) max_shown ∷ (r i).group ∷ (r i).scene ∷ bit (r i).valid ∷ q i ∷ f ∷ []

sim_remaining : (f : ℕ) (v w : View) → Sim f v w → remaining_in f v ≡ remaining_in f w
sim_remaining f v w a = ap (λ (n : ℕ). min n max_remaining) (sim_room f v w a)

-- ---- membership's list

module _ (f e g : ℕ) (he : e < 2 ^ 16) (hg : g < 2 ^ 16) where
  ids-count : (v : View) (p : ℕ → Bool) → count p (ids_in f e g v) ≡ count (λ x. holds (group_keys f e g) x && p (scene_of x.key)) v.entries
  ids-count v p =
      count_map p (λ x. scene_of x.key) (keep (holds (group_keys f e g)) v.entries) ∙ count-keep (λ x. p (scene_of x.key)) (holds (group_keys f e g)) v.entries

  ids_often : (v w : View) → Sim f v w → Often (ids_in f e g v) (ids_in f e g w)
  ids_often v w a p =
      ids-count v p
      ∙ a.scenes (λ x. holds (group_keys f e g) x && p (scene_of x.key)) (λ x q. group-within f e g he hg x (and_left (holds (group_keys f e g) x) (p (scene_of x.key)) q))
      ∙ sym (ids-count w p)

-- ---- the commands and reads

module _ (f e : ℕ) (hf : f < 2 ^ 8) (he : e < 2 ^ 16) where
  -- c is an add of either kind
  pub add_responds : (c : Command) (g s time : ℕ) (ext : List ℕ) → g < 2 ^ 16 → s < 2 ^ 8 → Named (scene_key f e g s) × (length ext ≤ max_fields)
      → Responds f c (add_out (scene_key f e g s) time ext)
  add_responds c g s time ext hg hs p =
      let key = scene_key f e g s in
      let k = word_of key in
      let x = entry_of key time ext in
      let h : fabric_of k ≡ f = key-fabric f e g s hf he hg hs in
      let fine = entry_fine x (named_fine f e g s hf he hg hs p.0.fabric p.0.scene) p.1 in
      record {
        alike = λ v w i j a.
            cond_two (Kept f c) (place_for f k v) (place_for f k w) (sim_place f v w a k h j.good)
            (λ q _. kept refl (sim_invalidated f (Scene key) (written x v) (written x w) (scene-seen key) (sim_put f v w a x h i j (placed f k v q))))
            (λ _ _. kept refl a);
        leaves = λ v i.
            cond_elim (λ (o : Seen). Inv o.1) (place_for f k v)
            (λ q. invalidated_inv (Scene key) (written x v) (written_inv x v fine (λ n. places-free f v (placed f k v q n)) i)) (λ _. i);
      }

  pub view_responds : (g s : ℕ) (m : Membership) → CommandInRange (view g s m) → Responds f (view g s m) (λ v. (viewed (find (key_is (word_of (scene_key f e g s))) v.entries), v))
  view_responds g s m hc = record {
    alike = λ v w i j a. kept (ap viewed (sim_find f v w a (word_of (scene_key f e g s)) (key-fabric f e g s hf he hc.0 hc.1) j.good)) a;
    leaves = λ v i. i;
  }

  pub remove_responds : (g s : ℕ) (m : Membership) → CommandInRange (remove g s m)
      → Responds f (remove g s m) (λ v.
      cond (has (key_is (word_of (scene_key f e g s))) v.entries)
      (done true, invalidated (Scene (scene_key f e g s)) (entries_set (take_out (key_is (word_of (scene_key f e g s))) v.entries) v))
      (refuse not_found, v))
  remove_responds g s m hc =
      let key = scene_key f e g s in
      let k = word_of key in
      let h : fabric_of k ≡ f = key-fabric f e g s hf he hc.0 hc.1 in
      record {
        alike = λ v w i j a.
            cond_two (Kept f (remove g s m)) (has (key_is k) v.entries) (has (key_is k) w.entries) (ap found (sim_find f v w a k h j.good))
            (λ _ _. kept refl (sim_invalidated f (Scene key) _ _ (scene-seen key) (sim_take_out f v w a k h i j))) (λ _ _. kept refl a);
        leaves = λ v i.
            cond_elim (λ (o : Seen). Inv o.1) (has (key_is k) v.entries)
            (λ _. invalidated_inv (Scene key) _ (shrunk_inv _ v (less_take_out (key_is k) v.entries) (take_out_good (key_is k) v.entries i.good) i)) (λ _. i);
      }

  pub remove_all_responds : (g : ℕ) (m : Membership) → CommandInRange (remove_all g m)
      → Responds f (remove_all g m) (λ v.
      cond (has (holds (group_keys f e g)) v.entries)
      (done true, invalidated (Group (group_key f e g)) (entries_set (keep (λ x. not (holds (group_keys f e g) x)) v.entries) v))
      (done false, v))
  remove_all_responds g m hg =
      let q = holds (group_keys f e g) in
      let r : SceneEntry → Bool = λ x. not (q x) in
      let key = group_key f e g in
      record {
        alike = λ v w i j a.
            cond_two (Kept f (remove_all g m)) (has q v.entries) (has q w.entries) (has_same q v.entries w.entries (a.scenes q (group-within f e g he hg)))
            (λ _ _. kept refl (sim_invalidated f (Group key) _ _ (group-seen key) (sim_keep f v w a r (λ x z. group-within f e g he hg x (not-false (q x) z)) i j)))
            (λ _ _. kept refl a);
        leaves = λ v i.
            cond_elim (λ (o : Seen). Inv o.1) (has q v.entries)
            (λ _. invalidated_inv (Group key) _ (shrunk_inv _ v (less_keep r v.entries) (keep_good r v.entries i.good) i)) (λ _. i);
      }

  pub store_responds : (g s : ℕ) (m : Membership) (captured : List ℕ) → CommandInRange (store g s m captured) → gate_of f e (store g s m captured) ≡ 0
      → Responds f (store g s m captured) (λ v.
      cond (place_for f (word_of (scene_key f e g s)) v) (
        done true,
        remembered (scene_key f e g s)
            (invalidated (Scene (scene_key f e g s))
            (written (entry_of (scene_key f e g s) (time_of (find (key_is (word_of (scene_key f e g s))) v.entries)) (captured ++ (end_of_container ∷ []))) v)),
      )
      (refuse insufficient_space, v))
  unfolding invalidated
  store_responds g s m captured hc z =
      let key = scene_key f e g s in
      let k = word_of key in
      let x : Option SceneEntry → SceneEntry = λ o. entry_of key (time_of o) (captured ++ (end_of_container ∷ [])) in
      let h : fabric_of k ≡ f = key-fabric f e g s hf he hc.0 hc.1 in
      let p = store-passed key m max_fields (length captured) z in
      let fine : FineKey k = named_fine f e g s hf he hc.0 hc.1 p.0.fabric p.0.scene in
      record {
        alike = λ v w i j a.
            let y = x (find (key_is k) v.entries) in
            cond_two (Kept f (store g s m captured)) (place_for f k v) (place_for f k w) (sim_place f v w a k h j.good)
            (λ q _.
            kept refl (subst (λ (o : Option SceneEntry). Sim f (remembered key (invalidated (Scene key) (written y v))) (remembered key (invalidated (Scene key) (written (x o) w))))
            (sim_find f v w a k h j.good)
            (sim_remembered key fine h (invalidated (Scene key) (written y v)) (invalidated (Scene key) (written y w))
            (omega (arith, used-written f y v h))
            (sim_invalidated f (Scene key) (written y v) (written y w) (scene-seen key) (sim_put f v w a y h i j (placed f k v q))))))
            (λ _ _. kept refl a);
        leaves = λ v i.
            let y = x (find (key_is k) v.entries) in
            cond_elim (λ (o : Seen). Inv o.1) (place_for f k v)
            (λ q.
            remembered_inv key fine h (invalidated (Scene key) (written y v))
            (invalidated_inv (Scene key) (written y v) (written_inv y v (entry_fine y fine (omega (arith, p.1, length-append captured (end_of_container ∷ [])))) (λ n. places-free f v (placed f k v q n)) i)))
            (λ _. i);
      }

  pub recall_responds : (g s : ℕ) (m : Membership) (o : Transition) (a : Applied) → CommandInRange (recall g s m o a) → gate_of f e (recall g s m o a) ≡ 0
      → Responds f (recall g s m o a) (λ v. (
        recalled o a (find (key_is (word_of (scene_key f e g s))) v.entries),
        cond (has (key_is (word_of (scene_key f e g s))) v.entries && applied a) (remembered (scene_key f e g s) v) v,
      ))
  recall_responds g s m o ok hc z =
      let key = scene_key f e g s in
      let k = word_of key in
      let h : fabric_of k ≡ f = key-fabric f e g s hf he hc.0 hc.1 in
      let p = lookup-passed key m z in
      let fine : FineKey k = named_fine f e g s hf he hc.0 hc.1 p.fabric p.scene in
      record {
        alike = λ v w i j a.
            let same : find (key_is k) v.entries ≡ find (key_is k) w.entries = sim_find f v w a k h j.good in
            kept (ap (recalled o ok) same)
            (cond_two (Sim f) (has (key_is k) v.entries && applied ok) (has (key_is k) w.entries && applied ok) (ap (λ (y : Option SceneEntry). found y && applied ok) same)
            (λ q _. sim_remembered key fine h v w (omega (arith, used-found f k v h (and_left (has (key_is k) v.entries) (applied ok) q))) a) (λ _ _. a));
        leaves = λ v i. cond_elim Inv (has (key_is k) v.entries && applied ok) (λ _. remembered_inv key fine h v i) (λ _. i);
      }

  pub membership_responds : (g : ℕ) (m : Membership) (buffer : List ℕ) → CommandInRange (membership g m buffer)
      → Responds f (membership g m buffer) (λ v.
      cond (ltb (length buffer) (length (ids_in f e g v))) (refuse buffer_too_short, v)
      (record { status = success; save = false; values = remaining_in f v ∷ []; ids = ids_in f e g v }, v))
  membership_responds g m buffer hc = record {
    alike = λ v w i j a.
        let often = ids_often f e g he hc.0 v w a in
        let len : length (ids_in f e g v) ≡ length (ids_in f e g w) = length-count (ids_in f e g v) ∙ often (λ _. true) ∙ sym (length-count (ids_in f e g w)) in
        cond_two (Kept f (membership g m buffer)) (ltb (length buffer) (length (ids_in f e g v))) (ltb (length buffer) (length (ids_in f e g w))) (ap (ltb (length buffer)) len)
        (λ _ _. kept refl a)
        (λ _ _. record {
          same = record { status = refl; save = refl; values = ap (λ (n : ℕ). n ∷ []) (sim_remaining f v w a); ids = ids_perm (ids_in f e g v) (ids_in f e g w) often };
          onward = λ _. a;
        });
    leaves = λ v i. cond_elim (λ (o : Seen). Inv o.1) (ltb (length buffer) (length (ids_in f e g v))) (λ _. i) (λ _. i);
  }

  pub info_responds : (single : Bool) → Responds f (info single) (λ v. (info_out f e v, v))
  info_responds single = record {
    alike = λ v w i j a.
        let n : count (holds (endpoint_keys f e)) v.entries ≡ count (holds (endpoint_keys f e)) w.entries = a.scenes (holds (endpoint_keys f e)) (endpoint-within f e he) in
        let r = row_seen f n (sim_remaining f v w a) (current_in f v) (current_in f w) a.recorded in
        let c = sim_found f v w a in
        kept (λ z. cond (eqb (n z) 0 && not (c z)) (shown []) (shown (r z))) a;
    leaves = λ v i. i;
  }
