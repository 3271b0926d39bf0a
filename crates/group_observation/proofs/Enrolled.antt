-- A node that was filled only by what asks has a membership for each of its scenes outside group 0. Assumes nothing.
use Prim.Native.Nat.{ℕ, ◌+◌, ◌*◌, ◌/◌, ◌^◌, ◌≤◌, ◌<◌}
use native.Mathlib.Omega.{arith}
use mathlib.Core.Path.{◌≡◌, refl, sym, ap, ◌∙◌, subst}
use mathlib.Core.Bool.{Bool, true, false, cond, not, ◌&&◌, false≢true}
use mathlib.Core.List.{List, [], ◌∷◌, map}
use mathlib.Core.Logic.{◌⊎◌, inl, inr}
use lib.Dec.{eqb}
use borrow.Author.Tests.{eqb-true, eqb-false, eq-eqb, ne_eqb}
use Rattle.words.specs.Constants.{success, no_fabric, max_memberships}
use Rattle.words.specs.Words.{fabric_of, endpoint_of, group_of, within, fabric_keys, group_keys}
use Rattle.words.specs.Below.{positions}
use Rattle.words.specs.declared.GroupKey.{GroupKey}
use Rattle.words.specs.declared.KeyRange.{KeyRange}
use Rattle.words.proofs.Ranges.{fabric-keys, group-keys}
use Rattle.words.proofs.Tests.{and_intro, and_true, and_false, not_false}
use Rattle.slots.specs.Slots.{SceneEntry, entry_at}
use Rattle.requests.specs.declared.Membership.TheVariants.{Yes, No}
use Rattle.requests.specs.Requests.{fabric_gate, member_gate, answered, add_gate, store_gate, lookup_gate, group_gate, copy_gate}
use Rattle.add_read.specs.Adding.{add_read_gate}
use Rattle.state.specs.Table.{Table, entries_in}
use Rattle.lifecycle.specs.Lifecycle.{remove_for_fabric, factory_reset}
use Rattle.groups.specs.Groups.{Groups, group_word, groups_sound, ungrouped_gate, words_in, is_member, member_of, Joined, join_group, with_member, retain_groups, no_groups}
use Rattle.asking.specs.Asking.{Both, both_refused, following, held_gate, leave_gate, remove_for_fabric_both, factory_reset_both}
use Rattle.observation.specs.Lists.{bit, count, find}
use Rattle.observation.specs.Calls as calls
use Rattle.observation.specs.Calls.{group_key}
use Rattle.observation.specs.Equivalence.{mine}
use Rattle.observation.proofs.Lists.{has}
use Rattle.observation.proofs.Lookups.{holds}
use Rattle.observation.proofs.Changes.{View, view_of, invalidated}
use Rattle.observation.proofs.Effects.{Seen, gate_of}
use Rattle.observation.proofs.Counts.{both, count-append, count_ext, count-keep, find_none}
use Rattle.observation.proofs.Choices.{cond_elim, bit_zero, lost, count_less, count_keep_le, has_same, has_count, count_has}
use Rattle.observation.proofs.Calls.{laws}
use Rattle.observation.proofs.Brought.{group_named, None, none_brought}
use Rattle.observation.proofs.Bits.{rebuilt}
use Rattle.observation.proofs.Passed.{free_let, member_let, group_let}
use Rattle.observation.proofs.Reach as reach
use Rattle.observation.proofs.Theorem.{none_passes}
use Rattle.group_observation.specs.Nodes.{Node, Command, add, add_read, view, remove, remove_all, store, recall, copy, membership, info, join, leave, Call, command, removal, reset, on_scenes, Out, does, step, next, CommandInRange, InRange}
use Rattle.group_observation.specs.Equivalence.{Reached, begun, after, NoneSince, fills, ReachedEnrolled}
use Rattle.requests.proofs.Passed.{first_pass, if_pass, fabric_pass}
use Rattle.group_observation.proofs.Words.{is_word, none_kept, member_has, word_in_range, joined_words, joined-sound, kept-words, kept-sound}
use Rattle.group_observation.proofs.Asks.{asking-sound, asks, tells, tells_range, told, left, stays}
use Rattle.group_observation.proofs.Reach.{Joining, turned, again, full, new, joining, joins, Standing, reached_standing}

-- the group of a key word
abbrev pub group_in : ℕ → GroupKey
group_in k = group_key (fabric_of k) (endpoint_of k) (group_of k)

-- a scene outside group 0 without its membership
abbrev pub orphan : Groups → SceneEntry → Bool
orphan g x = not (eqb (group_of x.key) 0) && not (is_member (group_in x.key) g)

-- no such scene
abbrev pub Cared : Groups → Table → Type 0
Cared g t = None (orphan g) (view_of t)

-- ---- past the gate the group is 0 or held

pub group-passed : (f e : ℕ) (g : Groups) (c : Command) → gate_of f e (tells g f e c) ≡ 0 → asks c ≡ true
    → member_gate (group_named (tells g f e c)) (member_of (group_key f e (group_named (tells g f e c))) g) ≡ 0
unfolding add_gate add_read_gate store_gate lookup_gate group_gate copy_gate
group-passed f e gs (add g s time pairs ext) z q = (first_pass _ _ (first_pass _ _ (first_pass _ _ (first_pass _ _ z).1).1).1).0
group-passed f e gs (add_read g s time pairs ext) z q = (first_pass _ _ (first_pass _ _ (first_pass _ _ (first_pass _ _ z).1).1).1).0
group-passed f e gs (view g s) z q = (first_pass _ _ (first_pass _ _ (first_pass _ _ z).1).1).0
group-passed f e gs (remove g s) z q = (first_pass _ _ (first_pass _ _ (first_pass _ _ z).1).1).0
group-passed f e gs (remove_all g) z q = (first_pass _ _ (first_pass _ _ z).1).0
group-passed f e gs (store g s captured) z q = (first_pass _ _ (first_pass _ _ (first_pass _ _ z).1).1).0
group-passed f e gs (recall g s o a) z q = (first_pass _ _ (first_pass _ _ (first_pass _ _ z).1).1).0
group-passed f e gs (copy mode g s h r) z q = (first_pass _ _ (first_pass _ _ (first_pass _ _ (first_pass _ _ (first_pass _ _ z).1).1).1).1).0
group-passed f e gs (membership g buffer) z q = (first_pass _ _ (first_pass _ _ z).1).0
group-passed f e gs (info single) z q = free_let (member_of (group_key f e 0) gs)
group-passed f e gs (join g) z q = absurd (false≢true q)
group-passed f e gs (leave g) z q = absurd (false≢true q)

pub passed-member : (n : ℕ) (k : GroupKey) (g : Groups) → member_gate n (member_of k g) ≡ 0 → (n ≡ 0 → ⊥) → is_member k g ≡ true
unfolding member_gate member_of
passed-member n k g z h =
    let z' : answered (cond (is_member k g) Yes No) ≡ 0 = sym (ap (λ (b : Bool). cond b 0 (answered (cond (is_member k g) Yes No))) (ne_eqb n 0 h)) ∙ z in
    (elim (is_member k g) as (λ b. answered (cond b Yes No) ≡ 0 → b ≡ true) [ true ↦ λ _. refl | false ↦ λ y. absurd (omega (arith, y)) ]) z'

held-passed : (n : ℕ) (k : GroupKey) (g : Groups) → is_member k g ≡ true → member_gate n (member_of k g) ≡ 0
unfolding member_of
held-passed n k g m = ap (λ (b : Bool). member_gate n (cond b Yes No)) m ∙ member_let n

-- a scene in a group that is 0 or held
in_held : (f e n : ℕ) (g : Groups) (x : SceneEntry) → e < 2 ^ 16 → n < 2 ^ 16 → member_gate n (member_of (group_key f e n) g) ≡ 0
    → holds (group_keys f e n) x ≡ true → orphan g x ≡ false
in_held f e n g x he hn z h =
    let k = x.key in
    let parts = sym (group-keys f e n k he hn) ∙ h in
    let pf : fabric_of k ≡ f = eqb-true (fabric_of k) f (both (eqb (fabric_of k) f) (eqb (endpoint_of k) e && eqb (group_of k) n) parts).0 in
    let rest = (both (eqb (fabric_of k) f) (eqb (endpoint_of k) e && eqb (group_of k) n) parts).1 in
    let pe : endpoint_of k ≡ e = eqb-true (endpoint_of k) e (both (eqb (endpoint_of k) e) (eqb (group_of k) n) rest).0 in
    let pn : group_of k ≡ n = eqb-true (group_of k) n (both (eqb (endpoint_of k) e) (eqb (group_of k) n) rest).1 in
    let group : group_in k ≡ group_key f e n = λ i. group_key (pf i) (pe i) (pn i) in
    (elim (eqb n 0) as (λ b. eqb n 0 ≡ b → orphan g x ≡ false) [
      | true ↦ λ q. ap (λ (b : Bool). not b && not (is_member (group_in k) g)) (eq-eqb (group_of k) 0 (pn ∙ eqb-true n 0 q))
      | false ↦ λ q.
          ap (λ (b : Bool). not (eqb (group_of k) 0) && not b) (ap (λ (y : GroupKey). is_member y g) group ∙ passed-member n (group_key f e n) g z (eqb-false n 0 q))
          ∙ and_false (not (eqb (group_of k) 0))
    ]) refl

named_small : (gs : Groups) (f e : ℕ) (c : Command) → CommandInRange c → group_named (tells gs f e c) < 2 ^ 16
named_small gs f e (add g s time pairs ext) w = w.0
named_small gs f e (add_read g s time pairs ext) w = w.0
named_small gs f e (view g s) w = w.0
named_small gs f e (remove g s) w = w.0
named_small gs f e (remove_all g) w = w
named_small gs f e (store g s captured) w = w.0
named_small gs f e (recall g s o a) w = w.0
named_small gs f e (copy mode g s h r) w = w.3
named_small gs f e (membership g buffer) w = w.0
named_small gs f e (info single) w = omega arith
named_small gs f e (join g) w = omega arith
named_small gs f e (leave g) w = w

-- ---- the memberships that are left

module _ (k : GroupKey) (g : Groups) (sd : groups_sound g ≡ true) where
  -- a membership more takes none away
  more_held : (j : GroupKey) (h : g.state.held < max_memberships) → groups_sound (with_member j g) ≡ true → is_member k g ≡ true → is_member k (with_member j g) ≡ true
  more_held j h sd' m =
      let w = is_word (group_word k) in
      let p = both (not (eqb k.group 0)) (has w (words_in g)) (sym (member_has g sd k) ∙ m) in
      let n : count w (words_in (with_member j g)) ≡ count w (words_in g) + count w (group_word j ∷ []) =
      ap (count w) (joined_words j g sd h) ∙ count-append w (words_in g) (group_word j ∷ []) in
      member_has (with_member j g) sd' k ∙ and_intro _ _ p.0 (has_count w (words_in (with_member j g)) (omega (arith, n, count_has w (words_in g) p.1)))

  -- a drop takes those in its range
  kept-held : (r : KeyRange) → groups_sound (retain_groups r g) ≡ true → within r (group_word k) ≡ false → is_member k (retain_groups r g) ≡ is_member k g
  kept-held r sd' out =
      let w = is_word (group_word k) in
      let other : ℕ → Bool = λ x. not (within r x) in
      let n : count w (words_in (retain_groups r g)) ≡ count w (words_in g) =
      ap (count w) (kept-words r g sd) ∙ count-keep w other (words_in g)
      ∙ count_ext (λ x. other x && w x) w (λ x.
      (elim (w x) as (λ b. w x ≡ b → (other x && b) ≡ b) [
        | true ↦ λ q. ap (λ (b : Bool). not b && true) (ap (within r) (eqb-true x (group_word k) q) ∙ out)
        | false ↦ λ q. and_false (other x)
      ]) refl) (words_in g) in
      member_has (retain_groups r g) sd' k
      ∙ ap (λ (b : Bool). not (eqb k.group 0) && b) (has_same w (words_in (retain_groups r g)) (words_in g) n) ∙ sym (member_has g sd k)

-- ---- a call of the scenes that brings none

module _ (g : Groups) (t : Table) (st : reach.Standing t) (z : Cared g t) where
  -- by a law of what it leaves
  less : (c : calls.Call) (v : View) → view_of (calls.next c t) ≡ v → ((p : SceneEntry → Bool) → count p v.entries ≤ count p (view_of t).entries)
      → Cared g (calls.next c t)
  less c v e h = subst (None (orphan g)) (sym e) (record { gone = omega (arith, h (orphan g), z.gone) })

  scenes_cared : (c : calls.Call) → calls.InRange c → fills (on_scenes c) ≡ false → Cared g (calls.next c t)
  unfolding invalidated
  scenes_cared (calls.command f e c) w q = absurd (false≢true (sym q))
  scenes_cared (calls.notice e) w q =
      less (calls.notice e) _ (ap (λ (o : Seen). o.1) ((laws.events t st.intact).notice_acts e w)) (λ p. omega arith)
  scenes_cared (calls.removal f) w q =
      (elim (eqb f 0) as (λ b. eqb f 0 ≡ b → Cared g (calls.next (calls.removal f) t)) [
        | true ↦ λ y.
            subst (λ (n : ℕ). Cared g (calls.next (calls.removal n) t)) (sym (eqb-true f 0 y))
            (less (calls.removal 0) (view_of t) (ap (λ (o : Seen). o.1) (laws.events t st.intact).removal-refused) (λ p. omega arith))
        | false ↦ λ y.
            less (calls.removal f) _ (ap (λ (o : Seen). o.1) ((laws.events t st.intact).removal_acts f w (eqb-false f 0 y)))
            (λ p. count_keep_le p (λ x. not (mine f x)) (view_of t).entries)
      ]) refl
  scenes_cared calls.reset w q = less calls.reset _ (ap (λ (o : Seen). o.1) (laws.events t st.intact).reset_acts) (λ p. omega arith)
  scenes_cared calls.start w q = less calls.start _ (ap (λ (o : Seen). o.1) (laws.events t st.intact).start_acts) (λ p. omega arith)
  scenes_cared calls.failSafeEvent w q = less calls.failSafeEvent _ (ap (λ (o : Seen). o.1) (laws.events t st.intact).fail_safe_acts) (λ p. omega arith)
  scenes_cared (calls.load image) w q = absurd (false≢true (sym q))

-- ---- a call of the node

two_less : {A : Type 0} (p q r : A → Bool) → ((x : A) → q x ≡ false → r x ≡ false → p x ≡ false) → (xs : List A) → count q xs ≡ 0 → count r xs ≡ 0 → count p xs ≡ 0
two_less p q r h [] a b = refl
two_less p q r h (x ∷ xs) a b =
    omega (arith, ap bit (h x (bit_zero (q x) (omega arith)) (bit_zero (r x) (omega arith))), two_less p q r h xs (omega arith) (omega arith))

-- a key and its group's word lie in the same ranges
upper : (k : ℕ) → group_word (group_in k) / 2 ^ 8 ≡ k / 2 ^ 8
upper k = omega (arith, rebuilt k)

same-group : (f e n k : ℕ) → within (group_keys f e n) (group_word (group_in k)) ≡ within (group_keys f e n) k
unfolding within
same-group f e n k = ap (λ (m : ℕ). eqb m ((f * 2 ^ 16 + e) * 2 ^ 16 + n)) (upper k)

same-fabric : (f k : ℕ) → within (fabric_keys f) (group_word (group_in k)) ≡ within (fabric_keys f) k
unfolding within
same-fabric f k = ap (λ (m : ℕ). eqb m f) (omega (arith, rebuilt k))

-- a leave that is let through has a fabric, and finds its membership
pub record Leaves (k : GroupKey) (g : Groups) : Type 0 where
  pub fabric : 1 ≤ k.fabric
  pub member : is_member k g ≡ true

pub leaves : (k : GroupKey) (g : Groups) → leave_gate k g ≡ success → Leaves k g
unfolding leave_gate
leaves k g z =
    let a = first_pass (fabric_gate k.fabric) _ z in
    let b = first_pass (ungrouped_gate k.group) _ a.1 in
    let c = (first_pass (held_gate k g) [] b.1).0 in
    record { fabric = fabric_pass k.fabric a.0; member = not_false (is_member k g) (if_pass (not (is_member k g)) 0x8B (omega arith) c) }

-- a scene outside a range that was dropped
kept_orphan : (r : KeyRange) (g : Groups) (sd : groups_sound g ≡ true) (x : SceneEntry) → within r (group_word (group_in x.key)) ≡ false
    → orphan g x ≡ false → orphan (retain_groups r g) x ≡ false
kept_orphan r g sd x out h =
    ap (λ (b : Bool). not (eqb (group_of x.key) 0) && not b) (kept-held (group_in x.key) g sd r (kept-sound r g sd) out) ∙ h

module _ (n : Node) (st : Standing n) (z : Cared n.groups n.scenes) where
  abbrev gs : Groups
  gs = n.groups

  abbrev sd : groups_sound n.groups ≡ true
  sd = st.fair.intact

  asked_cared : (f e : ℕ) (c : Command) → InRange (command f e c) → asks c ≡ true
      → Cared (next (command f e c) n).groups (next (command f e c) n).scenes
  unfolding step calls.step
  asked_cared f e c w q =
      subst (λ (o : Out). Cared o.1.groups o.1.scenes) (sym (told gs sd n.scenes f e c q))
      (none_brought (orphan gs) f e w.0 w.1 n.scenes st.scenes.intact z (tells gs f e c) (tells_range gs f e c w.2) (λ y x h.
      in_held f e (group_named (tells gs f e c)) gs x w.1 (named_small gs f e c w.2) (group-passed f e gs c y q) h))

  join_cared : (f e g : ℕ) → InRange (command f e (join g)) → Cared (join_group (group_key f e g) gs).groups n.scenes
  join_cared f e g w = go (joining key gs sd)
    where
      key : GroupKey
      key = group_key f e g

      go : Joining key gs → Cared (join_group key gs).groups n.scenes
      go (turned p e') = subst (λ (j : Joined). Cared j.groups n.scenes) (sym e') z
      go (again p m e') = subst (λ (j : Joined). Cared j.groups n.scenes) (sym e') z
      go (full p m h e') = subst (λ (j : Joined). Cared j.groups n.scenes) (sym e') z
      go (new p m h e') =
          let sd' = joined-sound key gs sd h (word_in_range key (joins key gs p).fabric w.0 w.1 w.2) in
          subst (λ (j : Joined). Cared j.groups n.scenes) (sym e') (record {
            gone =
                count_less (orphan gs) (orphan (with_member key gs)) (λ x o.
                (elim (is_member (group_in x.key) gs) as (λ b. is_member (group_in x.key) gs ≡ b → orphan (with_member key gs) x ≡ false) [
                  | true ↦ λ y.
                      ap (λ (b : Bool). not (eqb (group_of x.key) 0) && not b) (more_held (group_in x.key) gs sd key h sd' y) ∙ and_false (not (eqb (group_of x.key) 0))
                  | false ↦ λ y.
                      ap (λ (b : Bool). b && not (is_member (group_in x.key) (with_member key gs)))
                      (sym (and_true (not (eqb (group_of x.key) 0))) ∙ sym (ap (λ (b : Bool). not (eqb (group_of x.key) 0) && not b) y) ∙ o)
                ]) refl) (view_of n.scenes).entries z.gone;
          })

  -- what a remove all leaves of its group
  none_left : (f e g : ℕ) → f < 2 ^ 8 → e < 2 ^ 16 → g < 2 ^ 16 → 1 ≤ f
      → count (holds (group_keys f e g)) (view_of (calls.next (calls.command f e (calls.remove_all g Yes)) n.scenes)).entries ≡ 0
  unfolding invalidated
  none_left f e g hf he hg f1 =
      let p = holds (group_keys f e g) in
      let es = (view_of n.scenes).entries in
      subst (λ (o : Seen). count p o.1.entries ≡ 0)
      (sym ((laws.commands f e n.scenes st.scenes.intact hf he).remove_all_acts g Yes hg (group_let f e g f1)))
      (cond_elim (λ (o : Seen). count p o.1.entries ≡ 0) (has p es)
      (λ _. none_kept p es)
      (λ h. find_none p es (lost (find p es) h)))

  leave_cared : (f e g : ℕ) → InRange (command f e (leave g)) → Cared (next (command f e (leave g)) n).groups (next (command f e (leave g)) n).scenes
  unfolding step does calls.step calls.does
  leave_cared f e g w =
      let key = group_key f e g in
      let r = group_keys f e g in
      (elim (eqb (leave_gate key gs) success) as (λ b. eqb (leave_gate key gs) success ≡ b → Cared (next (command f e (leave g)) n).groups (next (command f e (leave g)) n).scenes) [
        | false ↦ λ y.
            subst (λ (b : Both). Cared b.groups b.result.table) (sym (stays key gs sd n.scenes st.scenes.intact (eqb-false (leave_gate key gs) success y))) z
        | true ↦ λ y.
            let p = eqb-true (leave_gate key gs) success y in
            let l = leaves key gs p in
            let t' = calls.next (calls.command f e (calls.remove_all g Yes)) n.scenes in
            let one : Cared gs t' =
            none_brought (orphan gs) f e w.0 w.1 n.scenes st.scenes.intact z (calls.remove_all g Yes) w.2 (λ _ x h.
            in_held f e g gs x w.1 w.2 (held-passed g key gs l.member) h) in
            subst (λ (b : Both). Cared b.groups b.result.table) (sym (left key gs sd n.scenes st.scenes.intact p)) (record {
              gone =
                  two_less (orphan (retain_groups r gs)) (orphan gs) (holds r) (λ x a b. kept_orphan r gs sd x (same-group f e g x.key ∙ b) a) (view_of t').entries
                  one.gone (none_left f e g w.0 w.1 w.2 l.fabric);
            })
      ]) refl

  -- no scene of a removed fabric is left
  none_mine : (f : ℕ) → f < 2 ^ 8 → (f ≡ 0 → ⊥) → count (mine f) (view_of (calls.next (calls.removal f) n.scenes)).entries ≡ 0
  none_mine f hf h =
      let es = (view_of n.scenes).entries in
      ap (λ (o : Seen). count (mine f) o.1.entries) ((laws.events n.scenes st.scenes.intact).removal_acts f hf h)
      ∙ none_kept (mine f) es

  removal_cared : (f : ℕ) → f < 2 ^ 8 → Cared (next (removal f) n).groups (next (removal f) n).scenes
  unfolding step calls.step remove_for_fabric_both
  removal_cared f w =
      let t' = calls.next (calls.removal f) n.scenes in
      let one : Cared gs t' = scenes_cared gs n.scenes st.scenes z (calls.removal f) w refl in
      let went = eqb (remove_for_fabric f n.scenes).status success in
      subst (λ (b : Both). Cared b.groups b.result.table)
      (sym (asking-sound gs sd (both_refused gs n.scenes) (following (remove_for_fabric f n.scenes) (retain_groups (fabric_keys f) gs) gs)))
      (cond_elim (λ (h : Groups). Cared h t') went
      (λ y. record {
        gone =
            two_less (orphan (retain_groups (fabric_keys f) gs)) (orphan gs) (mine f)
            (λ x a b. kept_orphan (fabric_keys f) gs sd x (same-fabric f x.key ∙ fabric-keys f x.key ∙ b) a) (view_of t').entries one.gone
            (none_mine f w (λ e. some_fabric f e y));
      })
      (λ _. one))
    where
      -- fabric 0 is refused
      some_fabric : (m : ℕ) → m ≡ 0 → eqb (remove_for_fabric m n.scenes).status success ≡ true → ⊥
      some_fabric m e y =
          let s : (remove_for_fabric m n.scenes).status ≡ no_fabric =
          ap (λ (k : ℕ). (remove_for_fabric k n.scenes).status) e ∙ ap (λ (o : Seen). o.0.status) (laws.events n.scenes st.scenes.intact).removal-refused in
          let w' : ⊥ = omega (arith, eqb-true (remove_for_fabric m n.scenes).status success y, s) in w'

  reset_cared : Cared (next reset n).groups (next reset n).scenes
  unfolding step calls.step factory_reset_both
  reset_cared =
      let t' = calls.next calls.reset n.scenes in
      let empty : (view_of t').entries ≡ [] = ap (λ (o : Seen). o.1.entries) (laws.events n.scenes st.scenes.intact).reset_acts in
      let any : (h : Groups) → Cared h t' = λ h. record { gone = ap (count (orphan h)) empty } in
      subst (λ (b : Both). Cared b.groups b.result.table)
      (sym (asking-sound gs sd (both_refused gs n.scenes) (following (factory_reset n.scenes) (no_groups gs) gs)))
      (any (cond (eqb (factory_reset n.scenes).status success) (no_groups gs) gs))

  pub step_cared : (c : Call) → InRange c → fills c ≡ false → Cared (next c n).groups (next c n).scenes
  unfolding step does
  step_cared (command f e (add g k time pairs ext)) w q = asked_cared f e (add g k time pairs ext) w refl
  step_cared (command f e (add_read g k time pairs ext)) w q = asked_cared f e (add_read g k time pairs ext) w refl
  step_cared (command f e (view g k)) w q = asked_cared f e (view g k) w refl
  step_cared (command f e (remove g k)) w q = asked_cared f e (remove g k) w refl
  step_cared (command f e (remove_all g)) w q = asked_cared f e (remove_all g) w refl
  step_cared (command f e (store g k captured)) w q = asked_cared f e (store g k captured) w refl
  step_cared (command f e (recall g k o a)) w q = asked_cared f e (recall g k o a) w refl
  step_cared (command f e (copy mode g k h r)) w q = asked_cared f e (copy mode g k h r) w refl
  step_cared (command f e (membership g buffer)) w q = asked_cared f e (membership g buffer) w refl
  step_cared (command f e (info single)) w q = asked_cared f e (info single) w refl
  step_cared (command f e (join g)) w q = join_cared f e g w
  step_cared (command f e (leave g)) w q = leave_cared f e g w
  step_cared (removal f) w q = removal_cared f w
  step_cared reset w q = reset_cared
  step_cared (on_scenes c) w q = scenes_cared gs n.scenes st.scenes z c w q

-- ---- reached nodes

pub reached_cared : {n : Node} (r : Reached n) → NoneSince fills r → Cared n.groups n.scenes
unfolding view_of entries_in positions
reached_cared (begun n s e r g h) a =
    let none : (view_of n.scenes).entries ≡ [] = ap (λ (m : ℕ). map (entry_at n.scenes.slots) (positions m)) e in
    record { gone = ap (count (orphan n.groups)) none }
reached_cared (after c {n} w r) a = step_cared n (reached_standing r) (reached_cared r a.1) c w a.0

not_orphan : (g : Groups) (x : SceneEntry) → orphan g x ≡ false → (group_of x.key ≡ 0) ⊎ (is_member (group_in x.key) g ≡ true)
not_orphan g x e =
    (elim (eqb (group_of x.key) 0) as (λ b. eqb (group_of x.key) 0 ≡ b → (group_of x.key ≡ 0) ⊎ (is_member (group_in x.key) g ≡ true)) [
      | true ↦ λ q. inl (eqb-true (group_of x.key) 0 q)
      | false ↦ λ q. inr (not_false (is_member (group_in x.key) g) (sym (ap (λ (b : Bool). not b && not (is_member (group_in x.key) g)) q) ∙ e))
    ]) refl

pub reached_enrolled : ReachedEnrolled
unfolding view_of
reached_enrolled n r a x m = not_orphan n.groups x (none_passes (orphan n.groups) (entries_in n.scenes) (reached_cared r a).gone x m)
