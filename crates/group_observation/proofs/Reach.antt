-- What holds of every reached node, whatever its history: its scenes are reached by calls of the scenes, and its memberships are sound, each held once, none
-- of group 0. Assumes nothing.
use Prim.Native.Nat.{ℕ, ◌+◌, ◌^◌, ◌≤◌, ◌<◌}
use native.Mathlib.Omega.{arith}
use mathlib.Core.Path.{◌≡◌, refl, sym, ap, ◌∙◌, subst}
use mathlib.Core.Bool.{Bool, true, false, not, ◌&&◌}
use mathlib.Core.List.{[], ◌∷◌}
use lib.Dec.{eqb, ltb}
use lib.ListN.{take}
use borrow.Author.Tests.{eqb-true, eqb-false, ne_eqb, ltb-true, ltb-false}
use Rattle.words.specs.Constants.{success, memberships_full, max_memberships}
use Rattle.words.specs.Words.{group_of, within, fabric_keys}
use Rattle.words.specs.declared.GroupKey.{GroupKey}
use Rattle.words.specs.declared.KeyRange.{KeyRange}
use Rattle.requests.specs.Requests.{or_next, first_refusal, fabric_gate}
use Rattle.state.specs.Table.{Table}
use Rattle.state.specs.Sound.{sound}
use Rattle.lifecycle.specs.Lifecycle.{remove_for_fabric, factory_reset}
use Rattle.groups.specs.Groups.{Groups, group_word, groups_sound, groups_gate, ungrouped_gate, words_in, is_member, Joined, joined_of, join_gate, with_member, join_group, retain_groups, no_groups}
use Rattle.groups.proofs.Laws.{groups_few, join-refused, join-held, join_full, join-new}
use Rattle.asking.specs.Asking.{Both, both_refused, following, leave_gate, leave_group, remove_for_fabric_both, factory_reset_both}
use Rattle.observation.specs.Lists.{bit, count, find}
use Rattle.observation.specs.Calls.{group_key}
use Rattle.observation.specs.Equivalence as scenes
use Rattle.observation.proofs.Lists.{has}
use Rattle.observation.proofs.Counts.{count-append, find_none}
use Rattle.observation.proofs.Choices.{cond_elim, lost, count_keep_le}
use Rattle.observation.proofs.Calls.{laws}
use Rattle.observation.proofs.Reach as reach
use Rattle.observation.proofs.Theorem.{demand3}
use Rattle.group_observation.specs.Nodes.{Node, Command, add, add_read, view, remove, remove_all, store, recall, copy, membership, info, join, leave, Call, command, removal, reset, on_scenes, Out, does, step, next, InRange}
use Rattle.group_observation.specs.Equivalence.{Reached, begun, after, WithInputs}
use Rattle.group_observation.specs.Promises.{StaysSound}
use Rattle.requests.proofs.Passed.{first_pass, if_pass, fabric_pass}
use Rattle.group_observation.proofs.Words.{is_word, member_has, word_in_range, joined_words, joined-sound, kept-words, kept-sound, none_words, none_sound}
use Rattle.group_observation.proofs.Asks.{asking-sound, asks, told, left, stays, moved}

-- ---- what a join does

pub data Joining (k : GroupKey) (g : Groups) : Type 0 where
  turned : (join_gate k g ≡ success → ⊥) → join_group k g ≡ joined_of (join_gate k g) g → Joining k g
  again : join_gate k g ≡ success → is_member k g ≡ true → join_group k g ≡ joined_of success g → Joining k g
  full : join_gate k g ≡ success → is_member k g ≡ false → g.state.held ≡ max_memberships → join_group k g ≡ joined_of memberships_full g → Joining k g
  new : join_gate k g ≡ success → is_member k g ≡ false → g.state.held < max_memberships → join_group k g ≡ joined_of success (with_member k g) → Joining k g

pub joining : (k : GroupKey) (g : Groups) → groups_sound g ≡ true → Joining k g
joining k g sd =
    (elim (eqb (join_gate k g) success) as (λ b. eqb (join_gate k g) success ≡ b → Joining k g) [
      | false ↦ λ z. let n = eqb-false (join_gate k g) success z in turned n (sym (join-refused k g (join_gate k g) refl n))
      | true ↦ λ z.
          let p = eqb-true (join_gate k g) success z in
          (elim (is_member k g) as (λ b. is_member k g ≡ b → Joining k g) [
            | true ↦ λ m. again p m (sym (join-held k g p m))
            | false ↦ λ m.
                (elim (ltb g.state.held max_memberships) as (λ b. ltb g.state.held max_memberships ≡ b → Joining k g) [
                  | true ↦ λ l. let h = ltb-true g.state.held max_memberships l in new p m h (sym (join-new k g p m h))
                  | false ↦ λ l.
                      let h : g.state.held ≡ max_memberships = omega (arith, ltb-false g.state.held max_memberships l, groups_few g sd) in
                      full p m h (sym (join_full k g p m h))
                ]) refl
          ]) refl
    ]) refl

-- past the gate there is a fabric and a group
pub record Joins (k : GroupKey) : Type 0 where
  pub fabric : 1 ≤ k.fabric
  pub group : k.group ≡ 0 → ⊥

pub joins : (k : GroupKey) (g : Groups) → join_gate k g ≡ success → Joins k
unfolding join_gate
joins k g z =
    let a = (first_pass (groups_gate g) _ z).1 in
    let b = first_pass (fabric_gate k.fabric) _ a in
    let c = (first_pass (ungrouped_gate k.group) [] b.1).0 in
    record { fabric = fabric_pass k.fabric b.0; group = eqb-false k.group 0 (if_pass (eqb k.group 0) 0x87 (omega arith) c) }

-- and sound memberships let a fabric and a group through
pub gate_open : (f e g : ℕ) (gs : Groups) → groups_sound gs ≡ true → 1 ≤ f → 1 ≤ g → join_gate (group_key f e g) gs ≡ success
unfolding join_gate first_refusal or_next
gate_open f e g gs sd f1 g1 = rw (sd, ne_eqb f 0 (λ z. omega arith), ne_eqb g 0 (λ z. omega arith)) refl

-- ---- memberships

-- sound, each held once, none of group 0
pub record Fair (g : Groups) : Type 0 where
  pub intact : groups_sound g ≡ true
  pub once : (w : ℕ) → count (is_word w) (words_in g) ≤ 1
  pub grouped : count (λ w. eqb (group_of w) 0) (words_in g) ≡ 0

-- a membership that is not held has no word
pub not_held : (k : GroupKey) (g : Groups) → groups_sound g ≡ true → (k.group ≡ 0 → ⊥) → is_member k g ≡ false → count (is_word (group_word k)) (words_in g) ≡ 0
not_held k g sd n e =
    let h : has (is_word (group_word k)) (words_in g) ≡ false =
    sym (ap (λ (b : Bool). not b && has (is_word (group_word k)) (words_in g)) (ne_eqb k.group 0 n)) ∙ sym (member_has g sd k) ∙ e in
    find_none (is_word (group_word k)) (words_in g) (lost (find (is_word (group_word k)) (words_in g)) h)

bit_most : (b : Bool) → bit b ≤ 1
bit_most true = omega arith
bit_most false = omega arith

module _ (k : GroupKey) (g : Groups) (fair : Fair g) (hf : k.fabric < 2 ^ 8) (he : k.endpoint < 2 ^ 16) (hg : k.group < 2 ^ 16) where
  -- with one that was not held
  new_fair : Joins k → is_member k g ≡ false → g.state.held < max_memberships → Fair (with_member k g)
  new_fair j m h =
      let ws = joined_words k g fair.intact h in
      let none = not_held k g fair.intact j.group m in
      record {
        intact = joined-sound k g fair.intact h (word_in_range k j.fabric hf he hg);
        once = λ w.
            let e : count (is_word w) (words_in (with_member k g)) ≡ count (is_word w) (words_in g) + (bit (eqb (group_word k) w) + 0) =
            ap (count (is_word w)) ws ∙ count-append (is_word w) (words_in g) (group_word k ∷ []) in
            (elim (eqb (group_word k) w) as (λ b. eqb (group_word k) w ≡ b → count (is_word w) (words_in (with_member k g)) ≤ 1) [
              | true ↦ λ q. omega (arith, e, ap bit q, ap (λ (x : ℕ). count (is_word x) (words_in g)) (eqb-true (group_word k) w q), none)
              | false ↦ λ q. omega (arith, e, ap bit q, fair.once w)
            ]) refl;
        grouped =
            let n : eqb (group_of (group_word k)) 0 ≡ false = ne_eqb (group_of (group_word k)) 0 (λ z. j.group (omega arith)) in
            ap (count (λ w. eqb (group_of w) 0)) ws ∙ omega (arith, count-append (λ w. eqb (group_of w) 0) (words_in g) (group_word k ∷ []), fair.grouped, ap bit n);
      }

kept_fair : (r : KeyRange) (g : Groups) → Fair g → Fair (retain_groups r g)
kept_fair r g fair =
    let less : (p : ℕ → Bool) → count p (words_in (retain_groups r g)) ≤ count p (words_in g) =
    λ p. omega (arith, ap (count p) (kept-words r g fair.intact), count_keep_le p (λ w. not (within r w)) (words_in g)) in
    record {
      intact = kept-sound r g fair.intact;
      once = λ w. omega (arith, less (is_word w), fair.once w);
      grouped = omega (arith, less (λ w. eqb (group_of w) 0), fair.grouped);
    }

none_fair : (g : Groups) → Fair g → Fair (no_groups g)
none_fair g fair = record {
  intact = none_sound g fair.intact;
  once = λ w. omega (arith, ap (count (is_word w)) (none_words g));
  grouped = ap (count (λ w. eqb (group_of w) 0)) (none_words g);
}

-- ---- what a call leaves of the memberships

-- P holds of the memberships, of one more, of those outside a range, and of none
pub record Follows (P : Groups → Type 0) (g : Groups) : Type 0 where
  pub same : P g
  pub more : (k : GroupKey) → k.fabric < 2 ^ 8 → k.endpoint < 2 ^ 16 → k.group < 2 ^ 16 → Joins k → is_member k g ≡ false
      → g.state.held < max_memberships → P (with_member k g)
  pub fewer : (r : KeyRange) → P (retain_groups r g)
  pub none : P (no_groups g)

module _ (n : Node) (s : sound n.scenes ≡ true) (sd : groups_sound n.groups ≡ true) (P : Groups → Type 0) (f : Follows P n.groups) where
  abbrev gs : Groups
  gs = n.groups

  asked-groups : (fabric e : ℕ) (c : Command) → asks c ≡ true → P (next (command fabric e c) n).groups
  unfolding step
  asked-groups fabric e c q = subst (λ (o : Out). P o.1.groups) (sym (told gs sd n.scenes fabric e c q)) f.same

  joined-groups : (k : GroupKey) → k.fabric < 2 ^ 8 → k.endpoint < 2 ^ 16 → k.group < 2 ^ 16 → P (join_group k gs).groups
  joined-groups k hf he hg = go (joining k gs sd)
    where
      go : Joining k gs → P (join_group k gs).groups
      go (turned z e) = subst (λ (j : Joined). P j.groups) (sym e) f.same
      go (again p m e) = subst (λ (j : Joined). P j.groups) (sym e) f.same
      go (full p m h e) = subst (λ (j : Joined). P j.groups) (sym e) f.same
      go (new p m h e) = subst (λ (j : Joined). P j.groups) (sym e) (f.more k hf he hg (joins k gs p) m h)

  left-groups : (key : GroupKey) → P (leave_group key gs n.scenes).groups
  left-groups key =
      (elim (eqb (leave_gate key gs) success) as (λ b. eqb (leave_gate key gs) success ≡ b → P (leave_group key gs n.scenes).groups) [
        | true ↦ λ z. subst (λ (b : Both). P b.groups) (sym (left key gs sd n.scenes s (eqb-true (leave_gate key gs) success z))) (f.fewer _)
        | false ↦ λ z. subst (λ (b : Both). P b.groups) (sym (stays key gs sd n.scenes s (eqb-false (leave_gate key gs) success z))) f.same
      ]) refl

  pub step-groups : (c : Call) → InRange c → P (next c n).groups
  unfolding step does remove_for_fabric_both factory_reset_both
  step-groups (command x e (add g k time pairs ext)) w = asked-groups x e (add g k time pairs ext) refl
  step-groups (command x e (add_read g k time pairs ext)) w = asked-groups x e (add_read g k time pairs ext) refl
  step-groups (command x e (view g k)) w = asked-groups x e (view g k) refl
  step-groups (command x e (remove g k)) w = asked-groups x e (remove g k) refl
  step-groups (command x e (remove_all g)) w = asked-groups x e (remove_all g) refl
  step-groups (command x e (store g k captured)) w = asked-groups x e (store g k captured) refl
  step-groups (command x e (recall g k o a)) w = asked-groups x e (recall g k o a) refl
  step-groups (command x e (copy mode g k h r)) w = asked-groups x e (copy mode g k h r) refl
  step-groups (command x e (membership g buffer)) w = asked-groups x e (membership g buffer) refl
  step-groups (command x e (info single)) w = asked-groups x e (info single) refl
  step-groups (command x e (join g)) w = joined-groups (group_key x e g) w.0 w.1 w.2
  step-groups (command x e (leave g)) w = left-groups (group_key x e g)
  step-groups (removal x) w =
      subst (λ (b : Both). P b.groups) (sym (asking-sound gs sd (both_refused gs n.scenes) (following (remove_for_fabric x n.scenes) (retain_groups (fabric_keys x) gs) gs)))
      (cond_elim P (eqb (remove_for_fabric x n.scenes).status success) (λ _. f.fewer (fabric_keys x)) (λ _. f.same))
  step-groups reset w =
      subst (λ (b : Both). P b.groups) (sym (asking-sound gs sd (both_refused gs n.scenes) (following (factory_reset n.scenes) (no_groups gs) gs)))
      (cond_elim P (eqb (factory_reset n.scenes).status success) (λ _. f.none) (λ _. f.same))
  step-groups (on_scenes c) w = f.same

-- ---- sound nodes, and reached ones

-- a sound node stays sound through every call
pub node_stays_sound : StaysSound
node_stays_sound c n w s sd =
    let m = moved n sd s c w in (
      subst (λ (t : Table). sound t ≡ true) (sym m.is) (laws.step-sound m.by n.scenes m.fits s),
      step-groups n s sd (λ g. groups_sound g ≡ true) (record {
        same = sd;
        more = λ k hf he hg j _ h. joined-sound k n.groups sd h (word_in_range k j.fabric hf he hg);
        fewer = λ r. kept-sound r n.groups sd;
        none = none_sound n.groups sd;
      }) c w,
    )

pub record Standing (n : Node) : Type 0 where
  pub scenes : reach.Standing n.scenes
  pub fair : Fair n.groups

module _ (n : Node) (st : Standing n) where
  abbrev sd : groups_sound n.groups ≡ true
  sd = st.fair.intact

  step_fair : (c : Call) → InRange c → Fair (next c n).groups
  step_fair =
      step-groups n st.scenes.intact sd Fair (record {
        same = st.fair;
        more = λ k hf he hg j m h. new_fair k n.groups st.fair hf he hg j m h;
        fewer = λ r. kept_fair r n.groups st.fair;
        none = none_fair n.groups st.fair;
      })

  pub step-standing : (c : Call) → InRange c → Standing (next c n)
  step-standing c w =
      let m = moved n sd st.scenes.intact c w in
      record { scenes = subst reach.Standing (sym m.is) (reach.step-standing laws m.by n.scenes m.fits st.scenes); fair = step_fair c w }

pub reached_standing : {n : Node} → Reached n → Standing n
unfolding words_in
reached_standing (begun n s e r g h) =
    let none : words_in n.groups ≡ [] = ap (λ (m : ℕ). take m n.groups.words) h in
    record {
      scenes = reach.reached_standing laws (scenes.empty n.scenes s e r);
      fair = record { intact = g; once = λ w. omega (arith, ap (count (is_word w)) none); grouped = ap (count (λ w. eqb (group_of w) 0)) none };
    }
reached_standing (after c {n} w r) = step-standing n (reached_standing r) c w

-- the scenes of a reached node are reached
pub reached_scenes : {n : Node} → Reached n → scenes.Reached n.scenes
reached_scenes (begun n s e r g h) = scenes.empty n.scenes s e r
reached_scenes (after c {n} w r) =
    let st = reached_standing r in
    let m = moved n st.fair.intact st.scenes.intact c w in
    subst scenes.Reached (sym m.is) (scenes.after m.by m.fits (reached_scenes r))

-- with memberships as inputs, for any history
pub with_inputs : WithInputs
with_inputs f m n f1 f255 rm rn z share = demand3 f m.scenes n.scenes f1 f255 (reached_scenes rm) (reached_scenes rn) z share
