-- From the matters to equivalence: two nodes that agree answer every list alike. Assumes nothing.
use Prim.Native.Nat.{ℕ, ◌+◌, ◌^◌, ◌<◌}
use native.Mathlib.Omega.{arith}
use mathlib.Core.Path.{◌≡◌, refl, sym, ap, ◌∙◌, subst, subst₂}
use mathlib.Core.Bool.{Bool, true, false, cond, not, ◌&&◌, ◌||◌, false≢true}
use mathlib.Core.List.{List, [], ◌∷◌}
use lib.Dec.{eqb, ltb}
use lib.ListN.{length}
use borrow.Author.Tests.{eqb-true, eqb-false, eq-eqb, ltb-true}
use Rattle.words.specs.Constants.{success, insufficient_space, max_memberships}
use Rattle.words.specs.Words.{fabric_of, endpoint_of, group_of, within, group_keys}
use Rattle.words.specs.declared.GroupKey.{GroupKey}
use Rattle.words.proofs.Ranges.{group-keys}
use Rattle.words.proofs.Tests.{and_left, and_right, and_false}
use Rattle.requests.specs.declared.Membership.{Membership}
use Rattle.requests.specs.declared.Membership.TheVariants.{Yes, No}
use Rattle.requests.specs.Requests.{refuse_if, first_refusal, fabric_gate}
use Rattle.groups.specs.Groups.{Groups, group_word, groups_sound, ungrouped_gate, words_in, is_member, member_of, Joined, join_gate, join_new, with_member, join_group, retain_groups}
use Rattle.groups.proofs.Laws.{groups_few}
use Rattle.asking.specs.Asking.{Both, leave_gate, leave_group}
use Rattle.observation.specs.Lists.{count, keep}
use Rattle.observation.specs.Calls as calls
use Rattle.observation.specs.Calls.{group_key}
use Rattle.observation.specs.Equivalence as scenes
use Rattle.observation.specs.Equivalence.{Same, unless}
use Rattle.observation.proofs.Counts.{count-append, count-keep, count_ext}
use Rattle.observation.proofs.Choices.{cond_two, or_none, has_same}
use Rattle.observation.proofs.Losses as losses
use Rattle.observation.proofs.Calls.{laws}
use Rattle.observation.proofs.Changes.{view_of}
use Rattle.observation.proofs.Simulation.{Sim}
use Rattle.observation.proofs.Order.{perm_often}
use Rattle.observation.proofs.Respond.{same_of}
use Rattle.observation.proofs.Forward as forward
use Rattle.group_observation.specs.Nodes.{Node, Command, add, add_read, view, remove, remove_all, store, recall, copy, membership, info, join, leave, command, on_scenes, Out, of_both, kept, does, step, answer, next, CommandInRange, InRange}
use Rattle.group_observation.specs.Equivalence.{Event, own, noticed, whole_copy, Alike, AllInRange, Agree}
use Rattle.group_observation.proofs.Words.{is_word, words-length, member_has, joined_words, kept-words, kept-sound}
use Rattle.group_observation.proofs.Asks.{asks, tells, tells_range, told, left, stays}
use Rattle.group_observation.proofs.Reach.{Standing, step-standing}

-- memberships alike to a fabric: as many are held, and of its own each as often
pub record GroupSim (f : ℕ) (g h : Groups) : Type 0 where
  pub held : g.state.held ≡ h.state.held
  pub words : (q : ℕ → Bool) → ((w : ℕ) → q w ≡ true → fabric_of w ≡ f) → count q (words_in g) ≡ count q (words_in h)

-- ---- what is asked

module _ (f : ℕ) (g h : Groups) (sg : groups_sound g ≡ true) (sh : groups_sound h ≡ true) (a : GroupSim f g h) where
  pub member-same : (e n : ℕ) → e < 2 ^ 16 → n < 2 ^ 16 → is_member (group_key f e n) g ≡ is_member (group_key f e n) h
  member-same e n he hn =
      let w = group_word (group_key f e n) in
      member_has g sg (group_key f e n)
      ∙ ap (λ (b : Bool). not (eqb n 0) && b)
      (has_same (is_word w) (words_in g) (words_in h) (a.words (is_word w) (λ x q. let p = eqb-true x w q in omega arith)))
      ∙ sym (member_has h sh (group_key f e n))

  answered-same : (e n : ℕ) → e < 2 ^ 16 → n < 2 ^ 16 → member_of (group_key f e n) g ≡ member_of (group_key f e n) h
  unfolding member_of
  answered-same e n he hn = ap (λ (b : Bool). cond b Yes No) (member-same e n he hn)

  tells_same : (e : ℕ) (c : Command) → e < 2 ^ 16 → CommandInRange c → tells g f e c ≡ tells h f e c
  tells_same e (add n s time pairs ext) he w = ap (λ (m : Membership). calls.add n s time m pairs ext) (answered-same e n he w.0)
  tells_same e (add_read n s time pairs ext) he w = ap (λ (m : Membership). calls.add_read n s time m pairs ext) (answered-same e n he w.0)
  tells_same e (view n s) he w = ap (calls.view n s) (answered-same e n he w.0)
  tells_same e (remove n s) he w = ap (calls.remove n s) (answered-same e n he w.0)
  tells_same e (remove_all n) he w = ap (calls.remove_all n) (answered-same e n he w)
  tells_same e (store n s captured) he w = ap (λ (m : Membership). calls.store n s m captured) (answered-same e n he w.0)
  tells_same e (recall n s o r) he w = ap (λ (m : Membership). calls.recall n s m o r) (answered-same e n he w.0)
  tells_same e (copy mode n s k r) he w = λ i. calls.copy mode n s k r (answered-same e n he w.1 i) (answered-same e k he w.3 i)
  tells_same e (membership n buffer) he w = ap (λ (m : Membership). calls.membership n m buffer) (answered-same e n he w.0)
  tells_same e (info single) he w = refl
  tells_same e (join n) he w = refl
  tells_same e (leave n) he w = refl

  -- ---- joins and drops

  join_gates : (k : GroupKey) → join_gate k g ≡ join_gate k h
  unfolding join_gate
  join_gates k = ap (λ (b : Bool). first_refusal (refuse_if (not b) 6 ∷ fabric_gate k.fabric ∷ ungrouped_gate k.group ∷ [])) (sg ∙ sym sh)

  -- the same number, and memberships alike
  record JoinKept (i j : Joined) : Type 0 where
    status : i.status ≡ j.status
    groups : GroupSim f i.groups j.groups

  with_member_lem : (k : GroupKey) → k.fabric ≡ f → g.state.held < max_memberships → h.state.held < max_memberships → GroupSim f (with_member k g) (with_member k h)
  unfolding with_member
  with_member_lem k e l l' = record {
    held = ap (λ (n : ℕ). n + 1) a.held;
    words = λ q z.
        omega (
          arith,
          ap (count q) (joined_words k g sg l),
          ap (count q) (joined_words k h sh l'),
          count-append q (words_in g) (group_word k ∷ []),
          count-append q (words_in h) (group_word k ∷ []),
          a.words q z,
        );
  }

  join_kept : (e n : ℕ) → e < 2 ^ 16 → n < 2 ^ 16 → JoinKept (join_group (group_key f e n) g) (join_group (group_key f e n) h)
  unfolding join_group join_new
  join_kept e n he hn =
      let k = group_key f e n in
      let gates = join_gates k in
      cond_two JoinKept (eqb (join_gate k g) success) (eqb (join_gate k h) success) (ap (λ (m : ℕ). eqb m success) gates)
      (λ _ _. cond_two JoinKept (is_member k g) (is_member k h) (member-same e n he hn) (λ _ _. record { status = refl; groups = a })
      (λ _ _. cond_two JoinKept (ltb g.state.held max_memberships) (ltb h.state.held max_memberships) (ap (λ (m : ℕ). ltb m max_memberships) a.held)
      (λ l l'. record { status = refl; groups = with_member_lem k refl (ltb-true g.state.held max_memberships l) (ltb-true h.state.held max_memberships l') })
      (λ _ _. record { status = refl; groups = a })))
      (λ _ _. record { status = gates; groups = a })

  drop-kept : (e n : ℕ) → e < 2 ^ 16 → n < 2 ^ 16 → GroupSim f (retain_groups (group_keys f e n) g) (retain_groups (group_keys f e n) h)
  drop-kept e n he hn =
      let r = group_keys f e n in
      let its : (w : ℕ) → within r w ≡ true → fabric_of w ≡ f =
      λ w q. eqb-true (fabric_of w) f (and_left (eqb (fabric_of w) f) (eqb (endpoint_of w) e && eqb (group_of w) n) (sym (group-keys f e n w he hn) ∙ q)) in
      let left_over : (x : Groups) → groups_sound x ≡ true → (retain_groups r x).state.held + count (within r) (words_in x) ≡ x.state.held =
      λ x s. omega (
        arith,
        words-length (retain_groups r x) (kept-sound r x s),
        ap length (kept-words r x s),
        losses.lost (within r) (words_in x),
        words-length x s,
      ) in
      record {
        held = omega (arith, left_over g sg, left_over h sh, a.words (within r) its, a.held);
        words = λ q z.
            ap (count q) (kept-words r g sg) ∙ count-keep q (λ w. not (within r w)) (words_in g)
            ∙ a.words (λ w. not (within r w) && q w) (λ w y. z w (and_right (not (within r w)) (q w) y))
            ∙ sym (count-keep q (λ w. not (within r w)) (words_in h)) ∙ sym (ap (count q) (kept-words r h sh));
      }

  leave_gates : (e n : ℕ) → e < 2 ^ 16 → n < 2 ^ 16 → leave_gate (group_key f e n) g ≡ leave_gate (group_key f e n) h
  unfolding leave_gate
  leave_gates e n he hn =
      ap (λ (b : Bool). first_refusal (fabric_gate f ∷ ungrouped_gate n ∷ refuse_if (not b) 0x8B ∷ [])) (member-same e n he hn)

-- ---- one call on each of two nodes

record Kept (f : ℕ) (c : Command) (o o' : Out) : Type 0 where
  same : Same o.0 o'.0
  scenes : (whole_copy c && eqb o.0.status insufficient_space) ≡ false → Sim f (view_of o.1.scenes) (view_of o'.1.scenes)
  groups : GroupSim f o.1.groups o'.1.groups

whole_told : (g : Groups) (f e : ℕ) (c : Command) → asks c ≡ true → scenes.whole_copy (tells g f e c) ≡ whole_copy c
whole_told g f e (add n s time pairs ext) q = refl
whole_told g f e (add_read n s time pairs ext) q = refl
whole_told g f e (view n s) q = refl
whole_told g f e (remove n s) q = refl
whole_told g f e (remove_all n) q = refl
whole_told g f e (store n s captured) q = refl
whole_told g f e (recall n s o a) q = refl
whole_told g f e (copy mode n s h r) q = refl
whole_told g f e (membership n buffer) q = refl
whole_told g f e (info single) q = refl
whole_told g f e (join n) q = absurd (false≢true q)
whole_told g f e (leave n) q = absurd (false≢true q)

module _ (f : ℕ) (m n : Node) (sm : Standing m) (sn : Standing n) (a : Sim f (view_of m.scenes) (view_of n.scenes)) (b : GroupSim f m.groups n.groups) where
  asked-kept : (e : ℕ) (c : Command) → InRange (command f e c) → asks c ≡ true → Kept f c (step (command f e c) m) (step (command f e c) n)
  unfolding step calls.step
  asked-kept e c w q =
      let cm = tells m.groups f e c in
      let cn = tells n.groups f e c in
      let same-told = tells_same f m.groups n.groups sm.fair.intact sn.fair.intact b e c w.1 w.2 in
      let k = forward.step_sim laws f e cm m.scenes n.scenes w.0 w.1 (tells_range m.groups f e c w.2) sm.scenes sn.scenes a in
      subst₂ (Kept f c) (sym (told m.groups sm.fair.intact m.scenes f e c q)) (sym (told n.groups sn.fair.intact n.scenes f e c q))
      (subst (λ (d : calls.Command). Kept f c (kept m.groups (calls.does f e cm m.scenes)) (kept n.groups (calls.does f e d n.scenes))) same-told (record {
        same = k.same;
        scenes = λ z. k.onward (ap (λ (x : Bool). x && eqb (calls.does f e cm m.scenes).0.status insufficient_space) (whole_told m.groups f e c q) ∙ z);
        groups = b;
      }))

  join_kept' : (e g : ℕ) → InRange (command f e (join g)) → Kept f (join g) (step (command f e (join g)) m) (step (command f e (join g)) n)
  unfolding step does
  join_kept' e g w =
      let j = join_kept f m.groups n.groups sm.fair.intact sn.fair.intact b e g w.1 w.2 in
      record { same = same_of (λ i. record { status = j.status i; save = false; values = []; ids = [] }); scenes = λ _. a; groups = j.groups }

  leave-kept : (e g : ℕ) → InRange (command f e (leave g)) → Kept f (leave g) (step (command f e (leave g)) m) (step (command f e (leave g)) n)
  unfolding step does calls.step calls.does
  leave-kept e g w =
      let key = group_key f e g in
      let gates = leave_gates f m.groups n.groups sm.fair.intact sn.fair.intact b e g w.1 w.2 in
      let k = forward.step_sim laws f e (calls.remove_all g Yes) m.scenes n.scenes w.0 w.1 w.2 sm.scenes sn.scenes a in
      (elim (eqb (leave_gate key m.groups) success) as (λ y. eqb (leave_gate key m.groups) success ≡ y
      → Kept f (leave g) (of_both (leave_group key m.groups m.scenes)) (of_both (leave_group key n.groups n.scenes))) [
        | true ↦ λ y.
            let z = eqb-true (leave_gate key m.groups) success y in
            subst₂ (λ (x x' : Both). Kept f (leave g) (of_both x) (of_both x'))
            (sym (left key m.groups sm.fair.intact m.scenes sm.scenes.intact z))
            (sym (left key n.groups sn.fair.intact n.scenes sn.scenes.intact (sym gates ∙ z)))
            (record { same = k.same; scenes = k.onward; groups = drop-kept f m.groups n.groups sm.fair.intact sn.fair.intact b e g w.1 w.2 })
        | false ↦ λ y.
            let z = eqb-false (leave_gate key m.groups) success y in
            subst₂ (λ (x x' : Both). Kept f (leave g) (of_both x) (of_both x'))
            (sym (stays key m.groups sm.fair.intact m.scenes sm.scenes.intact z))
            (sym (stays key n.groups sn.fair.intact n.scenes sn.scenes.intact (λ x. z (gates ∙ x))))
            (record { same = same_of (λ i. record { status = gates i; save = false; values = []; ids = [] }); scenes = λ _. a; groups = b })
      ]) refl

  command-kept : (e : ℕ) (c : Command) → InRange (command f e c) → Kept f c (step (command f e c) m) (step (command f e c) n)
  command-kept e (add g k time pairs ext) w = asked-kept e (add g k time pairs ext) w refl
  command-kept e (add_read g k time pairs ext) w = asked-kept e (add_read g k time pairs ext) w refl
  command-kept e (view g k) w = asked-kept e (view g k) w refl
  command-kept e (remove g k) w = asked-kept e (remove g k) w refl
  command-kept e (remove_all g) w = asked-kept e (remove_all g) w refl
  command-kept e (store g k captured) w = asked-kept e (store g k captured) w refl
  command-kept e (recall g k o r) w = asked-kept e (recall g k o r) w refl
  command-kept e (copy mode g k h r) w = asked-kept e (copy mode g k h r) w refl
  command-kept e (membership g buffer) w = asked-kept e (membership g buffer) w refl
  command-kept e (info single) w = asked-kept e (info single) w refl
  command-kept e (join g) w = join_kept' e g w
  command-kept e (leave g) w = leave-kept e g w

-- ---- whole lists

pub alike : (f : ℕ) (xs : List Event) (m n : Node) → AllInRange f xs → Standing m → Standing n → Sim f (view_of m.scenes) (view_of n.scenes)
    → GroupSim f m.groups n.groups → Alike f xs m n
unfolding step
alike f [] m n w sm sn a b = tt
alike f (own e c ∷ xs) m n w sm sn a b =
    let k = command-kept f m n sm sn a b e c w.0 in
    let em = whole_copy c && eqb (answer (command f e c) m).status insufficient_space in
    let en = whole_copy c && eqb (answer (command f e c) n).status insufficient_space in (
      k.same,
      (elim (em || en) as (λ y. (em || en) ≡ y → unless y (Alike f xs (next (command f e c) m) (next (command f e c) n))) [
        | true ↦ λ _. tt
        | false ↦ λ y.
            alike f xs (next (command f e c) m) (next (command f e c) n) w.1 (step-standing m sm (command f e c) w.0) (step-standing n sn (command f e c) w.0)
            (k.scenes (or_none em en y).0) k.groups
      ]) refl,
    )
alike f (noticed e ∷ xs) m n w sm sn a b =
    let c = on_scenes (calls.notice e) in (
      tt,
      alike f xs (next c m) (next c n) w.1 (step-standing m sm c w.0) (step-standing n sn c w.0)
          (forward.heard laws f e m.scenes n.scenes w.0 sm.scenes sn.scenes a) b,
    )

-- ---- the matters make a simulation

pub group_sim : (f : ℕ) (m n : Node) → Standing m → Standing n → Agree f m n → GroupSim f m.groups n.groups
group_sim f m n sm sn a =
    let own-count : (q : ℕ → Bool) → ((w : ℕ) → q w ≡ true → fabric_of w ≡ f) → (ws : List ℕ) → count q ws ≡ count q (keep (λ w. eqb (fabric_of w) f) ws) =
    λ q z ws.
    count_ext q (λ w. eqb (fabric_of w) f && q w) (λ w.
    (elim (q w) as (λ y. q w ≡ y → y ≡ (eqb (fabric_of w) f && y)) [
      | true ↦ λ y. sym (ap (λ (x : Bool). x && true) (eq-eqb (fabric_of w) f (z w y)))
      | false ↦ λ _. sym (and_false (eqb (fabric_of w) f))
    ]) refl) ws
    ∙ sym (count-keep q (λ w. eqb (fabric_of w) f) ws) in
    record {
      held = omega (arith, a.free, groups_few m.groups sm.fair.intact, groups_few n.groups sn.fair.intact);
      words = λ q z. own-count q z (words_in m.groups) ∙ perm_often a.memberships q ∙ sym (own-count q z (words_in n.groups));
    }
