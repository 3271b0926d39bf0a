-- From equivalence to the matters, by lists that tell two nodes apart: views, which say what is held; joins of fresh groups until one is refused; and, of
-- the scenes, what lists with memberships as inputs tell. Assumes nothing.
use Prim.Native.Nat.{ℕ, zero, suc, ◌+◌, ◌-◌, ◌^◌, ◌≤◌, ◌<◌}
use native.Mathlib.Omega.{arith}
use mathlib.Core.Path.{◌≡◌, refl, sym, ap, ◌∙◌, subst, subst₂}
use mathlib.Core.Bool.{Bool, true, false, cond, not, ◌&&◌, ◌||◌, false≢true}
use mathlib.Core.List.{List, [], ◌∷◌, Permᴰ}
use mathlib.Core.Logic.{◌⊎◌, ⊎_elim}
use mathlib.Core.Option.{Option, none, some}
use lib.Dec.{eqb, ltb}
use borrow.Author.Tests.{eqb-true, eqb-false, ne_eqb, lt-ltb, le-ltb, ltb-false}
use Rattle.words.specs.Constants.{success, invalid_command, insufficient_space, memberships_full, max_memberships}
use Rattle.words.specs.Words.{word_of, fabric_of, endpoint_of, group_of, scene_of}
use Rattle.words.specs.declared.GroupKey.{GroupKey}
use Rattle.words.proofs.Tests.{and_false, not_false}
use Rattle.slots.specs.Slots.{SceneEntry, key_sound}
use Rattle.requests.specs.declared.Membership.{Membership}
use Rattle.requests.specs.declared.Membership.TheVariants.{Yes, No}
use Rattle.requests.specs.Requests.{or_next, first_refusal, reserved, member_gate, lookup_gate}
use Rattle.state.specs.Table.{Table}
use Rattle.groups.specs.Groups.{Groups, group_word, group_sound, words_in, is_member, member_of, Joined, with_member}
use Rattle.groups.proofs.Laws.{groups_few}
use Rattle.observation.specs.Lists.{count, find}
use Rattle.observation.specs.Calls as calls
use Rattle.observation.specs.Calls.{Answer, scene_key, group_key}
use Rattle.observation.specs.Equivalence.{Same, key_is}
use Rattle.observation.proofs.Lists.{found, has}
use Rattle.observation.proofs.Changes.{view_of}
use Rattle.observation.proofs.Effects.{Seen, viewed}
use Rattle.observation.proofs.Counts.{both, count-keep, count_ext, count_le, find_none, none_find}
use Rattle.observation.proofs.Choices.{count_none, count_has, lost}
use Rattle.observation.proofs.Bits.{rebuilt}
use Rattle.observation.proofs.Calls.{laws}
use Rattle.observation.proofs.Invariant.{bad_key}
use Rattle.observation.proofs.Order.{numbers_perm}
use Rattle.observation.proofs.Passed.{member_let, free_let}
use Rattle.observation.proofs.Probes.{no_bad, parts, fresh}
use Rattle.observation.proofs.Reach as reach
use Rattle.observation.proofs.Asked.{viewed_alike, view-answer}
use Rattle.observation.proofs.Backward as backward
use Rattle.group_observation.specs.Nodes.{Node, Command, add, view, store, info, join, command, on_scenes, Out, does, step, answer, next, InRange}
use Rattle.group_observation.specs.Equivalence.{own, noticed, whole_copy, Equivalent, memberships_of, free_memberships, Agree}
use Rattle.group_observation.proofs.Words.{is_word, bad_word, words-length, member_has, no_member, words-sound}
use Rattle.group_observation.proofs.Asks.{asks, tells, told}
use Rattle.group_observation.proofs.Reach.{Joining, turned, again, full, new, joining, gate_open, Standing, step-standing}
use Rattle.group_observation.proofs.Enrolled.{group_in, orphan, Cared, step_cared}

-- lists that have an element once at most, and both or neither
once-same : {A : Type 0} (h : A → Bool) (xs ys : List A) → count h xs ≤ 1 → count h ys ≤ 1 → has h xs ≡ has h ys → count h xs ≡ count h ys
once-same h xs ys a b e =
    (elim (has h xs) as (λ c. has h xs ≡ c → count h xs ≡ count h ys) [
      | true ↦ λ q. omega (arith, a, b, count_has h xs q, count_has h ys (sym e ∙ q))
      | false ↦ λ q. find_none h xs (lost (find h xs) q) ∙ sym (find_none h ys (lost (find h ys) (sym e ∙ q)))
    ]) refl

-- a word in range is that of its parts
rebuilt_word : {f : ℕ} (w : ℕ) → fabric_of w ≡ f → bad_word w ≡ false → group_word (group_key f (endpoint_of w) (group_of w)) ≡ w
rebuilt_word w its b =
    let s : scene_of w ≡ 0 = eqb-true (scene_of w) 0 (both (key_sound w) (eqb (scene_of w) 0) (not_false (group_sound w) b)).1 in
    omega (arith, rebuilt w)

module _ (f : ℕ) (f1 : 1 ≤ f) (f255 : f ≤ 255) where
  hf : f < 2 ^ 8
  hf = omega arith

  -- ---- nodes that no list tells apart

  record Pair (m n : Node) : Type 0 where
    left : Standing m
    right : Standing n
    cared : Cared m.groups m.scenes
    cared' : Cared n.groups n.scenes
    see : Equivalent f m n

  asked : {m n : Node} → Pair m n → (e : ℕ) (c : Command) → InRange (command f e c) → Same (answer (command f e c) m) (answer (command f e c) n)
  asked p e c w = (p.see (own e c ∷ []) (w, tt)).0

  moves : {m n : Node} → Pair m n → (e : ℕ) (c : Command) → InRange (command f e c) → whole_copy c ≡ false → Pair (next (command f e c) m) (next (command f e c) n)
  moves {m} {n} p e c w h = record {
    left = step-standing m p.left (command f e c) w;
    right = step-standing n p.right (command f e c) w;
    cared = step_cared m p.left p.cared (command f e c) w refl;
    cared' = step_cared n p.right p.cared' (command f e c) w refl;
    see = λ xs fit.
        let r = (p.see (own e c ∷ xs) (w, fit)).1 in
        let over : Node → Bool = λ x. eqb (answer (command f e c) x).status insufficient_space in
        let no : ((whole_copy c && over m) || (whole_copy c && over n)) ≡ false = ap (λ (b : Bool). (b && over m) || (b && over n)) h in
        rw no at r;
  }

  hears : {m n : Node} → Pair m n → (e : ℕ) → e < 2 ^ 16 → Pair (next (on_scenes (calls.notice e)) m) (next (on_scenes (calls.notice e)) n)
  hears {m} {n} p e w = record {
    left = step-standing m p.left (on_scenes (calls.notice e)) w;
    right = step-standing n p.right (on_scenes (calls.notice e)) w;
    cared = step_cared m p.left p.cared (on_scenes (calls.notice e)) w refl;
    cared' = step_cared n p.right p.cared' (on_scenes (calls.notice e)) w refl;
    see = λ xs fit. (p.see (noticed e ∷ xs) (w, fit)).1;
  }

  -- a command by the one that is told: its answer, and the node that it leaves
  told_answer : (n : Node) → Standing n → (e : ℕ) (c : Command) → asks c ≡ true → answer (command f e c) n ≡ calls.answer (calls.command f e (tells n.groups f e c)) n.scenes
  unfolding step calls.step
  told_answer n s e c q = ap (λ (o : Out). o.0) (told n.groups s.fair.intact n.scenes f e c q)

  told_next : (n : Node) → Standing n → (e : ℕ) (c : Command) → asks c ≡ true
      → next (command f e c) n ≡ record { scenes = calls.next (calls.command f e (tells n.groups f e c)) n.scenes; groups = n.groups }
  unfolding step calls.step
  told_next n s e c q = ap (λ (o : Out). o.1) (told n.groups s.fair.intact n.scenes f e c q)

  -- ---- what is held: a view of scene 1

  said : (g : Groups) (k : GroupKey) (b : Bool) → is_member k g ≡ b → member_of k g ≡ cond b Yes No
  unfolding member_of
  said g k b e = ap (λ (x : Bool). cond x Yes No) e

  view-refused : (t : Table) → reach.Standing t → (e g : ℕ) → e < 2 ^ 16 → g < 2 ^ 16 → (g ≡ 0 → ⊥) → (calls.answer (calls.command f e (calls.view g 1 No)) t).status ≡ invalid_command
  unfolding lookup_gate member_gate first_refusal or_next
  view-refused t i e g he hg n =
      let gate : lookup_gate (scene_key f e g 1) No ≡ invalid_command = rw (ne_eqb f 0 (λ z. omega arith), ne_eqb g 0 n) refl in
      ap (λ (o : Seen). o.0.status) ((laws.commands f e t i.intact hf he).refused_acts (calls.view g 1 No) (hg, omega arith) (λ z. omega (arith, gate, z)))
      ∙ gate

  view-passed : (t : Table) → reach.Standing t → (e g : ℕ) → e < 2 ^ 16 → g < 2 ^ 16 → (calls.answer (calls.command f e (calls.view g 1 Yes)) t).status ≡ invalid_command → ⊥
  view-passed t i e g he hg q =
      let a = view-answer laws f f1 f255 Yes t i e g 1 he hg (omega arith) refl (member_let g) in
      go (find (key_is (word_of (scene_key f e g 1))) (view_of t).entries) (sym (ap (λ (x : Answer). x.status) a) ∙ q)
    where
      go : (o : Option SceneEntry) → (viewed o).status ≡ invalid_command → ⊥
      go none z = let w : ⊥ = omega (arith, z) in w
      go (some x) z = let w : ⊥ = omega (arith, z) in w

  view-status : (n : Node) → Standing n → (e g : ℕ) → e < 2 ^ 16 → g < 2 ^ 16 → (b : Bool) → is_member (group_key f e g) n.groups ≡ b
      → (answer (command f e (view g 1)) n).status ≡ (calls.answer (calls.command f e (calls.view g 1 (cond b Yes No))) n.scenes).status
  view-status n s e g he hg b q =
      ap (λ (x : Answer). x.status) (told_answer n s e (view g 1) refl)
      ∙ ap (λ (m : Membership). (calls.answer (calls.command f e (calls.view g 1 m)) n.scenes).status) (said n.groups (group_key f e g) b q)

  ungrouped : (g : Groups) (e : ℕ) → is_member (group_key f e 0) g ≡ false
  unfolding is_member
  ungrouped g e = refl

  members : {m n : Node} → Pair m n → (e g : ℕ) → e < 2 ^ 16 → g < 2 ^ 16 → is_member (group_key f e g) m.groups ≡ is_member (group_key f e g) n.groups
  members {m} {n} p e g he hg =
      (elim (eqb g 0) as (λ b. eqb g 0 ≡ b → is_member (group_key f e g) m.groups ≡ is_member (group_key f e g) n.groups) [
        | true ↦ λ z.
            subst (λ (k : ℕ). is_member (group_key f e k) m.groups ≡ is_member (group_key f e k) n.groups) (sym (eqb-true g 0 z)) (ungrouped m.groups e ∙ sym (ungrouped n.groups e))
        | false ↦ λ z. go (eqb-false g 0 z) (is_member (group_key f e g) m.groups) (is_member (group_key f e g) n.groups) refl refl
      ]) refl
    where
      same : (answer (command f e (view g 1)) m).status ≡ (answer (command f e (view g 1)) n).status
      same = (asked p e (view g 1) (hf, he, (hg, omega arith))).status

      go : (g ≡ 0 → ⊥) → (b c : Bool) → is_member (group_key f e g) m.groups ≡ b → is_member (group_key f e g) n.groups ≡ c → b ≡ c
      go k true true x y = refl
      go k false false x y = refl
      go k true false x y =
          absurd (view-passed m.scenes p.left.scenes e g he hg
          (sym (view-status m p.left e g he hg true x) ∙ same ∙ view-status n p.right e g he hg false y ∙ view-refused n.scenes p.right.scenes e g he hg k))
      go k false true x y =
          absurd (view-passed n.scenes p.right.scenes e g he hg
          (sym (view-status n p.right e g he hg true y) ∙ sym same ∙ view-status m p.left e g he hg false x ∙ view-refused m.scenes p.left.scenes e g he hg k))

  -- ---- the memberships

  -- how often a word of the fabric is held
  word-counted : {m n : Node} → Pair m n → (w : ℕ) → fabric_of w ≡ f → count (is_word w) (words_in m.groups) ≡ count (is_word w) (words_in n.groups)
  word-counted {m} {n} p w own-word =
      (elim (bad_word w) as (λ b. bad_word w ≡ b → count (is_word w) (words_in m.groups) ≡ count (is_word w) (words_in n.groups)) [
        | true ↦ λ b. absent m p.left bad_word (words-sound m.groups p.left.fair.intact) b ∙ sym (absent n p.right bad_word (words-sound n.groups p.right.fair.intact) b)
        | false ↦ λ b.
            (elim (eqb (group_of w) 0) as (λ c. eqb (group_of w) 0 ≡ c → count (is_word w) (words_in m.groups) ≡ count (is_word w) (words_in n.groups)) [
              | true ↦ λ c. absent m p.left (λ x. eqb (group_of x) 0) p.left.fair.grouped c ∙ sym (absent n p.right (λ x. eqb (group_of x) 0) p.right.fair.grouped c)
              | false ↦ λ c.
                  let q = members p (endpoint_of w) (group_of w) (omega arith) (omega arith) in
                  let k = group_key f (endpoint_of w) (group_of w) in
                  let is : group_word k ≡ w = rebuilt_word w own-word b in
                  let there : (x : Node) → Standing x → is_member k x.groups ≡ has (is_word w) (words_in x.groups) =
                  λ x s.
                  member_has x.groups s.fair.intact k ∙ ap (λ (y : Bool). not y && has (is_word (group_word k)) (words_in x.groups)) c
                  ∙ ap (λ (y : ℕ). has (is_word y) (words_in x.groups)) is in
                  once-same (is_word w) (words_in m.groups) (words_in n.groups) (p.left.fair.once w) (p.right.fair.once w)
                  (sym (there m p.left) ∙ q ∙ there n p.right)
            ]) refl
      ]) refl
    where
      -- a word that a test rules out
      absent : (x : Node) → Standing x → (bad : ℕ → Bool) → count bad (words_in x.groups) ≡ 0 → bad w ≡ true → count (is_word w) (words_in x.groups) ≡ 0
      absent x s bad z b = omega (arith, z, count_le (is_word w) bad (λ y e. ap bad (eqb-true y w e) ∙ b) (words_in x.groups))

  memberships : {m n : Node} → Pair m n → Permᴰ (memberships_of f m) (memberships_of f n)
  memberships {m} {n} p =
      let mine : ℕ → Bool = λ w. eqb (fabric_of w) f in
      numbers_perm (memberships_of f m) (memberships_of f n) (λ w.
      count-keep (is_word w) mine (words_in m.groups) ∙ own-words p w ∙ sym (count-keep (is_word w) mine (words_in n.groups)))
    where
      own-words : {x y : Node} → Pair x y → (w : ℕ)
          → count (λ v. eqb (fabric_of v) f && is_word w v) (words_in x.groups) ≡ count (λ v. eqb (fabric_of v) f && is_word w v) (words_in y.groups)
      own-words {x} {y} q w =
          (elim (eqb (fabric_of w) f) as (λ b. eqb (fabric_of w) f ≡ b
          → count (λ v. eqb (fabric_of v) f && is_word w v) (words_in x.groups) ≡ count (λ v. eqb (fabric_of v) f && is_word w v) (words_in y.groups)) [
            | true ↦ λ b.
                let whole : (ws : List ℕ) → count (λ v. eqb (fabric_of v) f && is_word w v) ws ≡ count (is_word w) ws =
                λ ws. count_ext (λ v. eqb (fabric_of v) f && is_word w v) (is_word w) (λ v.
                (elim (is_word w v) as (λ c. is_word w v ≡ c → (eqb (fabric_of v) f && c) ≡ c) [
                  | true ↦ λ c. ap (λ (d : Bool). d && true) (ap (λ (u : ℕ). eqb (fabric_of u) f) (eqb-true v w c) ∙ b)
                  | false ↦ λ c. and_false (eqb (fabric_of v) f)
                ]) refl) ws in
                whole (words_in x.groups) ∙ word-counted q w (eqb-true (fabric_of w) f b) ∙ sym (whole (words_in y.groups))
            | false ↦ λ b.
                let none_of : (ws : List ℕ) → count (λ v. eqb (fabric_of v) f && is_word w v) ws ≡ 0 =
                λ ws. count_none (λ v. eqb (fabric_of v) f && is_word w v) (λ v.
                (elim (is_word w v) as (λ c. is_word w v ≡ c → (eqb (fabric_of v) f && c) ≡ false) [
                  | true ↦ λ c. ap (λ (d : Bool). d && true) (ap (λ (u : ℕ). eqb (fabric_of u) f) (eqb-true v w c) ∙ b)
                  | false ↦ λ c. and_false (eqb (fabric_of v) f)
                ]) refl) ws in
                none_of (words_in x.groups) ∙ sym (none_of (words_in y.groups))
          ]) refl

  -- ---- joins of fresh groups

  abbrev probe : ℕ → ℕ
  probe e = group_word (group_key f e 1)

  -- a membership of the fabric that neither holds
  record Unheld (m n : Node) : Type 0 where
    e : ℕ
    fits : e < 2 ^ 16
    here : is_member (group_key f e 1) m.groups ≡ false
    there : is_member (group_key f e 1) n.groups ≡ false

  unheld : {m n : Node} → Pair m n → Unheld m n
  unheld {m} {n} p =
      let g = m.groups in
      let sd = p.left.fair.intact in
      let r = fresh (λ e. is_word (probe e)) (λ i e l x h. let q = eqb-true x (probe e) h in ne_eqb x (probe i) (λ y. omega arith)) 257 (words_in g)
      (omega (arith, words-length g sd, groups_few g sd)) in
      let he : r.0 < 2 ^ 16 = omega (arith, r.1) in
      let none_here : is_member (group_key f r.0 1) g ≡ false = no_member g sd (group_key f r.0 1) r.2 in
      record { e = r.0; fits = he; here = none_here; there = sym (members p r.0 1 he (omega arith)) ∙ none_here }

  -- 12 where all are taken; else one more is held, and the scenes stay
  pub record Takes (n : Node) (e : ℕ) : Type 0 where
    pub status : (answer (command f e (join 1)) n).status ≡ cond (ltb n.groups.state.held max_memberships) success memberships_full
    pub held : ltb n.groups.state.held max_memberships ≡ true → (next (command f e (join 1)) n).groups.state.held ≡ n.groups.state.held + 1

  pub takes : (n : Node) → Standing n → (e : ℕ) → is_member (group_key f e 1) n.groups ≡ false → Takes n e
  unfolding step does with_member
  takes n s e m = go (joining (group_key f e 1) n.groups s.fair.intact)
    where
      count_held : ℕ
      count_held = n.groups.state.held

      go : Joining (group_key f e 1) n.groups → Takes n e
      go (turned z j) = absurd (z (gate_open f e 1 n.groups s.fair.intact f1 (omega arith)))
      go (again p h j) = absurd (false≢true (sym m ∙ h))
      go (full p h l j) =
          let no : ltb count_held max_memberships ≡ false = le-ltb count_held max_memberships (omega arith) in
          record {
            status = ap (λ (x : Joined). x.status) j ∙ sym (ap (λ (b : Bool). cond b success memberships_full) no);
            held = λ y. absurd (false≢true (sym no ∙ y));
          }
      go (new p h l j) = record {
        status = ap (λ (x : Joined). x.status) j ∙ sym (ap (λ (b : Bool). cond b success memberships_full) (lt-ltb count_held max_memberships l));
        held = λ _. ap (λ (x : Joined). x.groups.state.held) j;
      }

  twelve : (b c : Bool) → cond b success memberships_full ≡ cond c success memberships_full → b ≡ c
  twelve true true e = refl
  twelve true false e = absurd (omega arith)
  twelve false true e = absurd (omega arith)
  twelve false false e = refl

  joinable : {m n : Node} → Pair m n → (u : Unheld m n) → ltb m.groups.state.held max_memberships ≡ ltb n.groups.state.held max_memberships
  joinable {m} {n} p u =
      twelve (ltb m.groups.state.held max_memberships) (ltb n.groups.state.held max_memberships)
      (sym (takes m p.left u.e u.here).status ∙ (asked p u.e (join 1) (hf, u.fits, omega arith)).status ∙ (takes n p.right u.e u.there).status)

  same-held : (k : ℕ) {m n : Node} → Pair m n → m.groups.state.held + k ≡ max_memberships → m.groups.state.held ≡ n.groups.state.held
  same-held zero {m} {n} p h =
      let no : ltb n.groups.state.held max_memberships ≡ false =
      sym (joinable p (unheld p)) ∙ le-ltb m.groups.state.held max_memberships (omega arith) in
      omega (arith, h, ltb-false n.groups.state.held max_memberships no, groups_few n.groups p.right.fair.intact)
  same-held (suc k) {m} {n} p h =
      let u = unheld p in
      let more : ltb m.groups.state.held max_memberships ≡ true = lt-ltb m.groups.state.held max_memberships (omega arith) in
      let hm = (takes m p.left u.e u.here).held more in
      let hn = (takes n p.right u.e u.there).held (sym (joinable p u) ∙ more) in
      let ih = same-held k (moves p u.e (join 1) (hf, u.fits, omega arith) refl) (omega (arith, hm, h)) in
      omega (arith, hm, hn, ih)

  free : {m n : Node} → Pair m n → free_memberships m ≡ free_memberships n
  free {m} {n} p =
      ap (λ (k : ℕ). max_memberships - k) (same-held (max_memberships - m.groups.state.held) p (omega (arith, groups_few m.groups p.left.fair.intact)))

  -- ---- the scenes

  -- tables of two such nodes
  record Scenes (s t : Table) : Type 0 where
    gs : Groups
    hs : Groups
    pair : Pair (record { scenes = s; groups = gs }) (record { scenes = t; groups = hs })

  -- a command that both nodes tell alike
  record Both (p : Groups) (q : Groups) (e : ℕ) (c : Command) (d : calls.Command) : Type 0 where
    asks : asks c ≡ true
    short : whole_copy c ≡ false
    here : tells p f e c ≡ d
    there : tells q f e c ≡ d

  scenes-asked : {s t : Table} (x : Scenes s t) (e : ℕ) (c : Command) (d : calls.Command) → InRange (command f e c) → Both x.gs x.hs e c d
      → Same (calls.answer (calls.command f e d) s) (calls.answer (calls.command f e d) t)
  scenes-asked {s} {t} x e c d w b =
      subst₂ Same
      (told_answer _ x.pair.left e c b.asks ∙ ap (λ (y : calls.Command). calls.answer (calls.command f e y) s) b.here)
      (told_answer _ x.pair.right e c b.asks ∙ ap (λ (y : calls.Command). calls.answer (calls.command f e y) t) b.there)
      (asked x.pair e c w)

  scenes_moves : {s t : Table} (x : Scenes s t) (e : ℕ) (c : Command) (d : calls.Command) → InRange (command f e c) → Both x.gs x.hs e c d
      → Scenes (calls.next (calls.command f e d) s) (calls.next (calls.command f e d) t)
  scenes_moves {s} {t} x e c d w b = record {
    gs = x.gs;
    hs = x.hs;
    pair =
        subst₂ Pair
        (told_next _ x.pair.left e c b.asks ∙ ap (λ (y : calls.Command). record { scenes = calls.next (calls.command f e y) s; groups = x.gs }) b.here)
        (told_next _ x.pair.right e c b.asks ∙ ap (λ (y : calls.Command). record { scenes = calls.next (calls.command f e y) t; groups = x.hs }) b.there)
        (moves x.pair e c w b.short);
  }

  heard : {s t : Table} (x : Scenes s t) (e : ℕ) → e < 2 ^ 16
      → Pair (record { scenes = calls.next (calls.notice e) s; groups = x.gs }) (record { scenes = calls.next (calls.notice e) t; groups = x.hs })
  unfolding step
  heard x e w = hears x.pair e w

  -- no scene of a group that is not held
  not_there : (n : Node) → Standing n → Cared n.groups n.scenes → (e g sc : ℕ) → e < 2 ^ 16 → g < 2 ^ 16 → sc < 2 ^ 8 → (g ≡ 0 → ⊥)
      → is_member (group_key f e g) n.groups ≡ false → find (key_is (word_of (scene_key f e g sc))) (view_of n.scenes).entries ≡ none
  not_there n s z e g sc he hg hs k m =
      let w = word_of (scene_key f e g sc) in
      let pf : fabric_of w ≡ f = omega arith in
      let pe : endpoint_of w ≡ e = omega arith in
      let pg : group_of w ≡ g = omega arith in
      let lone : (x : SceneEntry) → key_is w x ≡ true → orphan n.groups x ≡ true =
      λ x h.
      let is = eqb-true x.key w h in
      ap (λ (y : ℕ). not (eqb (group_of y) 0) && not (is_member (group_in y) n.groups)) is
      ∙ (λ i. not (eqb (pg i) 0) && not (is_member (group_key (pf i) (pe i) (pg i)) n.groups))
      ∙ (λ i. not (ne_eqb g 0 k i) && not (m i)) in
      none_find (key_is w) (view_of n.scenes).entries (omega (arith, z.gone, count_le (key_is w) (orphan n.groups) lone (view_of n.scenes).entries))

  -- what is told of a group, in both
  record Said (x y : Groups) (e g : ℕ) (b : Bool) : Type 0 where
    here : member_of (group_key f e g) x ≡ cond b Yes No
    there : member_of (group_key f e g) y ≡ cond b Yes No

  saids : {s t : Table} (x : Scenes s t) (e g : ℕ) → e < 2 ^ 16 → g < 2 ^ 16 → (b : Bool) → is_member (group_key f e g) x.gs ≡ b → Said x.gs x.hs e g b
  saids x e g he hg b q = record {
    here = said x.gs (group_key f e g) b q;
    there = said x.hs (group_key f e g) b (sym (members x.pair e g he hg) ∙ q);
  }

  viewing : {s t : Table} (x : Scenes s t) (e g sc : ℕ) → e < 2 ^ 16 → g < 2 ^ 16 → sc < 2 ^ 8 → reserved sc ≡ false → (b : Bool) → Said x.gs x.hs e g b
      → member_gate g (cond b Yes No) ≡ 0
      → find (key_is (word_of (scene_key f e g sc))) (view_of s).entries ≡ find (key_is (word_of (scene_key f e g sc))) (view_of t).entries
  viewing {s} {t} x e g sc he hg hs plain b q z =
      viewed_alike laws f f1 f255 (cond b Yes No) s t x.pair.left.scenes x.pair.right.scenes e g sc he hg hs plain z
      (scenes-asked x e (view g sc) (calls.view g sc (cond b Yes No)) (hf, he, (hg, hs))
      (record { asks = refl; short = refl; here = ap (calls.view g sc) q.here; there = ap (calls.view g sc) q.there }))

  finds : {s t : Table} → Scenes s t → (k : ℕ) → fabric_of k ≡ f → find (key_is k) (view_of s).entries ≡ find (key_is k) (view_of t).entries
  finds {s} {t} x k h =
      (elim (bad_key k) as (λ b. bad_key k ≡ b → find (key_is k) (view_of s).entries ≡ find (key_is k) (view_of t).entries) [
        | true ↦ λ b. no_bad k (view_of s).entries x.pair.left.scenes.inv.good b ∙ sym (no_bad k (view_of t).entries x.pair.right.scenes.inv.good b)
        | false ↦ λ b.
            let q = parts f k h b in
            subst (λ (n : ℕ). find (key_is n) (view_of s).entries ≡ find (key_is n) (view_of t).entries) (sym q.is)
            (go q.e q.g q.s q.he q.hg q.hs q.plain (is_member (group_key f q.e q.g) x.gs) refl)
      ]) refl
    where
      go : (e g sc : ℕ) → e < 2 ^ 16 → g < 2 ^ 16 → sc < 2 ^ 8 → reserved sc ≡ false → (b : Bool) → is_member (group_key f e g) x.gs ≡ b
          → find (key_is (word_of (scene_key f e g sc))) (view_of s).entries ≡ find (key_is (word_of (scene_key f e g sc))) (view_of t).entries
      go e g sc he hg hs plain true m = viewing x e g sc he hg hs plain true (saids x e g he hg true m) (member_let g)
      go e g sc he hg hs plain false m =
          (elim (eqb g 0) as (λ c. eqb g 0 ≡ c → find (key_is (word_of (scene_key f e g sc))) (view_of s).entries ≡ find (key_is (word_of (scene_key f e g sc))) (view_of t).entries) [
            | true ↦ λ c.
                viewing x e g sc he hg hs plain false (saids x e g he hg false m) (subst (λ (n : ℕ). member_gate n No ≡ 0) (sym (eqb-true g 0 c)) (free_let No))
            | false ↦ λ c.
                let k = eqb-false g 0 c in
                not_there _ x.pair.left x.pair.cared e g sc he hg hs k m
                ∙ sym (not_there _ x.pair.right x.pair.cared' e g sc he hg hs k (sym (members x.pair e g he hg) ∙ m))
          ]) refl

  -- group 0 is never held
  free_said : {s t : Table} (x : Scenes s t) (e : ℕ) → e < 2 ^ 16 → Said x.gs x.hs e 0 false
  free_said x e he = saids x e 0 he (omega arith) false (ungrouped x.gs e)

  adding : {s t : Table} (x : Scenes s t) (e : ℕ) → e < 2 ^ 16 → Both x.gs x.hs e (add 0 1 0 [] []) (backward.adding No)
  adding x e he =
      let q = free_said x e he in
      record {
        asks = refl;
        short = refl;
        here = ap (λ (m : Membership). calls.add 0 1 0 m [] []) q.here;
        there = ap (λ (m : Membership). calls.add 0 1 0 m [] []) q.there;
      }

  stores : {s t : Table} → Scenes s t → (e g sc : ℕ) → e < 2 ^ 16 → g < 2 ^ 16 → sc < 2 ^ 8 → reserved sc ≡ false
      → (g ≡ 0) ⊎ (has (key_is (word_of (scene_key f e g sc))) (view_of s).entries ≡ true)
      → (m : Membership) × (member_gate g m ≡ 0) × Scenes (calls.next (calls.command f e (calls.store g sc m [])) s) (calls.next (calls.command f e (calls.store g sc m [])) t)
  stores {s} {t} x e g sc he hg hs plain known = go (is_member (group_key f e g) x.gs) refl
    where
      by : (b : Bool) → is_member (group_key f e g) x.gs ≡ b → member_gate g (cond b Yes No) ≡ 0
          → (m : Membership) × (member_gate g m ≡ 0) × Scenes (calls.next (calls.command f e (calls.store g sc m [])) s) (calls.next (calls.command f e (calls.store g sc m [])) t)
      by b m z =
          let q = saids x e g he hg b m in (
            cond b Yes No,
            z,
            scenes_moves x e (store g sc []) (calls.store g sc (cond b Yes No) []) (hf, he, (hg, hs, refl)) (record {
              asks = refl;
              short = refl;
              here = ap (λ (y : Membership). calls.store g sc y []) q.here;
              there = ap (λ (y : Membership). calls.store g sc y []) q.there;
            }),
          )

      go : (b : Bool) → is_member (group_key f e g) x.gs ≡ b
          → (m : Membership) × (member_gate g m ≡ 0) × Scenes (calls.next (calls.command f e (calls.store g sc m [])) s) (calls.next (calls.command f e (calls.store g sc m [])) t)
      go true m = by true m (member_let g)
      go false m =
          by false m (⊎_elim (λ z. subst (λ (n : ℕ). member_gate n No ≡ 0) (sym z) (free_let No)) (λ h.
          (elim (eqb g 0) as (λ c. eqb g 0 ≡ c → member_gate g No ≡ 0) [
            | true ↦ λ c. subst (λ (n : ℕ). member_gate n No ≡ 0) (sym (eqb-true g 0 c)) (free_let No)
            | false ↦ λ c.
                absurd (false≢true (sym (ap found (not_there _ x.pair.left x.pair.cared e g sc he hg hs (eqb-false g 0 c) m)) ∙ h))
          ]) refl) known)

  lists : backward.Telling f Scenes
  lists = record {
    left = λ x. x.pair.left.scenes;
    right = λ x. x.pair.right.scenes;
    finds = finds;
    reads = λ x. scenes-asked x 0 (info false) (calls.info false) (hf, omega arith, tt) (record { asks = refl; short = refl; here = refl; there = refl });
    hears = λ x e w. record { gs = x.gs; hs = x.hs; pair = heard x e w };
    member = No;
    adds = λ x e w. scenes-asked x e (add 0 1 0 [] []) (backward.adding No) (hf, w, (omega arith, omega arith, omega arith, refl, refl)) (adding x e w);
    added = λ x e w. scenes_moves x e (add 0 1 0 [] []) (backward.adding No) (hf, w, (omega arith, omega arith, omega arith, refl, refl)) (adding x e w);
    stores = stores;
  }

  -- ---- all matters

  pub agree : (m n : Node) → Standing m → Standing n → Cared m.groups m.scenes → Cared n.groups n.scenes → Equivalent f m n → Agree f m n
  agree m n i j ci cj see =
      let p : Pair m n = record { left = i; right = j; cared = ci; cared' = cj; see = see } in
      record {
        scenes = backward.agree laws f f1 f255 Scenes lists m.scenes n.scenes (record { gs = m.groups; hs = n.groups; pair = p });
        memberships = memberships p;
        free = free p;
      }
