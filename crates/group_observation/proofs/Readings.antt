-- The claim says what it should: for each nearby reading of its matters, and for a load or a command that is told its membership in the history, a
-- counterexample. Assumes nothing.
use Prim.Native.Nat.{ℕ, zero, suc, ◌+◌, ◌^◌, ◌≤◌, ◌<◌}
use native.Mathlib.Omega.{arith}
use mathlib.Core.Path.{◌≡◌, refl, sym, ap, ◌∙◌, subst, subst₂}
use mathlib.Core.Bool.{Bool, true, false, cond, false≢true}
use mathlib.Core.List.Permᴰ
use mathlib.Core.List.{List, [], ◌∷◌, ◌++◌, Permᴰ}
use lib.Dec.{eqb, ltb}
use lib.ListN.{length, get_or, replicate, length-replicate}
use borrow.Author.Tests.{eq-eqb, ne_eqb}
use Rattle.words.specs.Constants.{success, memberships_full, max_memberships}
use Rattle.words.specs.Words.{fabric_of}
use Rattle.words.specs.declared.GroupKey.{GroupKey}
use Rattle.state.specs.Table.{Table, empty_table}
use Rattle.state.specs.Sound.{sound}
use Rattle.state.specs.Capacity.{share_mode}
use Rattle.scenes.proofs.Computing.{soundness}
use Rattle.groups.specs.Groups.{Groups, groups_of, with_held, group_word, groups_sound, words_in, is_member, Joined, with_member}
use Rattle.observation.specs.Lists.{bit, count, keep}
use Rattle.observation.specs.Calls.{group_key}
use Rattle.observation.specs.Equivalence as scenes
use Rattle.observation.proofs.Counts.{count-append}
use Rattle.observation.proofs.Choices.{bit_zero}
use Rattle.observation.proofs.Order.{perm_often}
use Rattle.group_observation.specs.Nodes.{Node, join, command, does, step, answer, next}
use Rattle.group_observation.specs.Equivalence.{Reached, begun, after, NoneSince, fills, own, memberships_of, free_memberships, Agree, Exactly}
use Rattle.group_observation.proofs.Words.{is_word, of_words, no_member, no_members, joined_words}
use Rattle.group_observation.proofs.Reach.{Joining, turned, again, full, new, joining, gate_open, reached_standing}
use Rattle.group_observation.proofs.Enrolled.{reached_cared}
use Rattle.group_observation.proofs.Backward.{takes, agree}
use Rattle.group_observation.proofs.Theorem.{alike_exactly}

-- ---- the nodes

-- nobody has a scene or a membership
abbrev start : Node
start = record { scenes = empty_table 1; groups = groups_of (with_held 0) (replicate 256 0) }

start-sound : sound (empty_table 1) ≡ true
unfolding soundness
start-sound = refl

start-groups : groups_sound start.groups ≡ true
unfolding words_in
start-groups = of_words start.groups (omega arith) (let l : length {A = ℕ} (replicate 256 0) ≡ 256 = length-replicate {A = ℕ} 256 0 in omega arith) refl

-- a node that was filled only by what asks
pub record History : Type 0 where
  pub node : Node
  pub reached : Reached node
  pub asked : NoneSince fills reached

abbrev fresh_start : History
fresh_start = record { node = start; reached = begun start start-sound refl refl start-groups refl; asked = tt }

abbrev joins : History → (f e g : ℕ) → f < 2 ^ 8 → e < 2 ^ 16 → g < 2 ^ 16 → History
joins h f e g hf he hg = record {
  node = next (command f e (join g)) h.node;
  reached = after (command f e (join g)) (hf, he, hg) h.reached;
  asked = (refl, h.asked);
}

-- a join of what is not held, while there is room
record Took (n : Node) (k : GroupKey) (x : Node) : Type 0 where
  scenes : x.scenes ≡ n.scenes
  groups : x.groups ≡ with_member k n.groups

took : (n : Node) → groups_sound n.groups ≡ true → (f e g : ℕ) → 1 ≤ f → 1 ≤ g → is_member (group_key f e g) n.groups ≡ false
    → n.groups.state.held < max_memberships → Took n (group_key f e g) (next (command f e (join g)) n)
unfolding step does
took n sd f e g f1 g1 m h = go (joining (group_key f e g) n.groups sd)
  where
    go : Joining (group_key f e g) n.groups → Took n (group_key f e g) (next (command f e (join g)) n)
    go (turned z j) = absurd (z (gate_open f e g n.groups sd f1 g1))
    go (again p y j) = absurd (false≢true (sym m ∙ y))
    go (full p y l j) = absurd (omega arith)
    go (new p y l j) = record { scenes = refl; groups = ap (λ (x : Joined). x.groups) j }

-- ---- fabric 2 holds k memberships

pub record Filled (k : ℕ) : Type 0 where
  pub by : History
  pub scenes : by.node.scenes ≡ empty_table 1
  pub held : by.node.groups.state.held ≡ k
  pub others : count (λ w. eqb (fabric_of w) 1) (words_in by.node.groups) ≡ 0
  pub ahead : (j : ℕ) → k ≤ j → j < 2 ^ 16 → count (is_word (group_word (group_key 2 j 1))) (words_in by.node.groups) ≡ 0

pub fill : (k : ℕ) → k ≤ 256 → Filled k
unfolding words_in with_member
fill zero h = record { by = fresh_start; scenes = refl; held = refl; others = refl; ahead = λ j _ _. refl }
fill (suc k) h =
    let p = fill k (omega arith) in
    let n = p.by.node in
    let sd = (reached_standing p.by.reached).fair.intact in
    let few : n.groups.state.held < max_memberships = omega (arith, p.held) in
    let m = no_member n.groups sd (group_key 2 k 1) (p.ahead k (omega arith) (omega arith)) in
    let t = took n sd 2 k 1 (omega arith) (omega arith) m few in
    let ws = ap words_in t.groups ∙ joined_words (group_key 2 k 1) n.groups sd few in
    let counted : (q : ℕ → Bool) → count q (words_in (next (command 2 k (join 1)) n).groups) ≡ count q (words_in n.groups) + (bit (q (group_word (group_key 2 k 1))) + 0) =
    λ q. ap (count q) ws ∙ count-append q (words_in n.groups) (group_word (group_key 2 k 1) ∷ []) in
    record {
      by = joins p.by 2 k 1 (omega arith) (omega arith) (omega arith);
      scenes = t.scenes ∙ p.scenes;
      held = ap (λ (g : Groups). g.state.held) t.groups ∙ omega (arith, p.held);
      others =
          let no : eqb (fabric_of (group_word (group_key 2 k 1))) 1 ≡ false = ne_eqb (fabric_of (group_word (group_key 2 k 1))) 1 (λ e. omega arith) in
          counted (λ w. eqb (fabric_of w) 1) ∙ omega (arith, p.others, ap bit no);
      ahead = λ j l small.
          let no : eqb (group_word (group_key 2 k 1)) (group_word (group_key 2 j 1)) ≡ false = ne_eqb (group_word (group_key 2 k 1)) (group_word (group_key 2 j 1)) (λ e. omega arith) in
          counted (is_word (group_word (group_key 2 j 1))) ∙ omega (arith, p.ahead j (omega arith) small, ap bit no);
    }

-- ---- scenes that are the same agree

same-scenes : (f : ℕ) (s t : Table) → s ≡ t → scenes.Agree f s t
same-scenes f s t e = subst (scenes.Agree f s) e (record { places = refl; scenes = Permᴰ.refl (scenes.scenes_of f s); recorded = refl; one_more = λ _ _. refl })

keep_none : (p : ℕ → Bool) (xs : List ℕ) → count p xs ≡ 0 → keep p xs ≡ []
keep_none p [] z = refl
keep_none p (x ∷ xs) z = ap (λ (b : Bool). cond b (x ∷ keep p xs) (keep p xs)) (bit_zero (p x) (omega arith)) ∙ keep_none p xs (omega arith)

-- ---- "the free membership places need not agree"

pub record WithoutFree (f : ℕ) (m n : Node) : Type 0 where
  pub scenes : scenes.Agree f m.scenes n.scenes
  pub memberships : Permᴰ (memberships_of f m) (memberships_of f n)

-- 256 memberships of another fabric, or 255: a join is answered 12, or 0
pub free-counts : Exactly fills WithoutFree → ⊥
free-counts claim =
    let a = fill 256 (omega arith) in
    let b = fill 255 (omega arith) in
    let m = a.by.node in
    let n = b.by.node in
    let sm = reached_standing a.by.reached in
    let sn = reached_standing b.by.reached in
    let none-own : (k : ℕ) (x : Filled k) → memberships_of 1 x.by.node ≡ [] = λ k x. keep_none (λ w. eqb (fabric_of w) 1) (words_in x.by.node.groups) x.others in
    let size : m.scenes ≡ n.scenes = a.scenes ∙ sym b.scenes in
    let see = (claim 1 m n (omega arith) (omega arith) a.by.reached b.by.reached a.by.asked b.by.asked
    (ap (λ (t : Table). t.state.size) size) (ap (λ (t : Table). share_mode t.state) size)).1
    (record { scenes = same-scenes 1 m.scenes n.scenes size; memberships = subst₂ Permᴰ (sym (none-own 256 a)) (sym (none-own 255 b)) Permᴰ.nil }) in
    let s = (see (own 1 (join 1) ∷ []) ((omega arith, omega arith, omega arith), tt)).0.status in
    let un : (k : ℕ) (x : Filled k) → groups_sound x.by.node.groups ≡ true → is_member (group_key 1 1 1) x.by.node.groups ≡ false =
    λ k x sd. no_members x.by.node.groups sd 1 1 1 (omega arith) (omega arith) x.others in
    let ma = (takes 1 (omega arith) (omega arith) m sm 1 (un 256 a sm.fair.intact)).status in
    let mb = (takes 1 (omega arith) (omega arith) n sn 1 (un 255 b sn.fair.intact)).status in
    let twelve : (answer (command 1 1 (join 1)) m).status ≡ memberships_full = ma ∙ ap (λ (k : ℕ). cond (ltb k max_memberships) success memberships_full) a.held in
    let zero_one : (answer (command 1 1 (join 1)) n).status ≡ success = mb ∙ ap (λ (k : ℕ). cond (ltb k max_memberships) success memberships_full) b.held in
    let w : ⊥ = omega (arith, s, twelve, zero_one) in w

-- ---- fabric 1 joins one group, or two

-- on endpoint 1
abbrev key : ℕ → GroupKey
key g = group_key 1 1 g

record Joiner (g : ℕ) : Type 0 where
  by : History
  scenes : by.node.scenes ≡ empty_table 1
  held : by.node.groups.state.held ≡ 1
  words : words_in by.node.groups ≡ group_word (key g) ∷ []

joiner : (g : ℕ) → 1 ≤ g → g < 2 ^ 16 → Joiner g
unfolding words_in with_member
joiner g g1 hg =
    let t = took start start-groups 1 1 g (omega arith) g1 (no_member start.groups start-groups (key g) refl) (omega arith) in
    record {
      by = joins fresh_start 1 1 g (omega arith) (omega arith) hg;
      scenes = t.scenes;
      held = ap (λ (x : Groups). x.state.held) t.groups;
      words = ap words_in t.groups ∙ joined_words (key g) start.groups start-groups (omega arith);
    }

record Joiner2 (g h : ℕ) : Type 0 where
  by : History
  scenes : by.node.scenes ≡ empty_table 1
  held : by.node.groups.state.held ≡ 2
  words : words_in by.node.groups ≡ group_word (key g) ∷ group_word (key h) ∷ []

joiner2 : (g h : ℕ) → 1 ≤ g → g < 2 ^ 16 → 1 ≤ h → h < 2 ^ 16 → (g ≡ h → ⊥) → Joiner2 g h
unfolding with_member
joiner2 g h g1 hg h1 hh d =
    let p = joiner g g1 hg in
    let n = p.by.node in
    let sd = (reached_standing p.by.reached).fair.intact in
    let apart : eqb (group_word (key g)) (group_word (key h)) ≡ false = ne_eqb (group_word (key g)) (group_word (key h)) (λ e. d (omega arith)) in
    let few : n.groups.state.held < max_memberships = omega (arith, p.held) in
    let t = took n sd 1 1 h (omega arith) h1 (no_member n.groups sd (key h) (ap (count (is_word (group_word (key h)))) p.words ∙ omega (arith, ap bit apart))) few in
    record {
      by = joins p.by 1 1 h (omega arith) (omega arith) hh;
      scenes = t.scenes ∙ p.scenes;
      held = ap (λ (x : Groups). x.state.held) t.groups ∙ omega (arith, p.held);
      words = ap words_in t.groups ∙ joined_words (key h) n.groups sd few ∙ ap (λ (ws : List ℕ). ws ++ (group_word (key h) ∷ [])) p.words;
    }

own-words : (g : ℕ) → g < 2 ^ 16 → eqb (fabric_of (group_word (key g))) 1 ≡ true
own-words g hg = eq-eqb (fabric_of (group_word (key g))) 1 (omega arith)

-- ---- "its own memberships need not agree"

pub record WithoutOwn (f : ℕ) (m n : Node) : Type 0 where
  pub scenes : scenes.Agree f m.scenes n.scenes
  pub free : free_memberships m ≡ free_memberships n

one_kind : (m n : Node) → m.scenes ≡ n.scenes → (m.scenes.state.size ≡ n.scenes.state.size) × (share_mode m.scenes.state ≡ share_mode n.scenes.state)
one_kind m n e = (ap (λ (t : Table). t.state.size) e, ap (λ (t : Table). share_mode t.state) e)

-- a member of group 1, or of group 2: a view in group 1 is answered 0x8B, or 0x85
pub own-counts : Exactly fills WithoutOwn → ⊥
own-counts claim =
    let a = joiner 1 (omega arith) (omega arith) in
    let b = joiner 2 (omega arith) (omega arith) in
    let m = a.by.node in
    let n = b.by.node in
    let e : m.scenes ≡ n.scenes = a.scenes ∙ sym b.scenes in
    let k = one_kind m n e in
    let see = (claim 1 m n (omega arith) (omega arith) a.by.reached b.by.reached a.by.asked b.by.asked k.0 k.1).1
    (record { scenes = same-scenes 1 m.scenes n.scenes e; free = omega (arith, a.held, b.held) }) in
    let q = (agree 1 (omega arith) (omega arith) m n (reached_standing a.by.reached) (reached_standing b.by.reached)
    (reached_cared a.by.reached a.by.asked) (reached_cared b.by.reached b.by.asked) see).memberships in
    let one : count (is_word (group_word (key 1))) (memberships_of 1 m) ≡ 1 = ap (λ (ws : List ℕ). count (is_word (group_word (key 1))) (keep (λ w. eqb (fabric_of w) 1) ws)) a.words in
    let none_of : count (is_word (group_word (key 1))) (memberships_of 1 n) ≡ 0 = ap (λ (ws : List ℕ). count (is_word (group_word (key 1))) (keep (λ w. eqb (fabric_of w) 1) ws)) b.words in
    let w : ⊥ = omega (arith, perm_often q (is_word (group_word (key 1))), one, none_of) in w

-- ---- "its memberships agree in order"

pub record InOrder (f : ℕ) (m n : Node) : Type 0 where
  pub scenes : scenes.Agree f m.scenes n.scenes
  pub memberships : memberships_of f m ≡ memberships_of f n
  pub free : free_memberships m ≡ free_memberships n

pub order_aside : Exactly fills InOrder → ⊥
order_aside claim =
    let a = joiner2 1 2 (omega arith) (omega arith) (omega arith) (omega arith) (λ z. omega arith) in
    let b = joiner2 2 1 (omega arith) (omega arith) (omega arith) (omega arith) (λ z. omega arith) in
    let m = a.by.node in
    let n = b.by.node in
    let e : m.scenes ≡ n.scenes = a.scenes ∙ sym b.scenes in
    let k = one_kind m n e in
    let am : memberships_of 1 m ≡ group_word (key 1) ∷ group_word (key 2) ∷ [] = ap (keep (λ w. eqb (fabric_of w) 1)) a.words in
    let bn : memberships_of 1 n ≡ group_word (key 2) ∷ group_word (key 1) ∷ [] = ap (keep (λ w. eqb (fabric_of w) 1)) b.words in
    let see = (alike_exactly 1 m n (omega arith) (omega arith) a.by.reached b.by.reached a.by.asked b.by.asked k.0 k.1).1
    (record {
      scenes = same-scenes 1 m.scenes n.scenes e;
      memberships = subst₂ Permᴰ (sym am) (sym bn) (Permᴰ.swap refl refl);
      free = omega (arith, a.held, b.held);
    }) in
    let q = ((claim 1 m n (omega arith) (omega arith) a.by.reached b.by.reached a.by.asked b.by.asked k.0 k.1).0 see).memberships in
    let w : ⊥ = omega (arith, ap (λ (ws : List ℕ). get_or ws 0 0) (sym am ∙ q ∙ bn)) in w
