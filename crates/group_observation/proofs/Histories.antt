-- With a load in its history, or a command that was told its membership, a node may hold a scene that its fabric cannot reach: no list tells what the scene
-- is, and the claim fails. Assumes nothing.
use Prim.Native.Nat.{ℕ, ◌+◌, ◌*◌, ◌/◌, ◌^◌, ◌<◌}
use native.Mathlib.Omega.{arith}
use mathlib.Core.Path.{◌≡◌, refl, sym, ap, ◌∙◌, subst}
use mathlib.Core.Bool.{Bool, true, false, cond, not, ◌&&◌, ◌||◌, false≢true}
use mathlib.Core.List.{List, [], ◌∷◌, ◌++◌, map}
use lib.Dec.{eqb, ltb}
use lib.ListN.{length}
use borrow.Author.Tests.{eqb-true, eqb-false, ne_eqb, le-ltb}
use Rattle.words.specs.Constants.{success, insufficient_space, not_found, buffer_too_short, end_of_container, max_memberships}
use Rattle.words.specs.Words.{word_of, fabric_of, group_keys, within}
use Rattle.words.specs.declared.SceneKey.{SceneKey}
use Rattle.slots.specs.Slots.{SceneEntry}
use Rattle.records.specs.declared.Scope.TheVariants.{Scene, Group, Endpoint}
use Rattle.commands.specs.declared.Applied.{Applied}
use Rattle.reads.specs.Reads.{Transition}
use Rattle.requests.specs.declared.Membership.TheVariants.{Yes}
use Rattle.state.specs.Table.{Table, empty_table}
use Rattle.state.specs.Sound.{sound}
use Rattle.state.specs.Capacity.{share_mode}
use Rattle.image_load.proofs.Computing.{loading}
use Rattle.groups.specs.Groups.{Groups, groups_sound, words_in, is_member, Joined, joined_of, join_group}
use Rattle.asking.specs.Asking.{Both, leave_gate, leave_group}
use Rattle.observation.specs.Lists.{count, find, keep}
use Rattle.observation.specs.Calls as calls
use Rattle.observation.specs.Calls.{Answer, scene_key, group_key}
use Rattle.observation.specs.Equivalence as scenes
use Rattle.observation.specs.Equivalence.{Same, key_is, unless}
use Rattle.observation.proofs.Lists.{has, take_out}
use Rattle.observation.proofs.Lookups.{holds, entry_of}
use Rattle.observation.proofs.Changes.{View, view_of, room_in, places_in, place_for, entries_set, written, invalidated, remembered}
use Rattle.observation.proofs.Effects.{Seen, sees, gate_of, refuse, done, time_of, viewed, applied, recalled, add_out, sources, target, scope_of, copy_out, ids_in, info_out, remaining_in}
use Rattle.observation.proofs.Choices.{or_none}
use Rattle.observation.proofs.Calls.{laws}
use Rattle.observation.proofs.Order.{perm_often}
use Rattle.observation.proofs.Readings.{running}
use Rattle.observation.proofs.Respond.{same_of}
use Rattle.group_observation.specs.Nodes.{Node, Command, add, add_read, view, remove, remove_all, store, recall, copy, membership, info, join, leave, Call, command, on_scenes, Out, of_joined, of_both, does, step, answer, next, CommandInRange, InRange, loads, is_told}
use Rattle.group_observation.specs.Equivalence.{Reached, begun, after, NoneSince, fills, Event, own, noticed, ends, Alike, AllInRange, Equivalent, Agree, Exactly}
use Rattle.group_observation.proofs.Words.{no_members}
use Rattle.group_observation.proofs.Asks.{asks, tells, tells_range, told, stays}
use Rattle.group_observation.proofs.Reach.{Joining, turned, again, full, new, joining, reached_standing}
use Rattle.group_observation.proofs.Enrolled.{group-passed, passed-member, leaves}
use Rattle.observation.proofs.Brought.{group_named}
use Rattle.group_observation.proofs.Readings.{Filled, fill}

-- the only scene of a table of one place: fabric 1, endpoint 1, group 1, scene 1
abbrev orphan_key : ℕ
orphan_key = word_of (scene_key 1 1 1 1)

abbrev stuck_view : ℕ → ℕ → View
stuck_view version time = record { size = 1; modes = 0; dataver = version; entries = record { key = orphan_key; time = time; fields = [] } ∷ []; records = [] }

-- ---- what the view answers in group 0

-- the right-hand sides of the laws, with the key in one place
abbrev removed : SceneKey → View → Seen
removed key v =
    cond (has (key_is (word_of key)) v.entries) (done true, invalidated (Scene key) (entries_set (take_out (key_is (word_of key)) v.entries) v)) (refuse not_found, v)

abbrev removed_all : ℕ → ℕ → View → Seen
removed_all e g v =
    cond (has (holds (group_keys 1 e g)) v.entries)
    (done true, invalidated (Group (group_key 1 e g)) (entries_set (keep (λ x. not (holds (group_keys 1 e g) x)) v.entries) v)) (done false, v)

abbrev stored : SceneKey → List ℕ → View → Seen
stored key captured v =
    cond (place_for key.fabric (word_of key) v) (
      done true,
      remembered key (invalidated (Scene key) (written (entry_of key (time_of (find (key_is (word_of key)) v.entries)) (captured ++ (end_of_container ∷ []))) v)),
    )
    (refuse insufficient_space, v)

abbrev ended : SceneKey → Transition → Applied → View → Seen
ended key o a v =
    (recalled o a (find (key_is (word_of key)) v.entries), cond (has (key_is (word_of key)) v.entries && applied a) (remembered key v) v)

abbrev copied_out : ℕ → ℕ → ℕ → ℕ → ℕ → ℕ → View → Seen
copied_out e mode g s h r v =
    cond (eqb (room_in 1 v) 0) (refuse insufficient_space, v) (copy_out 1 (scope_of 1 e mode h r) (map (target 1 e mode h r) (sources 1 e mode g s v)) v)

abbrev listed : ℕ → ℕ → List ℕ → View → Seen
listed e g buffer v =
    cond (ltb (length buffer) (length (ids_in 1 e g v))) (refuse buffer_too_short, v)
    (record { status = success; save = false; values = remaining_in 1 v ∷ []; ids = ids_in 1 e g v }, v)

module _ (e s : ℕ) (hs : s < 2 ^ 8) (version time : ℕ) where
  abbrev v : View
  v = stuck_view version time

  abbrev key : SceneKey
  key = scene_key 1 e 0 s

  -- the scene is not there, and there is no place for it
  other : eqb orphan_key (word_of key) ≡ false
  other = ne_eqb orphan_key (word_of key) (λ q. omega arith)

  add_stuck : (later : ℕ) (ext : List ℕ) → add_out key later ext v ≡ (refuse insufficient_space, v)
  unfolding places_in
  add_stuck later ext = rw other refl

  view_stuck : ◌≡◌ {A = Seen} (viewed (find (key_is (word_of key)) v.entries), v) (refuse not_found, v)
  view_stuck = rw other refl

  remove_stuck : removed key v ≡ (refuse not_found, v)
  remove_stuck = rw other refl

  store_stuck : (captured : List ℕ) → stored key captured v ≡ (refuse insufficient_space, v)
  unfolding places_in
  store_stuck captured = rw other refl

  recall_stuck : (o : Transition) (a : Applied) → ended key o a v ≡ (refuse not_found, v)
  recall_stuck o a = rw other refl

module _ (e version time : ℕ) where
  abbrev u : View
  u = stuck_view version time

  none_listed : eqb (orphan_key / 2 ^ 8) ((1 * 2 ^ 16 + e) * 2 ^ 16 + 0) ≡ false
  none_listed = ne_eqb (orphan_key / 2 ^ 8) ((1 * 2 ^ 16 + e) * 2 ^ 16 + 0) (λ q. omega arith)

  remove_all_stuck : removed_all e 0 u ≡ (done false, u)
  unfolding within
  remove_all_stuck = rw none_listed refl

  membership_stuck : (buffer : List ℕ) → listed e 0 buffer u ≡ (record { status = success; save = false; values = 0 ∷ []; ids = [] }, u)
  unfolding within room_in
  membership_stuck buffer = rw (none_listed, le-ltb (length buffer) 0 (omega arith)) refl

  copy_stuck : (mode g s h r : ℕ) → copied_out e mode g s h r u ≡ (refuse insufficient_space, u)
  unfolding room_in
  copy_stuck mode g s h r = refl

  same-info : info_out 1 e u ≡ info_out 1 e (stuck_view 0 0)
  unfolding room_in
  same-info = refl

-- ---- a node with this view, whose memberships are all another fabric's

module _ (gs : Groups) (sd : groups_sound gs ≡ true) (all : gs.state.held ≡ max_memberships) (others : count (λ w. eqb (fabric_of w) 1) (words_in gs) ≡ 0) where
  pub record Stuck (time : ℕ) (n : Node) : Type 0 where
    pub groups : n.groups ≡ gs
    pub intact : sound n.scenes ≡ true
    pub version : ℕ
    pub view : view_of n.scenes ≡ stuck_view version time

  not_held : (e g : ℕ) → e < 2 ^ 16 → g < 2 ^ 16 → is_member (group_key 1 e g) gs ≡ false
  not_held e g he hg = no_members gs sd 1 e g he hg others

  -- past the gate the group is 0
  ungrouped : (e : ℕ) (c : Command) → e < 2 ^ 16 → group_named (tells gs 1 e c) < 2 ^ 16 → asks c ≡ true → gate_of 1 e (tells gs 1 e c) ≡ 0 → group_named (tells gs 1 e c) ≡ 0
  ungrouped e c he hg q z =
      let g = group_named (tells gs 1 e c) in
      (elim (eqb g 0) as (λ b. eqb g 0 ≡ b → g ≡ 0) [
        | true ↦ λ y. eqb-true g 0 y
        | false ↦ λ y. absurd (false≢true (sym (not_held e g he hg) ∙ passed-member g (group_key 1 e g) gs (group-passed 1 e gs c z q) (eqb-false g 0 y)))
      ]) refl

  -- what a command that is let through answers
  abbrev passed : ℕ → Command → Answer
  passed e (add g s time pairs ext) = refuse insufficient_space
  passed e (add_read g s time pairs ext) = refuse insufficient_space
  passed e (view g s) = refuse not_found
  passed e (remove g s) = refuse not_found
  passed e (remove_all g) = done false
  passed e (store g s captured) = refuse insufficient_space
  passed e (recall g s o a) = refuse not_found
  passed e (copy mode g s h r) = refuse insufficient_space
  passed e (membership g buffer) = record { status = success; save = false; values = 0 ∷ []; ids = [] }
  passed e (info single) = info_out 1 e (stuck_view 0 0)
  passed e (join g) = refuse 0
  passed e (leave g) = refuse 0

  module _ (e : ℕ) (he : e < 2 ^ 16) (t : Table) (sound-t : sound t ≡ true) (version time : ℕ) (is : view_of t ≡ stuck_view version time) where
    abbrev hf : 1 < 2 ^ 8
    hf = omega arith

    let_through : (c : Command) → CommandInRange c → asks c ≡ true → gate_of 1 e (tells gs 1 e c) ≡ 0
        → sees (calls.command 1 e (tells gs 1 e c)) t ≡ (passed e c, stuck_view version time)
    let_through (add g s later pairs ext) w q z =
        (laws.commands 1 e t sound-t hf he).add_acts g s later _ pairs ext w z
        ∙ (λ i. add_out (scene_key 1 e (ungrouped e (add g s later pairs ext) he w.0 q z i) s) later ext (is i)) ∙ add_stuck e s w.1 version time later ext
    let_through (add_read g s later pairs ext) w q z =
        (laws.commands 1 e t sound-t hf he).add_read_acts g s later _ pairs ext w z
        ∙ (λ i. add_out (scene_key 1 e (ungrouped e (add_read g s later pairs ext) he w.0 q z i) s) later ext (is i)) ∙ add_stuck e s w.1 version time later ext
    let_through (view g s) w q z =
        (laws.commands 1 e t sound-t hf he).view_acts g s _ w z
        ∙ (λ i. (viewed (find (key_is (word_of (scene_key 1 e (ungrouped e (view g s) he w.0 q z i) s))) (is i).entries), is i)) ∙ view_stuck e s w.1 version time
    let_through (remove g s) w q z =
        (laws.commands 1 e t sound-t hf he).remove_acts g s _ w z
        ∙ (λ i. removed (scene_key 1 e (ungrouped e (remove g s) he w.0 q z i) s) (is i)) ∙ remove_stuck e s w.1 version time
    let_through (remove_all g) w q z =
        (laws.commands 1 e t sound-t hf he).remove_all_acts g _ w z
        ∙ (λ i. removed_all e (ungrouped e (remove_all g) he w q z i) (is i)) ∙ remove_all_stuck e version time
    let_through (store g s captured) w q z =
        (laws.commands 1 e t sound-t hf he).store_acts g s _ captured w z
        ∙ (λ i. stored (scene_key 1 e (ungrouped e (store g s captured) he w.0 q z i) s) captured (is i)) ∙ store_stuck e s w.1 version time captured
    let_through (recall g s o a) w q z =
        (laws.commands 1 e t sound-t hf he).recall_acts g s _ o a w z
        ∙ (λ i. ended (scene_key 1 e (ungrouped e (recall g s o a) he w.0 q z i) s) o a (is i)) ∙ recall_stuck e s w.1 version time o a
    let_through (copy mode g s h r) w q z =
        (laws.commands 1 e t sound-t hf he).copy_acts mode g s h r _ _ w z ∙ (λ i. copied_out e mode g s h r (is i)) ∙ copy_stuck e version time mode g s h r
    let_through (membership g buffer) w q z =
        (laws.commands 1 e t sound-t hf he).membership_acts g _ buffer w z
        ∙ (λ i. listed e (ungrouped e (membership g buffer) he w.0 q z i) buffer (is i)) ∙ membership_stuck e version time buffer
    let_through (info single) w q z =
        (laws.commands 1 e t sound-t hf he).info_acts single z ∙ (λ i. (info_out 1 e (is i), is i)) ∙ (λ i. (same-info e version time i, stuck_view version time))
    let_through (join g) w q z = absurd (false≢true q)
    let_through (leave g) w q z = absurd (false≢true q)

    -- any command that asks: one answer, whatever the scene's time, and the view stays
    abbrev said : Command → Answer
    said c = cond (eqb (gate_of 1 e (tells gs 1 e c)) 0) (passed e c) (refuse (gate_of 1 e (tells gs 1 e c)))

    answers : (c : Command) → CommandInRange c → asks c ≡ true → sees (calls.command 1 e (tells gs 1 e c)) t ≡ (said c, stuck_view version time)
    answers c w q =
        let gate = gate_of 1 e (tells gs 1 e c) in
        (elim (eqb gate 0) as (λ b. eqb gate 0 ≡ b → sees (calls.command 1 e (tells gs 1 e c)) t ≡ (cond b (passed e c) (refuse gate), stuck_view version time)) [
          | true ↦ λ y. let_through c w q (eqb-true gate 0 y)
          | false ↦ λ y.
              (laws.commands 1 e t sound-t hf he).refused_acts (tells gs 1 e c) (tells_range gs 1 e c w) (eqb-false gate 0 y) ∙ (λ i. (refuse gate, is i))
        ]) refl

  -- ---- one call: its answer, by the memberships and the command alone, and a node that is stuck as it was

  record Replies (time : ℕ) (o : Out) (r : Answer) : Type 0 where
    is : o.0 ≡ r
    left : Stuck time o.1

  module _ (time : ℕ) (n : Node) (x : Stuck time n) (e : ℕ) where
    asked_replies : (c : Command) → InRange (command 1 e c) → asks c ≡ true
        → Replies time (step (command 1 e c) n) (cond (eqb (gate_of 1 e (tells gs 1 e c)) 0) (passed e c) (refuse (gate_of 1 e (tells gs 1 e c))))
    unfolding step calls.step
    asked_replies c w q =
        let r = answers e w.1 n.scenes x.intact x.version time x.view c w.2 q in
        subst (λ (o : Out). Replies time o (cond (eqb (gate_of 1 e (tells gs 1 e c)) 0) (passed e c) (refuse (gate_of 1 e (tells gs 1 e c)))))
        (sym (ap (λ (g : Groups). does 1 e c g n.scenes) x.groups ∙ told gs sd n.scenes 1 e c q))
        (record {
          is = ap (λ (o : Seen). o.0) r;
          left = record {
            groups = refl;
            intact = laws.step-sound (calls.command 1 e (tells gs 1 e c)) n.scenes (w.0, w.1, tells_range gs 1 e c w.2) x.intact;
            version = x.version;
            view = ap (λ (o : Seen). o.1) r;
          };
        })

    same_node : Stuck time (record { scenes = n.scenes; groups = gs })
    same_node = record { groups = refl; intact = x.intact; version = x.version; view = x.view }

    join_replies : (g : ℕ) → InRange (command 1 e (join g)) → Replies time (step (command 1 e (join g)) n) (refuse (join_group (group_key 1 e g) gs).status)
    unfolding step does
    join_replies g w = go (joining (group_key 1 e g) gs sd)
      where
        by : (s : ℕ) → join_group (group_key 1 e g) gs ≡ joined_of s gs → Replies time (step (command 1 e (join g)) n) (refuse (join_group (group_key 1 e g) gs).status)
        by s j =
            subst (λ (h : Groups). Replies time (of_joined n.scenes (join_group (group_key 1 e g) h)) (refuse (join_group (group_key 1 e g) gs).status)) (sym x.groups)
            (record { is = refl; left = subst (λ (o : Joined). Stuck time (record { scenes = n.scenes; groups = o.groups })) (sym j) same_node })

        go : Joining (group_key 1 e g) gs → Replies time (step (command 1 e (join g)) n) (refuse (join_group (group_key 1 e g) gs).status)
        go (turned z j) = by _ j
        go (again p m j) = absurd (false≢true (sym (not_held e g w.1 w.2) ∙ m))
        go (full p m h j) = by _ j
        go (new p m h j) = absurd (omega arith)

    leave_replies : (g : ℕ) → InRange (command 1 e (leave g)) → Replies time (step (command 1 e (leave g)) n) (refuse (leave_gate (group_key 1 e g) gs))
    unfolding step does
    leave_replies g w =
        let key = group_key 1 e g in
        let no : leave_gate key gs ≡ success → ⊥ = λ z. false≢true (sym (not_held e g w.1 w.2) ∙ (leaves key gs z).member) in
        subst (λ (h : Groups). Replies time (of_both (leave_group key h n.scenes)) (refuse (leave_gate key gs))) (sym x.groups)
        (subst (λ (o : Both). Replies time (of_both o) (refuse (leave_gate key gs))) (sym (stays key gs sd n.scenes x.intact no)) (record { is = refl; left = same_node }))

    heard : e < 2 ^ 16 → Stuck time (next (on_scenes (calls.notice e)) n)
    unfolding step invalidated
    heard he = record {
      groups = x.groups;
      intact = laws.step-sound (calls.notice e) n.scenes he x.intact;
      version = x.version;
      view = ap (λ (o : Seen). o.1) ((laws.events n.scenes x.intact).notice_acts e he) ∙ ap (invalidated (Endpoint e)) x.view;
    }

  -- ---- two such nodes answer every list alike

  record Twins (a b : ℕ) (o o' : Out) : Type 0 where
    same : Same o.0 o'.0
    left : Stuck a o.1
    right : Stuck b o'.1

  both_reply : {a b : ℕ} {o o' : Out} {r : Answer} → Replies a o r → Replies b o' r → Twins a b o o'
  both_reply p q = record { same = same_of (p.is ∙ sym q.is); left = p.left; right = q.left }

  module _ (a b : ℕ) where
    twins : (m n : Node) → Stuck a m → Stuck b n → (e : ℕ) (c : Command) → InRange (command 1 e c) → Twins a b (step (command 1 e c) m) (step (command 1 e c) n)
    twins m n x y e (add g s time pairs ext) w = both_reply (asked_replies a m x e (add g s time pairs ext) w refl) (asked_replies b n y e (add g s time pairs ext) w refl)
    twins m n x y e (add_read g s time pairs ext) w = both_reply (asked_replies a m x e (add_read g s time pairs ext) w refl) (asked_replies b n y e (add_read g s time pairs ext) w refl)
    twins m n x y e (view g s) w = both_reply (asked_replies a m x e (view g s) w refl) (asked_replies b n y e (view g s) w refl)
    twins m n x y e (remove g s) w = both_reply (asked_replies a m x e (remove g s) w refl) (asked_replies b n y e (remove g s) w refl)
    twins m n x y e (remove_all g) w = both_reply (asked_replies a m x e (remove_all g) w refl) (asked_replies b n y e (remove_all g) w refl)
    twins m n x y e (store g s captured) w = both_reply (asked_replies a m x e (store g s captured) w refl) (asked_replies b n y e (store g s captured) w refl)
    twins m n x y e (recall g s o r) w = both_reply (asked_replies a m x e (recall g s o r) w refl) (asked_replies b n y e (recall g s o r) w refl)
    twins m n x y e (copy mode g s h r) w = both_reply (asked_replies a m x e (copy mode g s h r) w refl) (asked_replies b n y e (copy mode g s h r) w refl)
    twins m n x y e (membership g buffer) w = both_reply (asked_replies a m x e (membership g buffer) w refl) (asked_replies b n y e (membership g buffer) w refl)
    twins m n x y e (info single) w = both_reply (asked_replies a m x e (info single) w refl) (asked_replies b n y e (info single) w refl)
    twins m n x y e (join g) w = both_reply (join_replies a m x e g w) (join_replies b n y e g w)
    twins m n x y e (leave g) w = both_reply (leave_replies a m x e g w) (leave_replies b n y e g w)

    unless_any : (c : Bool) (X : Type 0) → X → unless c X
    unless_any true X z = tt
    unless_any false X z = z

    pub stuck_alike : (xs : List Event) (m n : Node) → AllInRange 1 xs → Stuck a m → Stuck b n → Alike 1 xs m n
    stuck_alike [] m n w x y = tt
    stuck_alike (own e c ∷ xs) m n w x y =
        let t = twins m n x y e c w.0 in
        let over = ends (own e c) (answer (command 1 e c) m) || ends (own e c) (answer (command 1 e c) n) in
        (t.same, unless_any over (Alike 1 xs (next (command 1 e c) m) (next (command 1 e c) n)) (stuck_alike xs (next (command 1 e c) m) (next (command 1 e c) n) w.1 t.left t.right))
    stuck_alike (noticed e ∷ xs) m n w x y =
        (tt, stuck_alike xs (next (on_scenes (calls.notice e)) m) (next (on_scenes (calls.notice e)) n) w.1 (heard a m x e w.0) (heard b n y e w.0))

-- ---- the histories

-- an image of the scene with time 5, or 6
abbrev orphan_image : ℕ → List ℕ
orphan_image time =
    0x15 ∷ 0x36 ∷ 0x00
    ∷ 0x15 ∷ 0x24 ∷ 0x00 ∷ 0x01 ∷ 0x24 ∷ 0x01 ∷ 0x01 ∷ 0x24 ∷ 0x02 ∷ 0x01 ∷ 0x24 ∷ 0x03 ∷ 0x01 ∷ 0x24 ∷ 0x04 ∷ time ∷ 0x30 ∷ 0x05 ∷ 0x00 ∷ 0x18
    ∷ 0x18 ∷ 0x36 ∷ 0x01 ∷ 0x18 ∷ 0x18 ∷ []

-- a history with fewer tests passed
less_since : (p q : Call → Bool) → ((c : Call) → p c ≡ false → q c ≡ false) → {n : Node} (r : Reached n) → NoneSince p r → NoneSince q r
less_since p q h (begun n s e r g z) a = tt
less_since p q h (after c w r) a = (h c a.0, less_since p q h r a.1)

-- a call of the scenes that leaves the view of one, or of the other
record Leaves (c : calls.Call) (time : ℕ) : Type 0 where
  fits : calls.InRange c
  size : (calls.next c (empty_table 1)).state.size ≡ 1
  modes : share_mode (calls.next c (empty_table 1)).state ≡ false
  version : ℕ
  view : view_of (calls.next c (empty_table 1)) ≡ stuck_view version time

load-five : Leaves (calls.load (orphan_image 5)) 5
unfolding running loading view_of
load-five = record { fits = refl; size = refl; modes = refl; version = 1; view = refl }

load_six : Leaves (calls.load (orphan_image 6)) 6
unfolding running loading view_of
load_six = record { fits = refl; size = refl; modes = refl; version = 1; view = refl }

add_five : Leaves (calls.command 1 1 (calls.add 1 1 5 Yes [] [])) 5
unfolding running view_of
add_five = record { fits = (omega arith, omega arith, (omega arith, omega arith, omega arith, refl, refl)); size = refl; modes = refl; version = 0; view = refl }

add_six : Leaves (calls.command 1 1 (calls.add 1 1 6 Yes [] [])) 6
unfolding running view_of
add_six = record { fits = (omega arith, omega arith, (omega arith, omega arith, omega arith, refl, refl)); size = refl; modes = refl; version = 0; view = refl }

-- with either kind of call in the history the claim fails: the scene's time is not seen
module _ (p : Call → Bool) (sub : (c : Call) → fills c ≡ false → p c ≡ false) (c d : calls.Call)
    (out-c : p (on_scenes c) ≡ false) (out-d : p (on_scenes d) ≡ false) (five : Leaves c 5) (six : Leaves d 6) where
  abbrev base : Filled 256
  base = fill 256 (omega arith)

  table : (x : calls.Call) → calls.next x base.by.node.scenes ≡ calls.next x (empty_table 1)
  table x = ap (calls.next x) base.scenes

  stuck : (x : calls.Call) (time : ℕ) → Leaves x time
      → Stuck base.by.node.groups (reached_standing base.by.reached).fair.intact base.held base.others time (next (on_scenes x) base.by.node)
  unfolding step
  stuck x time l = record {
    groups = refl;
    intact = laws.step-sound x base.by.node.scenes l.fits (reached_standing base.by.reached).scenes.intact;
    version = l.version;
    view = ap view_of (table x) ∙ l.view;
  }

  fails : Exactly p Agree → ⊥
  unfolding step view_of
  fails claim =
      let g = base.by.node.groups in
      let sd = (reached_standing base.by.reached).fair.intact in
      let m = next (on_scenes c) base.by.node in
      let n = next (on_scenes d) base.by.node in
      let none-since = less_since fills p sub base.by.reached base.by.asked in
      let see : Equivalent 1 m n = λ xs fit. stuck_alike g sd base.held base.others 5 6 xs m n fit (stuck c 5 five) (stuck d 6 six) in
      let a = (claim 1 m n (omega arith) (omega arith) (after (on_scenes c) five.fits base.by.reached) (after (on_scenes d) six.fits base.by.reached)
      (out-c, none-since) (out-d, none-since)
      (ap (λ (t : Table). t.state.size) (table c) ∙ five.size ∙ sym (ap (λ (t : Table). t.state.size) (table d) ∙ six.size))
      (ap (λ (t : Table). share_mode t.state) (table c) ∙ five.modes ∙ sym (ap (λ (t : Table). share_mode t.state) (table d) ∙ six.modes))).0 see in
      let late : SceneEntry → Bool = λ x. eqb x.time 5 in
      let of : (x : calls.Call) (time : ℕ) → Leaves x time → count late (scenes.scenes_of 1 (calls.next x base.by.node.scenes)) ≡ count late (keep (scenes.mine 1) (stuck_view 0 time).entries) =
      λ x time l. ap (λ (v : View). count late (keep (scenes.mine 1) v.entries)) (ap view_of (table x) ∙ l.view) in
      let w : ⊥ = omega (arith, perm_often a.scenes.scenes late, of c 5 five, of d 6 six) in w

-- "a load in the history does no harm"
pub load_harms : Exactly is_told Agree → ⊥
load_harms = fails is_told (λ c z. (or_none (loads c) (is_told c) z).1) (calls.load (orphan_image 5)) (calls.load (orphan_image 6)) refl refl load-five load_six

-- "a command in the history that was told its membership does no harm"
pub telling_harms : Exactly loads Agree → ⊥
telling_harms =
    fails loads (λ c z. (or_none (loads c) (is_told c) z).0) (calls.command 1 1 (calls.add 1 1 5 Yes [] [])) (calls.command 1 1 (calls.add 1 1 6 Yes [] [])) refl refl add_five add_six
