-- Every row marked P holds of the definitions that the contracts cite. Assumes nothing.
use Prim.Native.Nat.{ℕ}
use mathlib.Core.Path.{◌≡◌, refl, ap, ◌∙◌}
use mathlib.Core.Bool.{Bool, true, false, cond, ◌||◌}
use mathlib.Core.List.{List, [], ◌∷◌, ◌++◌}
use mathlib.Core.Logic.{◌⊎◌, inl, inr, ⊎_elim}
use native.Mathlib.Omega.{arith}
use lib.Dec.{eqb}
use Rattle.words.specs.Constants.{success, constraint_error, insufficient_space, global_scene, reserved_scene}
use Rattle.requests.specs.declared.Membership.{Membership}
use Rattle.requests.specs.declared.Membership.TheVariants.{Yes}
use Rattle.words.specs.Words.{within}
use Rattle.words.specs.Below.{count_below}
use Rattle.slots.specs.Slots.{count_keys}
use Rattle.requests.specs.declared.CopyRequest.{CopyRequest}
use Rattle.requests.specs.Requests.{or_next, first_refusal, whole_group, refuse_if, scene_gate, copied_gate, member_gate, lookup_gate, copy_gate}
use Rattle.requests.proofs.Laws.{next_pass, next_refuse}
use Rattle.scenes.proofs.Computing.{soundness, computing}
use Rattle.state.specs.Table.{Table, empty_table}
use Rattle.state.specs.Sound.{sound}
use Rattle.state.specs.Capacity.{room_for, remaining}
use Rattle.state.specs.Change.{find_scene}
use Rattle.state.specs.Answer.{refused, refusal_of, guarded}
use Rattle.commands.specs.Commands.{remove_found, remove_scene}
use Rattle.commands.specs.Counted.{counted, store_counted}
use Rattle.copies.specs.Copy.{copy_scenes_inner, copy_scene}
use Rattle.examples.specs.Rows.{Row, Holds, EveryRow, rows, Naming, byAdd, byView, byRemove, byStore, by_recall, by_lookup, bySource, byTarget, named, plain, passes, passing, reserved, capacity, longest, too_long, no_copy, add_works, midway, removed, versions, counts, standing, outcome, scene_in, abc, copy_of, one_of_three, Copying, request}

-- ---- the rows of one case

abbrev capacity_rows : List Row
capacity_rows =
    capacity 0 0 0 ∷ capacity 1 0 0 ∷ capacity 2 0 0 ∷ capacity 3 0 1 ∷ capacity 16 6 1 ∷ capacity 16 7 0 ∷ capacity 1024 0 253 ∷ []

capacities : EveryRow capacity_rows
unfolding remaining room_for count_keys count_below within
capacities = ((λ _. refl), ((λ _. refl), ((λ _. refl), ((λ _. refl), ((λ _. refl), ((λ _. refl), ((λ _. refl), tt)))))))

abbrev time_rows : List Row
time_rows = longest ∷ too_long ∷ []

times : EveryRow time_rows
unfolding computing
times = ((λ _. refl), ((λ _. refl), tt))

calls : EveryRow (add_works ∷ midway ∷ versions ∷ [])
unfolding computing
calls = ((λ _. refl), ((λ _. refl), ((λ _. refl), tt)))

counts-row : Holds counts
unfolding computing store_counted counted
counts-row c = refl

-- keys a, b and c stand in a table that is sound
abc-sound : sound abc ≡ true
unfolding computing
abc-sound = refl

remove-sound : (t : Table) → sound t ≡ true → remove_scene (scene_in 0 1) Yes t ≡ remove_found (find_scene (scene_in 0 1) t) (scene_in 0 1) t
unfolding remove_scene guarded refusal_of lookup_gate first_refusal or_next member_gate
remove-sound t e = rw e

removed-view : outcome (remove_found (find_scene (scene_in 0 1) abc) (scene_in 0 1) abc) ≡ 0 ∷ standing 0 3 300 ++ standing 0 2 200
unfolding computing
removed-view = refl

removed-row : Holds removed
removed-row c = ap outcome (remove-sound abc abc-sound) ∙ removed-view

-- ---- scenes 1 and 254, 0 and 255

passing-status : (b : Bool) (n : Naming) → named (plain n) 0 (cond b 1 254) Yes ≡ passes n
unfolding computing
passing-status true byAdd = refl
passing-status true byView = refl
passing-status true byRemove = refl
passing-status true byStore = refl
passing-status true (by_recall a) = refl
passing-status true (by_lookup o) = refl
passing-status true (bySource r) = refl
passing-status true (byTarget r) = refl
passing-status false byAdd = refl
passing-status false byView = refl
passing-status false byRemove = refl
passing-status false byStore = refl
passing-status false (by_recall a) = refl
passing-status false (by_lookup o) = refl
passing-status false (bySource r) = refl
passing-status false (byTarget r) = refl

-- a copy whose target scene is reserved is refused whatever its source scene is
both_refuse : (r : ℕ) → or_next (scene_gate r) constraint_error ≡ constraint_error
unfolding or_next
both_refuse r =
    elim (eqb r global_scene || eqb r reserved_scene) as (λ b. or_next (refuse_if b constraint_error) constraint_error ≡ constraint_error)
    [ true ↦ refl | false ↦ refl ]

target_gate_lem : (b : Bool) (r g : ℕ) (m : Membership) → copy_gate (copy_of 0 g r g (cond b global_scene reserved_scene)) m m ≡ constraint_error
unfolding copy_gate first_refusal or_next
target_gate_lem true r g m = both_refuse r
target_gate_lem false r g m = both_refuse r

refused-copy : (c : CopyRequest)
    → (guarded (refused (empty_table 16)) (refusal_of (empty_table 16) constraint_error) (copy_scenes_inner c (empty_table 16))).status ≡ constraint_error
unfolding guarded refusal_of soundness
refused-copy c = refl

target_status : (b : Bool) (r g : ℕ) (m : Membership) → named (byTarget r) g (cond b global_scene reserved_scene) m ≡ constraint_error
unfolding copy_scene
target_status b r g m =
    let c : CopyRequest = copy_of 0 g r g (cond b global_scene reserved_scene) in
    ap (λ (n : ℕ). (guarded (refused (empty_table 16)) (refusal_of (empty_table 16) n) (copy_scenes_inner c (empty_table 16))).status) (target_gate_lem b r g m) ∙ refused-copy c

reserved-status : (b : Bool) (n : Naming) (g : ℕ) (m : Membership) → named n g (cond b global_scene reserved_scene) m ≡ constraint_error
unfolding computing
reserved-status true byAdd g m = refl
reserved-status true byView g m = refl
reserved-status true byRemove g m = refl
reserved-status true byStore g m = refl
reserved-status true (by_recall a) g m = refl
reserved-status true (by_lookup o) g m = refl
reserved-status true (bySource r) g m = refl
reserved-status true (byTarget r) g m = target_status true r g m
reserved-status false byAdd g m = refl
reserved-status false byView g m = refl
reserved-status false byRemove g m = refl
reserved-status false byStore g m = refl
reserved-status false (by_recall a) g m = refl
reserved-status false (by_lookup o) g m = refl
reserved-status false (bySource r) g m = refl
reserved-status false (byTarget r) g m = target_status false r g m

-- ---- copies in a table of three places

member_yes : (g : ℕ) → member_gate g Yes ≡ success
unfolding member_gate
member_yes g = elim (eqb g 0) as (λ b. cond b success success ≡ success) [ true ↦ refl | false ↦ refl ]

copied_either : (mode s : ℕ) → (copied_gate mode s ≡ success) ⊎ (copied_gate mode s ≡ constraint_error)
copied_either mode s =
    elim (whole_group mode) as (λ w. (cond w success (scene_gate s) ≡ success) ⊎ (cond w success (scene_gate s) ≡ constraint_error)) [
      | true ↦ inl refl
      | false ↦ elim (eqb s global_scene || eqb s reserved_scene) as (λ b. (refuse_if b constraint_error ≡ success) ⊎ (refuse_if b constraint_error ≡ constraint_error)) [ true ↦ inr refl | false ↦ inl refl ]
    ]

-- with membership yes a copy's gate is 0 or 0x87
gate_either : (c : Copying) → (copy_gate (request c) Yes Yes ≡ success) ⊎ (copy_gate (request c) Yes Yes ≡ constraint_error)
unfolding copy_gate first_refusal
gate_either c =
    let refuses : (x y : ℕ) → x ≡ constraint_error → or_next x y ≡ constraint_error = λ x y e. next_refuse x y (λ z. omega arith) ∙ e in
    ⊎_elim
    (λ x.
    ⊎_elim
    (λ y. inl (next_pass 0 _ refl ∙ next_pass _ _ x ∙ next_pass _ _ y ∙ next_pass _ _ (member_yes c.group) ∙ next_pass _ _ (member_yes c.to_group)))
    (λ y. inr (next_pass 0 _ refl ∙ next_pass _ _ x ∙ refuses _ _ y))
    (copied_either c.mode c.to_scene))
    (λ x. inr (next_pass 0 _ refl ∙ refuses _ _ x))
    (copied_either c.mode c.scene)

full : (c : Copying) (n : ℕ) → (guarded (refused one_of_three) (refusal_of one_of_three n) (copy_scenes_inner (request c) one_of_three)).status ≡ cond (eqb n success) insufficient_space n
unfolding computing
full c n = elim (eqb n success) as (λ b. (cond b (refused one_of_three insufficient_space) (refused one_of_three n)).status ≡ cond b insufficient_space n) [ true ↦ refl | false ↦ refl ]

no_copy_lem : Holds no_copy
unfolding copy_scene
no_copy_lem c =
    ap (λ (n : ℕ). n ∷ [])
    (full c (copy_gate (request c) Yes Yes)
    ∙ ⊎_elim (λ z. rw z) (λ z. rw z) (gate_either c))

-- ---- the theorem

abbrev scene_rows : List Row
scene_rows = passing 1 ∷ passing 254 ∷ reserved global_scene ∷ reserved reserved_scene ∷ []

scenes : EveryRow scene_rows
scenes = (
  (λ n. ap (λ (k : ℕ). k ∷ []) (passing-status true n)),
  (
    (λ n. ap (λ (k : ℕ). k ∷ []) (passing-status false n)),
    (
      (λ c. ap (λ (k : ℕ). k ∷ []) (reserved-status true c.naming c.group c.member)),
      ((λ c. ap (λ (k : ℕ). k ∷ []) (reserved-status false c.naming c.group c.member)), tt),
    ),
  ),
)

joined : (rs ss : List Row) → EveryRow rs → EveryRow ss → EveryRow (rs ++ ss)
joined [] ss a b = b
joined (r ∷ rs) ss a b = (a.0, joined rs ss a.1 b)

pub every_row : EveryRow rows
every_row =
    let others : List Row = no_copy ∷ add_works ∷ midway ∷ removed ∷ versions ∷ counts ∷ [] in
    joined capacity_rows (time_rows ++ scene_rows ++ others) capacities
    (joined time_rows (scene_rows ++ others) times
    (joined scene_rows others scenes
    (no_copy_lem, (calls.0, (calls.1.0, (removed-row, (calls.1.1.0, (counts-row, tt))))))))
