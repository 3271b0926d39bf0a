-- The theorems say what they should: tables that differ and are equivalent for a fabric, tables that are not, and for each nearby
-- reading of the four matters, of the runs, or of what a refusal leaves, a counterexample. Assumes nothing.
use Prim.Native.Nat.{ℕ, ◌+◌, ◌*◌, ◌^◌, ◌<◌, min}
use native.Mathlib.Omega.{arith}
use mathlib.Core.Path.{◌≡◌, refl, ap}
use mathlib.Core.Bool.{true}
use mathlib.Core.List.{List, [], ◌∷◌, Permᴰ}
use mathlib.Core.Option.{Option, none, map, some-injective}
use lib.ListN.{replicate}
use Rattle.words.specs.Constants.{stride, success, max_remaining}
use Rattle.words.specs.Words.{key_of, endpoint_of, key_of_record}
use Rattle.requests.specs.declared.Membership.TheVariants.{Yes}
use Rattle.state.specs.Table.{Table, table_of, new_state, empty_table, entries_in, with_entry_count}
use Rattle.state.specs.Sound.{sound}
use Rattle.state.specs.Capacity.{share_mode}
use Rattle.state.specs.Answer.{Result}
use Rattle.copies.specs.Copy.{copy_scene}
use Rattle.scenes.proofs.Computing.{soundness, computing}
use Rattle.observation.specs.Lists.{bit, count}
use Rattle.observation.specs.Calls.{add, view, remove, store, copy, membership, Call, command, copy_request, does, step, answer, next}
use Rattle.observation.specs.Refusals as refusals
use Rattle.observation.specs.Equivalence.{Reached, empty, after, Equivalent, Agree, SeenRecord, seen, places_of, mine, scenes_of, current_of, record_fits, own}
use Rattle.observation.proofs.Theorem.{demand3}
use Rattle.observation.proofs.Refusals.{left}

-- a call of these runs computes too
unfoldable pub running : Unit {0}
unfolding step does computing
running = tt

-- a fabric adds, stores or removes a scene of group 0 on an endpoint
abbrev pub adds : ℕ → ℕ → ℕ → Call
adds f e s = command f e (add 0 s 5 Yes [] [])

abbrev stores : ℕ → ℕ → ℕ → Call
stores f e s = command f e (store 0 s Yes [])

abbrev pub removes : ℕ → ℕ → ℕ → Call
removes f e s = command f e (remove 0 s Yes)

-- group, scene and whether valid
abbrev bare : SeenRecord → List ℕ
bare r = r.group ∷ r.scene ∷ bit r.valid ∷ []

-- ---- the tables

-- a record of scene 9 of an endpoint, no longer valid
abbrev invalid_on : ℕ → Table
invalid_on e = next (removes 1 e 9) (next (stores 1 e 9) (empty_table 2))

-- scene 9 stored on two endpoints: the record is of the second
abbrev valid_on : ℕ → ℕ → Table
valid_on d e = next (stores 1 e 9) (next (stores 1 d 9) (empty_table 2))

-- another fabric fills the only place, with or without a record
abbrev filled : Table
filled = next (adds 2 1 3) (empty_table 1)

abbrev filled_recorded : Table
filled_recorded = next (stores 2 1 3) (empty_table 1)

-- another fabric's record alone takes the only place for records
abbrev recorded_only : Table
recorded_only = next (removes 2 1 3) (next (stores 2 1 3) (empty_table 1))

-- another fabric takes one of two places
abbrev one_taken : Table
one_taken = next (adds 2 1 3) (empty_table 2)

-- another fabric takes one of 255 places: more than 253 are free before and after
abbrev roomy : Table
roomy = empty_table 255

abbrev roomy_taken : Table
roomy_taken = next (adds 2 1 3) roomy

-- two scenes in either order
abbrev two : ℕ → ℕ → Table
two a b = next (adds 1 1 b) (next (adds 1 1 a) (empty_table 2))

-- scenes 1 and 2 of group 1, in either order, in a table of seven places
abbrev grouped : ℕ → ℕ → Table
grouped a b = next (command 1 1 (add 1 b 5 Yes [] [])) (next (command 1 1 (add 1 a 5 Yes [] [])) (empty_table 7))

-- the same key twice, which no call leaves
abbrev repeated : ℕ → ℕ → Table
repeated a b =
    table_of (with_entry_count 2 (new_state 2)) (key_of 1 1 0 1 ∷ key_of 1 1 0 1 ∷ []) (a ∷ b ∷ []) (replicate (2 * stride) 0) (0 ∷ 0 ∷ [])

-- ---- they are reached

empty_reached : (n : ℕ) → sound (empty_table n) ≡ true → Reached (empty_table n)
empty_reached n s = empty (empty_table n) s refl refl

empty-sound : (sound (empty_table 1) ≡ true) × (sound (empty_table 2) ≡ true) × (sound (empty_table 7) ≡ true) × (sound roomy ≡ true)
unfolding soundness
empty-sound = (refl, refl, refl, refl)

one_reached : Reached (empty_table 1)
one_reached = empty_reached 1 empty-sound.0

two_reached : Reached (empty_table 2)
two_reached = empty_reached 2 empty-sound.1

pub added : (f e g s : ℕ) {t : Table} → f < 2 ^ 8 → e < 2 ^ 16 → g < 2 ^ 16 → s < 2 ^ 8 → Reached t → Reached (next (command f e (add g s 5 Yes [] [])) t)
added f e g s hf he hg hs r = after (command f e (add g s 5 Yes [] [])) (hf, he, (hg, hs, omega arith, refl, refl)) r

storing : (f e s : ℕ) {t : Table} → f < 2 ^ 8 → e < 2 ^ 16 → s < 2 ^ 8 → Reached t → Reached (next (stores f e s) t)
storing f e s hf he hs r = after (stores f e s) (hf, he, (omega arith, hs, refl)) r

removing : (f e s : ℕ) {t : Table} → f < 2 ^ 8 → e < 2 ^ 16 → s < 2 ^ 8 → Reached t → Reached (next (removes f e s) t)
removing f e s hf he hs r = after (removes f e s) (hf, he, (omega arith, hs)) r

invalid_reached : (e : ℕ) → e < 2 ^ 16 → Reached (invalid_on e)
invalid_reached e h = removing 1 e 9 (omega arith) h (omega arith) (storing 1 e 9 (omega arith) h (omega arith) two_reached)

valid_reached : (d e : ℕ) → d < 2 ^ 16 → e < 2 ^ 16 → Reached (valid_on d e)
valid_reached d e hd he = storing 1 e 9 (omega arith) he (omega arith) (storing 1 d 9 (omega arith) hd (omega arith) two_reached)

filled_reached : Reached filled
filled_reached = added 2 1 0 3 (omega arith) (omega arith) (omega arith) (omega arith) one_reached

recorded_reached : Reached filled_recorded
recorded_reached = storing 2 1 3 (omega arith) (omega arith) (omega arith) one_reached

only_reached : Reached recorded_only
only_reached = removing 2 1 3 (omega arith) (omega arith) (omega arith) recorded_reached

taken_reached : Reached one_taken
taken_reached = added 2 1 0 3 (omega arith) (omega arith) (omega arith) (omega arith) two_reached

roomy_reached : Reached roomy
roomy_reached = empty_reached 255 empty-sound.3

roomy_taken_reached : Reached roomy_taken
roomy_taken_reached = added 2 1 0 3 (omega arith) (omega arith) (omega arith) (omega arith) roomy_reached

both_reached : (a b : ℕ) → a < 2 ^ 8 → b < 2 ^ 8 → Reached (two a b)
both_reached a b ha hb = added 1 1 0 b (omega arith) (omega arith) (omega arith) hb (added 1 1 0 a (omega arith) (omega arith) (omega arith) ha two_reached)

grouped_reached : (a b : ℕ) → a < 2 ^ 8 → b < 2 ^ 8 → Reached (grouped a b)
grouped_reached a b ha hb =
    added 1 1 1 b (omega arith) (omega arith) (omega arith) hb (added 1 1 1 a (omega arith) (omega arith) (omega arith) ha (empty_reached 7 empty-sound.2))

-- ---- what they agree on

invalid_agree : Agree 1 (invalid_on 0) (invalid_on 1)
unfolding running
invalid_agree = record { places = refl; scenes = Permᴰ.nil; recorded = refl; one_more = λ n h. refl }

filled_agree : Agree 1 filled filled_recorded
unfolding running
filled_agree = record { places = refl; scenes = Permᴰ.nil; recorded = refl; one_more = λ n h. absurd (omega arith) }

two_agree : Agree 1 (two 7 8) (two 8 7)
unfolding running
two_agree = record { places = refl; scenes = Permᴰ.swap refl refl; recorded = refl; one_more = λ n h. refl }

grouped_agree : Agree 1 (grouped 1 2) (grouped 2 1)
unfolding running
grouped_agree = record { places = refl; scenes = Permᴰ.swap refl refl; recorded = refl; one_more = λ n h. refl }

repeated_agree : Agree 1 (repeated 1 2) (repeated 2 1)
unfolding running
repeated_agree = record { places = refl; scenes = Permᴰ.swap refl refl; recorded = refl; one_more = λ n h. refl }

-- the tables of each pair have one size and mode
pub record OneKind (s t : Table) : Type 0 where
  pub size : s.state.size ≡ t.state.size
  pub mode : share_mode s.state ≡ share_mode t.state

pub one_kind : {s t : Table} → s.state.size ≡ t.state.size → share_mode s.state ≡ share_mode t.state → OneKind s t
one_kind z m = record { size = z; mode = m }

sizes :
    OneKind (invalid_on 0) (invalid_on 1)
    × OneKind (valid_on 1 0) (valid_on 0 1)
    × OneKind filled filled_recorded
    × OneKind (empty_table 1) recorded_only
    × OneKind (empty_table 2) one_taken
    × OneKind (two 7 8) (two 8 7)
    × OneKind (grouped 1 2) (grouped 2 1)
    × OneKind roomy roomy_taken
unfolding running
sizes = (
  one_kind refl refl,
  one_kind refl refl,
  one_kind refl refl,
  one_kind refl refl,
  one_kind refl refl,
  one_kind refl refl,
  one_kind refl refl,
  one_kind refl refl,
)

-- ---- where they differ

abbrev endpoints_of : Table → Option ℕ
endpoints_of t = map (λ w. endpoint_of (key_of_record w)) (current_of 1 t)

invalid_endpoints : endpoints_of (invalid_on 0) ≡ endpoints_of (invalid_on 1) → ⊥
unfolding running
invalid_endpoints e = let z : ◌≡◌ {A = ℕ} 0 1 = cc in omega arith

valid_differ : map seen (current_of 1 (valid_on 1 0)) ≡ map seen (current_of 1 (valid_on 0 1)) → ⊥
unfolding running
valid_differ e = omega (arith, ap (λ (r : SeenRecord). r.endpoint) (some-injective _ _ e))

-- agreement on all but the endpoint
abbrev Else : Table → Table → Type 0
Else s t =
    (places_of 1 s ≡ places_of 1 t) × Permᴰ (scenes_of 1 s) (scenes_of 1 t)
    × (map (λ w. bare (seen w)) (current_of 1 s) ≡ map (λ w. bare (seen w)) (current_of 1 t)) × (record_fits s ≡ record_fits t)

valid_else : Else (valid_on 1 0) (valid_on 0 1)
unfolding running
valid_else = (refl, Permᴰ.swap refl refl, refl, refl)

fits_differ : (current_of 1 (empty_table 1) ≡ none → 0 < count (mine 1) (entries_in (empty_table 1)) + places_of 1 (empty_table 1) → record_fits (empty_table 1) ≡ record_fits recorded_only) → ⊥
unfolding running
fits_differ e = let q = e refl (omega arith) in let z : ◌≡◌ {A = ℕ} 0 1 = cc in omega arith

fits_else : (places_of 1 (empty_table 1) ≡ places_of 1 recorded_only) × Permᴰ (scenes_of 1 (empty_table 1)) (scenes_of 1 recorded_only) × (map seen (current_of 1 (empty_table 1)) ≡ map seen (current_of 1 recorded_only))
unfolding running
fits_else = (refl, Permᴰ.nil, refl)

filled_fits : record_fits filled ≡ record_fits filled_recorded → ⊥
unfolding running
filled_fits e = let z : ◌≡◌ {A = ℕ} 0 1 = cc in omega arith

places_differ : places_of 1 (empty_table 2) ≡ places_of 1 one_taken → ⊥
unfolding running
places_differ e = omega arith

places_else : Permᴰ (scenes_of 1 (empty_table 2)) (scenes_of 1 one_taken) × (map seen (current_of 1 (empty_table 2)) ≡ map seen (current_of 1 one_taken)) × (record_fits (empty_table 2) ≡ record_fits one_taken)
unfolding running
places_else = (Permᴰ.nil, refl, refl)

roomy_differ : places_of 1 roomy ≡ places_of 1 roomy_taken → ⊥
unfolding running
roomy_differ e = omega arith

roomy_else :
    (min (places_of 1 roomy) max_remaining ≡ min (places_of 1 roomy_taken) max_remaining) × Permᴰ (scenes_of 1 roomy) (scenes_of 1 roomy_taken)
    × (map seen (current_of 1 roomy) ≡ map seen (current_of 1 roomy_taken)) × (record_fits roomy ≡ record_fits roomy_taken)
unfolding running
roomy_else = (refl, Permᴰ.nil, refl, refl)

-- membership lists the two scenes in their order
abbrev listing : Call
listing = command 1 1 (membership 0 Yes (0 ∷ 0 ∷ []))

ids_differ : (answer listing (two 7 8)).ids ≡ (answer listing (two 8 7)).ids → ⊥
unfolding running
ids_differ e = let z : ◌≡◌ {A = ℕ} 7 8 = cc in omega arith

-- a whole-group copy that runs out is answered alike and leaves another copy: a run that went on would tell
abbrev copying : Call
copying = command 1 1 (copy 1 1 0 2 0 Yes Yes)

copies_alike : ((answer copying (grouped 1 2)).status ≡ 0x89) × ((answer copying (grouped 2 1)).status ≡ 0x89)
unfolding running
copies_alike = (refl, refl)

abbrev viewing : Call
viewing = command 1 1 (view 2 1 Yes)

copies_differ : (answer viewing (next copying (grouped 1 2))).status ≡ (answer viewing (next copying (grouped 2 1))).status → ⊥
unfolding running
copies_differ e = omega arith

-- there were two entries before it, and there are three then
abbrev copied-midway : Result
copied-midway = copy_scene (copy_request 1 1 1 1 0 2 0) Yes Yes (grouped 1 2)

copy_changes : (copied-midway.status ≡ 0x89) × (copied-midway.table.state.entries ≡ 3) × ((grouped 1 2).state.entries ≡ 2)
unfolding running
copy_changes = (refl, refl, refl)

-- tables that were not reached: with a repeated key they may agree and still not be equivalent
repeated_sound : (sound (repeated 1 2) ≡ true) × (sound (repeated 2 1) ≡ true)
unfolding soundness
repeated_sound = (refl, refl)

repeated_differ : (answer (command 1 1 (view 0 1 Yes)) (repeated 1 2)).values ≡ (answer (command 1 1 (view 0 1 Yes)) (repeated 2 1)).values → ⊥
unfolding running
repeated_differ e = let z : ◌≡◌ {A = ℕ} 1 2 = cc in omega arith

-- ---- the readings, each with its counterexample

pub same : (s t : Table) → Reached s → Reached t → OneKind s t → Agree 1 s t → Equivalent 1 s t
same s t r q z a = (demand3 1 s t (omega arith) (omega arith) r q z.size z.mode).1 a

pub told : (s t : Table) → Reached s → Reached t → OneKind s t → Equivalent 1 s t → Agree 1 s t
told s t r q z e = (demand3 1 s t (omega arith) (omega arith) r q z.size z.mode).0 e

-- "the endpoint is compared always": two tables are equivalent and differ in the endpoint of an invalid record
pub endpoint_not_always : Equivalent 1 (invalid_on 0) (invalid_on 1) × (endpoints_of (invalid_on 0) ≡ endpoints_of (invalid_on 1) → ⊥)
endpoint_not_always =
    (same (invalid_on 0) (invalid_on 1) (invalid_reached 0 (omega arith)) (invalid_reached 1 (omega arith)) sizes.0 invalid_agree, invalid_endpoints)

-- "the endpoint is compared never": two tables agree on all else, and a notice tells them apart
pub endpoint_not_never : Else (valid_on 1 0) (valid_on 0 1) × (Equivalent 1 (valid_on 1 0) (valid_on 0 1) → ⊥)
endpoint_not_never =
    (valid_else, (λ e. valid_differ (told (valid_on 1 0) (valid_on 0 1) (valid_reached 1 0 (omega arith) (omega arith)) (valid_reached 0 1 (omega arith) (omega arith)) sizes.1 e).recorded))

-- "whether one more record fits is compared always": not seen by a fabric without a scene and without a place
pub fit_not_always : Equivalent 1 filled filled_recorded × (record_fits filled ≡ record_fits filled_recorded → ⊥)
fit_not_always = (same filled filled_recorded filled_reached recorded_reached sizes.2 filled_agree, filled_fits)

-- "whether one more record fits is compared never": a fabric that has a place sees it
pub fit_not_never :
    (places_of 1 (empty_table 1) ≡ places_of 1 recorded_only) × Permᴰ (scenes_of 1 (empty_table 1)) (scenes_of 1 recorded_only)
    × (map seen (current_of 1 (empty_table 1)) ≡ map seen (current_of 1 recorded_only))
    × (Equivalent 1 (empty_table 1) recorded_only → ⊥)
fit_not_never =
    (fits_else.0, fits_else.1, fits_else.2, (λ e. fits_differ (told (empty_table 1) recorded_only one_reached only_reached sizes.3 e).one_more))

-- "free places are left out"
pub places_not_out :
    Permᴰ (scenes_of 1 (empty_table 2)) (scenes_of 1 one_taken)
    × (map seen (current_of 1 (empty_table 2)) ≡ map seen (current_of 1 one_taken))
    × (record_fits (empty_table 2) ≡ record_fits one_taken)
    × (Equivalent 1 (empty_table 2) one_taken → ⊥)
places_not_out =
    (places_else.0, places_else.1, places_else.2, (λ e. places_differ (told (empty_table 2) one_taken two_reached taken_reached sizes.4 e).places))

-- "free places are cut as a remaining capacity is": more than 253 of them are told apart
pub places_not_cut :
    (min (places_of 1 roomy) max_remaining ≡ min (places_of 1 roomy_taken) max_remaining) × Permᴰ (scenes_of 1 roomy) (scenes_of 1 roomy_taken)
    × (map seen (current_of 1 roomy) ≡ map seen (current_of 1 roomy_taken)) × (record_fits roomy ≡ record_fits roomy_taken)
    × (Equivalent 1 roomy roomy_taken → ⊥)
places_not_cut =
    (roomy_else.0, roomy_else.1, roomy_else.2, roomy_else.3, (λ e. roomy_differ (told roomy roomy_taken roomy_reached roomy_taken_reached sizes.7 e).places))

-- "scene lists compare in order": two tables are equivalent and list their scenes in another order
pub lists_not_in_order : Equivalent 1 (two 7 8) (two 8 7) × ((answer listing (two 7 8)).ids ≡ (answer listing (two 8 7)).ids → ⊥)
lists_not_in_order =
    (same (two 7 8) (two 8 7) (both_reached 7 8 (omega arith) (omega arith)) (both_reached 8 7 (omega arith) (omega arith)) sizes.5 two_agree, ids_differ)

-- "a run goes on after a whole-group copy that was refused": equivalent tables, both answered 0x89, and a view then tells them apart
pub runs_not_on :
    Equivalent 1 (grouped 1 2) (grouped 2 1)
    × ((answer copying (grouped 1 2)).status ≡ 0x89)
    × ((answer copying (grouped 2 1)).status ≡ 0x89)
    × ((answer viewing (next copying (grouped 1 2))).status ≡ (answer viewing (next copying (grouped 2 1))).status → ⊥)
runs_not_on = (
  same (grouped 1 2) (grouped 2 1) (grouped_reached 1 2 (omega arith) (omega arith)) (grouped_reached 2 1 (omega arith) (omega arith)) sizes.6 grouped_agree,
  copies_alike.0,
  copies_alike.1,
  copies_differ,
)

-- "the tables need not be reached": two sound tables with a repeated key agree on the four matters, and a view tells them apart
pub reached_not_idle : (sound (repeated 1 2) ≡ true) × (sound (repeated 2 1) ≡ true) × Agree 1 (repeated 1 2) (repeated 2 1) × (Equivalent 1 (repeated 1 2) (repeated 2 1) → ⊥)
reached_not_idle = (
  repeated_sound.0,
  repeated_sound.1,
  repeated_agree,
  (λ e. repeated_differ (e (own 1 (view 0 1 Yes) ∷ []) ((omega arith, omega arith, (omega arith, omega arith)), tt)).0.values),
)

-- "every refusal changes nothing", without an exception: a whole-group copy that runs out midway is refused and has changed the table
pub exception_not_idle : refusals.WithoutException → ⊥
exception_not_idle every =
    let refusal : copied-midway.status ≡ success → ⊥ = λ z. omega (arith, copy_changes.0) in
    let c : refusals.Outward = refusals.copy (copy_request 1 1 1 1 0 2 0) Yes Yes in
    let same : copied-midway.table.state.entries ≡ (grouped 1 2).state.entries =
    ap (λ (a : refusals.Answered). (left (grouped 1 2) a).state.entries) (every c (grouped 1 2) refusal) in
    omega (arith, copy_changes.1, copy_changes.2)
