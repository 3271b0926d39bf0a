-- What add, store, remove, remove all and recall answer, and the table that they leave: document 01, "Commands".
use Rattle.std.specs.Prelude.{ℕ, true, false, cond, List, [], ◌∷◌, ◌++◌, eqb, length, get_or, Option, Some, None}
use Rattle.words.specs.Constants.{success, not_found, apply_failed, max_fields, end_of_container}
use Rattle.words.specs.Words.{group_keys}
use Rattle.words.specs.declared.SceneKey.{SceneKey}
use Rattle.words.specs.declared.GroupKey.{GroupKey}
use Rattle.records.specs.declared.Scope.TheVariants.{Scene, Group}
use Rattle.requests.specs.declared.Membership.{Membership}
use Rattle.requests.specs.Requests.{add_gate, store_gate, lookup_gate, group_gate}
use Rattle.commands.specs.declared.Applied.{Applied}
use Rattle.commands.specs.declared.Applied.TheVariants.{Yes, Failed}
use Rattle.state.specs.Table.{Table, with_entries, with_current}
use Rattle.state.specs.Current.{remember_current, invalidate_current}
use Rattle.state.specs.Change.{find_scene, Upserted, saved, upsert, swap_remove, retain_outside}
use Rattle.state.specs.Answer.{Result, result_of, refused, refusal_of, guarded}

unfoldable pub add_scene : SceneKey → ℕ → Membership → List ℕ → List ℕ → Table → Result
add_scene key time member pairs ext t =
    guarded (refused t) (refusal_of t (add_gate key time member pairs max_fields (length ext))) (saved (upsert key time ext t))

-- ---- store

-- the prior entry's time, or 0
abbrev pub prior_time : Option ℕ → List ℕ → ℕ
prior_time (Some p) times = get_or times p 0
prior_time None times = 0

-- a scene that was stored is remembered
unfoldable pub stored : SceneKey → Upserted → Result
stored key u =
    cond (eqb u.status success) (result_of success true (with_current (remember_current key) u.table)) (result_of u.status false u.table)

-- what is stored ends as a TLV array does
unfoldable pub store_captured : SceneKey → List ℕ → Table → Result
store_captured key captured t =
    stored key (upsert key (prior_time (find_scene key t) t.slots.times) (captured ++ (end_of_container ∷ [])) t)

unfoldable pub store_scene : SceneKey → Membership → List ℕ → Table → Result
store_scene key member captured t =
    guarded (refused t) (refusal_of t (store_gate key member max_fields (length captured))) (store_captured key captured t)

-- ---- remove

unfoldable pub remove_found : Option ℕ → SceneKey → Table → Result
remove_found (Some p) key t = result_of success true (with_current (invalidate_current (Scene key)) (with_entries (swap_remove p) t))
remove_found None key t = refused t not_found

unfoldable pub remove_scene : SceneKey → Membership → Table → Result
remove_scene key member t = guarded (refused t) (refusal_of t (lookup_gate key member)) (remove_found (find_scene key t) key t)

-- ---- remove all

-- u is the table without the group's entries: its records become invalid and it is saved only if something went
unfoldable pub removed_all : GroupKey → Table → Table → Result
removed_all key t u =
    cond (eqb u.state.entries t.state.entries) (result_of success false u)
    (result_of success true (with_current (invalidate_current (Group key)) u))

unfoldable pub remove_all_scenes : GroupKey → Membership → Table → Result
remove_all_scenes key member t =
    guarded (refused t) (refusal_of t (group_gate key member))
    (removed_all key t (with_entries (retain_outside (group_keys key.fabric key.endpoint key.group)) t))

-- ---- recall

unfoldable pub recall_found : Option ℕ → SceneKey → Applied → Table → Result
recall_found None key applied t = refused t not_found
recall_found (Some p) key Failed t = refused t apply_failed
recall_found (Some p) key Yes t = result_of success true (with_current (remember_current key) t)

unfoldable pub recall_scene : SceneKey → Membership → Applied → Table → Result
recall_scene key member applied t =
    guarded (refused t) (refusal_of t (lookup_gate key member)) (recall_found (find_scene key t) key applied t)
