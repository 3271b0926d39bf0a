-- The tails of the answers to lines that ask fit, as those of the lines that are told do. Assumes nothing.
use Prim.Native.Nat.{ℕ, ◌≤◌}
use mathlib.Core.Bool.{Bool, true, false, cond}
use mathlib.Core.List.{List}
use native.Mathlib.Omega.{arith}
use lib.Dec.{eqb}
use lib.ListN.{take}
use Rattle.words.specs.Constants.{max_scenes}
use Rattle.words.specs.declared.SceneKey.{SceneKey}
use Rattle.words.specs.declared.GroupKey.{GroupKey}
use Rattle.state.specs.Table.{Table}
use Rattle.reads.specs.Reads.{Transition}
use Rattle.reads.specs.declared.SceneRead.{SceneRead}
use Rattle.reads.specs.Reads.{Listed}
use Rattle.groups.specs.Groups.{Groups, groups_sound}
use Rattle.asking.specs.Asking.{asking, view_asking, lookup_asking, membership_asking}
use Rattle.script_lines.specs.Values.{value_at, scene_key, group_key}
use Rattle.script_answers.specs.Answers.{fits}
use Rattle.script_answers.proofs.DoneLaws.{fit_done, fit_called}
use Rattle.script_reads.specs.Reads.{transition}
use Rattle.script_reads.proofs.Fits.{Within, view-within, lookup-within, list-within, scene-fits, list-fits}
use Rattle.script_asking.specs.Asked.{add_asked, add_read_asked, store_asked, remove_asked, remove_all_asked, copy_asked, asked_command, view_asked, recall_asked, list_asked, list_in_asked, asked_query}

-- either of two reads
within_either : (b : Bool) (x y : SceneRead) → Within x → Within y → Within (cond b x y)
within_either true x y p q = p
within_either false x y p q = q

list_either : (b : Bool) (x y : Listed) → x.read.len ≤ max_scenes → y.read.len ≤ max_scenes → (cond b x y).read.len ≤ max_scenes
list_either true x y p q = p
list_either false x y p q = q

view-fits : (key : SceneKey) (g : Groups) (t : Table) → Within (view_asking key g t)
unfolding view_asking asking
view-fits key g t = within_either (groups_sound g) _ _ (view-within t key _) (omega arith, omega arith)

lookup-fits : (key : SceneKey) (o : Transition) (g : Groups) (t : Table) → Within (lookup_asking key o g t)
unfolding lookup_asking asking
lookup-fits key o g t = within_either (groups_sound g) _ _ (lookup-within t key _ o) (omega arith, omega arith)

membership-fits : (key : GroupKey) (buffer : List ℕ) (g : Groups) (t : Table) → (membership_asking key buffer g t).read.len ≤ max_scenes
unfolding membership_asking asking
membership-fits key buffer g t = list_either (groups_sound g) _ _ (list-within t key _ buffer) (omega arith)

pub command-fits : (letter : ℕ) (values : List ℕ) (bytes : ℕ → List ℕ) (g : Groups) (t : Table) → fits (asked_command letter values bytes g t).tail
unfolding asked_command add_asked add_read_asked store_asked remove_asked remove_all_asked copy_asked
command-fits letter values bytes g t =
    fit_done (eqb letter 65) _ _ tt (fit_done (eqb letter 66) _ _ tt (fit_done (eqb letter 83) _ _ tt
    (fit_done (eqb letter 82) _ _ tt (fit_done (eqb letter 88) _ _ tt tt))))

pub query-fits : (letter : ℕ) (values buffer : List ℕ) (g : Groups) (t : Table) → fits (asked_query letter values buffer g t).done.tail
unfolding asked_query view_asked recall_asked list_asked list_in_asked
query-fits letter values buffer g t =
    let key : SceneKey = scene_key values in
    let o : Transition = transition (value_at values 5) in
    let front : List ℕ = take (value_at values 4) buffer in
    fit_called (eqb letter 86) _ _ (scene-fits (view_asking key g t) (view-fits key g t))
    (fit_called (eqb letter 76) _ _ (scene-fits (lookup_asking key o g t) (lookup-fits key o g t))
    (list-fits (membership_asking (group_key values) front g t).read (membership-fits (group_key values) front g t)))
