-- A read that asks leaves the head of the table as it was. Assumes nothing.
use Prim.Native.Nat.{ℕ}
use mathlib.Core.Path.{◌≡◌, refl}
use mathlib.Core.List.{List}
use Rattle.words.specs.declared.SceneKey.{SceneKey}
use Rattle.words.specs.declared.GroupKey.{GroupKey}
use Rattle.state.specs.Table.{Table}
use Rattle.reads.specs.declared.SceneRead.{SceneRead}
use Rattle.reads.specs.Reads.{Listed}
use Rattle.groups.specs.Groups.{Groups, groups_sound}
use Rattle.asking.specs.Asking.{asking, view_asking, membership_asking}
use Rattle.script_reads.proofs.ReadLaws.{cond_at}
use Rattle.script_reads.proofs.ReadLaws as told

pub view-state : (key : SceneKey) (g : Groups) (t : Table) → (view_asking key g t).state ≡ t.state
unfolding view_asking asking
view-state key g t = cond_at (λ (r : SceneRead). r.state) t.state (groups_sound g) _ _ (told.view-state key _ t) refl

pub list-state : (key : GroupKey) (buffer : List ℕ) (g : Groups) (t : Table) → (membership_asking key buffer g t).read.state ≡ t.state
unfolding membership_asking asking
list-state key buffer g t = cond_at (λ (r : Listed). r.read.state) t.state (groups_sound g) _ _ (told.list-state key _ buffer t) refl
