-- Whose field bytes stand at the position that a view or a recall's lookup answers, and how many: document 01, "Builders go" in "Forms that change first".
use Rattle.std.specs.Prelude.{◌≡◌, [], length, Some}
use Rattle.words.specs.Constants.{success}
use Rattle.words.specs.declared.SceneKey.{SceneKey}
use Rattle.slots.specs.Slots.{entry_at}
use Rattle.reads.specs.declared.SceneRead.{SceneRead}
use Rattle.state.specs.Table.{Table}
use Rattle.state.specs.Change.{find_scene}
use Rattle.reads.specs.Reads.{field_bytes}

-- what a read that succeeded says of its scene, and a refused one of no scene; the length is that of the field bytes, either way
pub record Tied (key : SceneKey) (t : Table) (r : SceneRead) : Type 0 where
  pub found : r.status ≡ success → find_scene key t ≡ Some r.at
  pub fields : r.status ≡ success → field_bytes r.at t ≡ (entry_at t.slots r.at).fields
  pub nothing : (r.status ≡ success → ⊥) → field_bytes r.at t ≡ []
  pub size : r.len ≡ length (field_bytes r.at t)
