-- An add through the reader of field bytes: document 02, Q-2. "The host answers each pair read with one pair byte, as before [..] An add
-- through this reader then decides as an add with the listed pairs does [..] (11: the bytes are not a list of extension field sets up to its
-- closing 0x18 and their own end, go deeper than 16, or hold another number of pairs than there are pair bytes; it stands after the
-- membership test and before the pair bytes.)" What such a list is, is `sets_in` of field_sets.
use Rattle.std.specs.Prelude.{ℕ, ◌≡◌, true, false, not, List, [], ◌∷◌, ◌++◌, length}
use Rattle.words.specs.Constants.{success, bad_field_sets, max_fields}
use Rattle.words.specs.declared.SceneKey.{SceneKey}
use Rattle.requests.specs.declared.Membership.{Membership}
use Rattle.requests.specs.Requests.{first_refusal, refuse_if, fabric_gate, scene_gate, time_gate, target_gate, pairs_gate, fields_gate}
use Rattle.state.specs.Table.{Table}
use Rattle.state.specs.Sound.{sound}
use Rattle.state.specs.Change.{saved, upsert}
use Rattle.state.specs.Answer.{Result, refused, refusal_of, guarded}
use Rattle.commands.specs.Commands.{add_scene}
use Rattle.field_sets.specs.Reader.{sets_in, holds_pairs}

-- 11
unfoldable pub field_sets_gate : List ℕ → List ℕ → ℕ
field_sets_gate pairs ext = refuse_if (not (holds_pairs (length pairs) (sets_in ext))) bad_field_sets

-- the tests in front of 11
abbrev pub early_gates : SceneKey → ℕ → Membership → List ℕ
early_gates key time member = fabric_gate key.fabric ∷ scene_gate key.scene ∷ time_gate time ∷ target_gate key.group member ∷ []

-- the tests up to 11
unfoldable pub read_gate : SceneKey → ℕ → Membership → List ℕ → List ℕ → ℕ
read_gate key time member pairs ext = first_refusal (early_gates key time member ++ (field_sets_gate pairs ext ∷ []))

-- all tests of an add through the reader, with how long the fields may be
unfoldable pub add_read_gate : SceneKey → ℕ → Membership → List ℕ → ℕ → List ℕ → ℕ
add_read_gate key time member pairs limit ext =
    first_refusal (fabric_gate key.fabric
    ∷ scene_gate key.scene
    ∷ time_gate time
    ∷ target_gate key.group member
    ∷ field_sets_gate pairs ext
    ∷ pairs_gate pairs
    ∷ fields_gate limit (length ext)
    ∷ [])

unfoldable pub add_scene_read : SceneKey → ℕ → Membership → List ℕ → List ℕ → Table → Result
add_scene_read key time member pairs ext t =
    guarded (refused t) (refusal_of t (add_read_gate key time member pairs max_fields ext)) (saved (upsert key time ext t))

-- ---- the add with the listed pairs

-- where the bytes are a list of sets with as many pairs as there are pair bytes, it is that add, whole
abbrev pub AsListed : Type 0
AsListed =
    (key : SceneKey) (time : ℕ) (member : Membership) (pairs ext : List ℕ) (t : Table) →
    holds_pairs (length pairs) (sets_in ext) ≡ true →
    add_scene_read key time member pairs ext t ≡ add_scene key time member pairs ext t

-- else, where 11 is reached, it is 11 and nothing changes
abbrev pub ElseRefused : Type 0
ElseRefused =
    (key : SceneKey) (time : ℕ) (member : Membership) (pairs ext : List ℕ) (t : Table) →
    holds_pairs (length pairs) (sets_in ext) ≡ false →
    sound t ≡ true →
    first_refusal (early_gates key time member) ≡ success →
    add_scene_read key time member pairs ext t ≡ refused t bad_field_sets
