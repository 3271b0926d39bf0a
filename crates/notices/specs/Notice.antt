-- What a notice makes of one record struct, and of a head with a lent slice of them: document 01, "Records" and "Forms that change
-- first".
use Rattle.std.specs.Prelude.{ℕ, Bool, false, cond, ◌&&◌, List, [], ◌∷◌, ◌++◌, map, eqb, leb, length, get_or, take, drop}
use Rattle.words.specs.Constants.{success, unsound, max_scenes}
use Rattle.words.specs.Conditions.{all_of}
use Rattle.words.specs.Below.{every_below, any_below}
use Rattle.state.specs.declared.ScenesState.{ScenesState}
use Rattle.state.specs.declared.Outcome.{Outcome}
use Rattle.state.specs.Table.{bump_if}
use Rattle.notices.specs.declared.CurrentScene.{CurrentScene}

-- ---- one record

-- a record with another mark
abbrev pub marked : Bool → CurrentScene → CurrentScene
marked b c = record { fab_idx = c.fab_idx; endpoint_id = c.endpoint_id; group_id = c.group_id; scene_id = c.scene_id; valid = b }

-- valid, and on the endpoint
abbrev pub hits : ℕ → CurrentScene → Bool
hits endpoint c = c.valid && eqb c.endpoint_id endpoint

-- the record after a notice on an endpoint
abbrev pub noticed : ℕ → CurrentScene → CurrentScene
noticed endpoint c = cond (hits endpoint c) (marked false c) c

-- ---- the lent records

-- the record at a position; past the end, one without a fabric
abbrev pub record_at : List CurrentScene → ℕ → CurrentScene
record_at rs i = get_or rs i (record { fab_idx = 0; endpoint_id = 0; group_id = 0; scene_id = 0; valid = false })

-- what of a sound table a call can see that is lent the records alone: the head with the number of lent records,
unfoldable pub head_sound : ScenesState → ℕ → Bool
head_sound s lent = all_of (leb s.size max_scenes ∷ leb s.entries s.size ∷ leb s.recorded s.size ∷ leb s.size lent ∷ [])

-- and a fabric for each record below the count
unfoldable pub fabrics_sound : List CurrentScene → ℕ → Bool
fabrics_sound rs n = every_below (λ i. leb 1 (record_at rs i).fab_idx) n

-- ---- the call

-- what it answers, and the lent records after it
pub record Answer : Type 0 where
  pub outcome : Outcome
  pub records : List CurrentScene

abbrev pub answer_of : Outcome → List CurrentScene → Answer
answer_of o rs = record { outcome = o; records = rs }

-- each valid record on the endpoint below the count becomes invalid, with one version step if there is one; no save mark
unfoldable pub notice_all : ℕ → ScenesState → List CurrentScene → Answer
notice_all endpoint s rs =
    answer_of (record { status = success; save = false; state = bump_if (any_below (λ i. hits endpoint (record_at rs i)) s.recorded) s })
    (map (noticed endpoint) (take s.recorded rs) ++ drop s.recorded rs)

-- 6, and nothing changed, where what can be seen is not sound
unfoldable pub notice_records : ℕ → ScenesState → List CurrentScene → Answer
notice_records endpoint s rs =
    cond (head_sound s (length rs) && fabrics_sound rs s.recorded) (notice_all endpoint s rs)
    (answer_of (record { status = unsound; save = false; state = s }) rs)
