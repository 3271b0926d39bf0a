-- The lent record words, and what remembering, invalidating and dropping records make of them.
-- Document 01, "Modules, leaves first": Records; and "Lifecycle" for dropping a fabric's records.
use Rattle.std.specs.Prelude.{ℕ, zero, suc, ◌+◌, ◌^◌, Bool, cond, not, ◌&&◌, List, [], ◌∷◌, ◌++◌, map, eqb, leb, ltb, length, get_or, set, drop, Option, Some, None}
use Rattle.words.specs.Words.{fabric_of, endpoint_of, group_of, scene_of, key_of_record, is_valid, valid_record, owns}
use Rattle.words.specs.Below.{every_below, any_below, first_below, kept_below}
use Rattle.words.specs.declared.SceneKey.{SceneKey}
use Rattle.records.specs.declared.Scope.{Scope}
use Rattle.records.specs.declared.Scope.TheVariants.{Scene, Group, Endpoint}

-- below 2^49, with fabric 1 to 255
abbrev pub record_sound : ℕ → Bool
record_sound word = ltb word (2 ^ 49) && leb 1 (fabric_of (key_of_record word))

unfoldable pub records_sound : List ℕ → ℕ → Bool
records_sound records n = every_below (λ i. record_sound (get_or records i 0)) n

-- ---- remembering

-- the first of n records that a fabric, on an endpoint, owns
unfoldable pub first_owned : List ℕ → ℕ → ℕ → ℕ → Option ℕ
first_owned records n fabric endpoint = first_below (λ i. owns (get_or records i 0) fabric endpoint) n

-- how many record words count, and the whole lent list
pub record Records : Type 0 where
  pub count : ℕ
  pub words : List ℕ

abbrev pub records_of : ℕ → List ℕ → Records
records_of n l = record { count = n; words = l }

-- over the record that was found, else behind the last one, else dropped: the list is full
unfoldable pub remember_at : Option ℕ → SceneKey → ℕ → Records → Records
remember_at (Some p) key size r = records_of r.count (set r.words p (valid_record key))
remember_at None key size r =
    cond (ltb r.count size) (records_of (r.count + 1) (set r.words r.count (valid_record key))) r

-- the scene is now its fabric's valid current record, unless the list is full and has none of the fabric
unfoldable pub remember : SceneKey → ℕ → Records → Records
remember key size r = remember_at (first_owned r.words r.count key.fabric key.endpoint) key size r

-- ---- invalidating

-- which records are meant: by scene and by group those of the fabric, wherever its endpoint is; by endpoint those of all fabrics
unfoldable pub in_scope : Scope → ℕ → Bool
in_scope (Scene key) word =
    owns word key.fabric key.endpoint
    && (eqb (group_of (key_of_record word)) key.group && eqb (scene_of (key_of_record word)) key.scene)
in_scope (Group key) word = owns word key.fabric key.endpoint && eqb (group_of (key_of_record word)) key.group
in_scope (Endpoint endpoint) word = eqb (endpoint_of (key_of_record word)) endpoint

-- a valid record that is meant
abbrev pub hits : Scope → ℕ → Bool
hits scope word = is_valid word && in_scope scope word

-- whether one of n records changes
unfoldable pub any_hit : Scope → List ℕ → ℕ → Bool
any_hit scope records n = any_below (λ i. hits scope (get_or records i 0)) n

-- a valid record that is meant loses its mark
abbrev pub cleared : Scope → ℕ → ℕ
cleared scope word = cond (hits scope word) (key_of_record word) word

-- l, with its first n elements changed by f
unfoldable pub map_first : (ℕ → ℕ) → ℕ → List ℕ → List ℕ
map_first f zero l = l
map_first f (suc n) [] = []
map_first f (suc n) (x ∷ l) = f x ∷ map_first f n l

-- every match among n records is touched
unfoldable pub invalidated : Scope → ℕ → List ℕ → List ℕ
invalidated scope n records = map_first (cleared scope) n records

-- ---- dropping a fabric's records

-- the positions below n whose record is another fabric's, in order
unfoldable pub others_of : List ℕ → ℕ → ℕ → List ℕ
others_of records n fabric = kept_below (λ i. not (eqb (fabric_of (key_of_record (get_or records i 0))) fabric)) n

-- those at some positions moved to the front, in that order; positions behind them keep what they held
unfoldable pub moved : List ℕ → List ℕ → List ℕ
moved ps records = map (λ i. get_or records i 0) ps ++ drop (length ps) records
