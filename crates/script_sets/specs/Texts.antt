-- The answer to Y: the extension field sets of field bytes, each as `cluster:attribute,attribute`. Characters are in ASCII codes. Which sets
-- bytes hold is `sets_in` of field_sets: document 02, Q-2.
use Rattle.std.specs.Prelude.{ℕ, Bool, true, false, cond, eqb, length, Option, Some, None}
use mathlib.Core.List.{List, [], ◌∷◌, ◌++◌, flat_map}
use Rattle.words.specs.Constants.{success, bad_field_sets}
use Rattle.state.specs.declared.ScenesState.{ScenesState}
use Rattle.text_output.specs.Writing.{Sheet, puts, writes, newline, decimal, number}
use Rattle.field_sets.specs.Reader.{ExtensionFieldSet, sets_in}
use Rattle.script_answers.specs.declared.Answer.{Answer}
use Rattle.script_answers.specs.declared.Tail.TheVariants.{Nothing}
use Rattle.script_answers.specs.Answers.{head_texts}

-- ---- a set

-- a cluster number behind a blank, a colon, and `-` if it has no pairs
abbrev pub cluster_text : ℕ → ℕ → List ℕ
cluster_text cluster pairs = number cluster ++ cond (eqb pairs 0) (58 ∷ 45 ∷ []) (58 ∷ [])

-- an attribute number, and a comma if any are left behind it
abbrev pub attribute_text : ℕ → ℕ → List ℕ
attribute_text attribute left = decimal attribute ++ cond (eqb left 0) [] (44 ∷ [])

unfoldable pub attributes_text : List ℕ → List ℕ
attributes_text [] = []
attributes_text (a ∷ rest) = attribute_text a (length rest) ++ attributes_text rest

abbrev pub set_text : ExtensionFieldSet → List ℕ
set_text s = cluster_text s.cluster (length s.attributes) ++ attributes_text s.attributes

-- ---- the sets of field bytes

-- one set behind the other
abbrev pub each_text : List ExtensionFieldSet → List ℕ
each_text ss = flat_map set_text ss

-- the bytes are a list of no sets
abbrev pub no_sets : Option (List ExtensionFieldSet) → Bool
no_sets None = false
no_sets (Some []) = true
no_sets (Some (s ∷ ss)) = false

-- ` -` if there are none, and nothing if the bytes are no list of sets
abbrev pub sets_text : Option (List ExtensionFieldSet) → List ℕ
sets_text None = []
sets_text (Some []) = 32 ∷ 45 ∷ []
sets_text (Some (s ∷ ss)) = each_text (s ∷ ss)

-- ---- the line

abbrev pub sets_status : Option (List ExtensionFieldSet) → ℕ
sets_status None = bad_field_sets
sets_status (Some ss) = success

-- the head of a table as it stands, and nothing to save
abbrev pub sets_answer : ScenesState → ℕ → Answer
sets_answer state status = record { status = status; save = false; state = state; tail = Nothing }

unfoldable pub sets_line : Bool → ScenesState → List ℕ → Sheet → Sheet
sets_line trace state bytes s =
    puts newline (puts (sets_text (sets_in bytes)) (writes (head_texts trace 89 (sets_answer state (sets_status (sets_in bytes)))) s))
