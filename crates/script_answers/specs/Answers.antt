-- The lines of answers: what is put into the buffer, piece by piece. Words are in ASCII codes.
use Rattle.std.specs.Prelude.{ℕ, ◌+◌, ◌*◌, ◌≤◌, min, Bool, cond, List, [], ◌∷◌, eqb, length, get_or, take, drop}
use Rattle.words.specs.Constants.{max_scenes, max_fields, stride}
use Rattle.script_lines.specs.Lines.{not_given}
use Rattle.script_answers.specs.declared.Row.{Row}
use Rattle.script_answers.specs.declared.Tail.{Tail}
use Rattle.script_answers.specs.declared.Tail.TheVariants.{Nothing, Scene, Ids, NoRow, Info, Image, Number}
use Rattle.script_answers.specs.declared.Answer.{Answer}
use Rattle.text_output.specs.Writing.{Sheet, puts, writes, writes_below, newline, number, spaced, flag_text, bytes_text, status_text}

-- ---- the size and the modes of a table

-- `N` in a trace, else `scenes`
abbrev pub size_word : Bool → List ℕ
size_word trace = cond trace (78 ∷ []) (115 ∷ 99 ∷ 101 ∷ 110 ∷ 101 ∷ 115 ∷ [])

-- no text for modes that are not given
abbrev pub modes_text : ℕ → List ℕ
modes_text modes = cond (eqb modes not_given) [] (number modes)

abbrev pub size_line : Bool → ℕ → ℕ → List (List ℕ)
size_line trace n modes = size_word trace ∷ number n ∷ modes_text modes ∷ newline ∷ []

-- ---- an answer

-- letter, status, save mark, entries, records and version; without the save mark and the records outside a trace
abbrev pub head_texts : Bool → ℕ → Answer → List (List ℕ)
head_texts trace letter a =
    cond trace
    ((letter ∷ [])
    ∷ spaced (status_text a.status)
    ∷ spaced (flag_text a.save)
    ∷ number a.state.entries
    ∷ number a.state.recorded
    ∷ number a.state.dataver
    ∷ [])
    ((letter ∷ []) ∷ spaced (status_text a.status) ∷ number a.state.entries ∷ number a.state.dataver ∷ [])

-- count, group, scene, whether valid, remaining, fabric
abbrev pub row_texts : Row → List (List ℕ)
row_texts r =
    number r.count ∷ number r.group ∷ number r.scene ∷ spaced (flag_text r.valid) ∷ number r.remaining ∷ number r.fabric ∷ []

-- a scene's time and fields
abbrev pub scene_texts : ℕ → List ℕ → List (List ℕ)
scene_texts time fields = number time ∷ spaced (bytes_text fields) ∷ []

-- the remaining capacity and the first ids of a list
abbrev pub list_texts : ℕ → List ℕ → ℕ → Sheet → Sheet
list_texts remaining buffer len s = writes_below (λ i. number (get_or buffer i 0) ∷ []) (min len (length buffer)) (puts (number remaining) s)

-- the field bytes of the scene at a position, of a length
abbrev pub scene_bytes : ℕ → ℕ → List ℕ → List ℕ
scene_bytes at len fields = take len (drop (at * stride + 1) fields)

-- the image in the buffer's front
abbrev pub image_text : List ℕ → ℕ → List ℕ
image_text buffer len = spaced (bytes_text (take len buffer))

-- a number, in a trace alone
abbrev pub trace_number : Bool → ℕ → List ℕ
trace_number trace n = cond trace (number n) []

-- what an answer has beyond its status: nothing, a scene, a list, ` none`, an info row, an image, or a number of a trace
abbrev pub tail_of : Bool → Tail → List ℕ → List ℕ → Sheet → Sheet
tail_of trace Nothing buffer fields s = s
tail_of trace (Scene time at len) buffer fields s = writes (scene_texts time (scene_bytes at len fields)) s
tail_of trace (Ids remaining len) buffer fields s = list_texts remaining buffer len s
tail_of trace NoRow buffer fields s = puts (32 ∷ 110 ∷ 111 ∷ 110 ∷ 101 ∷ []) s
tail_of trace (Info row) buffer fields s = writes (row_texts row) s
tail_of trace (Image len) buffer fields s = puts (image_text buffer len) s
tail_of trace (Number n) buffer fields s = puts (trace_number trace n) s

-- a scene's position and length are those that an entry can have, and a list has no more ids than a table has entries
abbrev pub fits : Tail → Type 0
fits Nothing = Unit
fits (Scene time at len) = (at ≤ max_scenes) × (len ≤ max_fields)
fits (Ids remaining len) = len ≤ max_scenes
fits NoRow = Unit
fits (Info row) = Unit
fits (Image len) = Unit
fits (Number n) = Unit

-- a line: the head and the tail, with the buffer and the fields that the call left
unfoldable pub answer_line : Bool → ℕ → Answer → List ℕ → List ℕ → Sheet → Sheet
answer_line trace letter a buffer fields s = puts newline (tail_of trace a.tail buffer fields (writes (head_texts trace letter a) s))
