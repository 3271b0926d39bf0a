-- The laws of the bytes of the first entries and of the first records, one more at a time. Assumes nothing.
use Prim.Native.Nat.{ℕ, ◌+◌, ◌<◌}
use mathlib.Core.Path.{◌≡◌, refl, sym, ap, ◌∙◌}
use mathlib.Core.List.{List, [], ◌∷◌, ◌++◌, map, append_assoc, append-nil, map-append, flat_map}
use native.Mathlib.Numerals.{add-one}
use lib.ListN.{length, get_or, take}
use lib.Seq.{take-suc}
use Rattle.words.specs.Below.{positions}
use Rattle.slots.specs.Slots.{Slots, entry_at}
use Rattle.text_output.specs.Writing.{Sheet, puts}
use Rattle.text_output.proofs.Writing.{then, puts_none}
use Rattle.image_writer.specs.Image.{entry_bytes, record_bytes}

pub flat_map_last : {A : Type 0} (f : A → List ℕ) (xs : List A) (x : A) → flat_map f (xs ++ (x ∷ [])) ≡ flat_map f xs ++ f x
unfolding flat_map
flat_map_last f [] x = append-nil (f x)
flat_map_last f (y ∷ xs) x = ap (λ (l : List ℕ). f y ++ l) (flat_map_last f xs x) ∙ sym (append_assoc (f y) (flat_map f xs) (f x))

-- ---- entries

-- the bytes of the first n
abbrev pub entries_up_to : Slots → ℕ → List ℕ
entries_up_to s n = flat_map entry_bytes (map (entry_at s) (positions n))

pub entries_none : (s : Slots) → entries_up_to s 0 ≡ []
unfolding flat_map positions
entries_none s = refl

pub entries_more : (s : Slots) (i : ℕ) → entries_up_to s (i + 1) ≡ entries_up_to s i ++ entry_bytes (entry_at s i)
unfolding positions
entries_more s i =
    ap (entries_up_to s) (add-one i)
    ∙ ap (flat_map entry_bytes) (map-append (entry_at s) (positions i) (i ∷ []))
    ∙ flat_map_last entry_bytes (map (entry_at s) (positions i)) (entry_at s i)

-- ---- records

abbrev pub records_up_to : List ℕ → ℕ → List ℕ
records_up_to records n = flat_map record_bytes (take n records)

pub records_none : (records : List ℕ) → records_up_to records 0 ≡ []
unfolding flat_map
records_none records = refl

pub records_more : (records : List ℕ) (i : ℕ) → i < length records → records_up_to records (i + 1) ≡ records_up_to records i ++ record_bytes (get_or records i 0)
records_more records i h =
    ap (records_up_to records) (add-one i)
    ∙ ap (flat_map record_bytes) (take-suc records i 0 h)
    ∙ flat_map_last record_bytes (take i records) (get_or records i 0)

-- ---- written one behind the other

-- what was put is the bytes x, and one more puts y behind them
pub put_more : (x y z : List ℕ) (s t u : Sheet) → z ≡ x ++ y → t ≡ puts x s → u ≡ puts y t → u ≡ puts z s
put_more x y z s t u e p q = then x y s t u p q ∙ ap (λ (l : List ℕ). puts l s) (sym e)

pub put_none : (x : List ℕ) (s : Sheet) → x ≡ [] → s ≡ puts x s
put_none x s e = sym (ap (λ (l : List ℕ). puts l s) e ∙ puts_none s)
