-- A wrong reading of the theorem on restored tables, and a table that refutes it. Assumes nothing.
use Prim.Native.Nat.{zero, suc}
use mathlib.Core.Path.{◌≡◌, refl, sym, ◌∙◌}
use mathlib.Core.Bool.{true}
use mathlib.Core.List.{[], ◌∷◌, flat_map}
use native.Mathlib.Omega.{arith}
use lib.ListN.{replicate}
use Rattle.words.specs.Constants.{clashing_image}
use Rattle.words.specs.Conditions.{all_of}
use Rattle.words.specs.Below.{positions, every_below, any_below, first_below, or_else}
use Rattle.words.specs.Words.{key_of}
use Rattle.slots.specs.Slots.{first_key, keys_sound, lengths_sound}
use Rattle.records.specs.Records.{records_sound, first_owned}
use Rattle.state.specs.Table.{Table, table_of, entries_in, records_in}
use Rattle.state.specs.Sound.{in_bounds, sound}
use Rattle.state.specs.Answer.{refusal_of, guarded}
use Rattle.tlv.specs.Elements.{known, opens, tag_size, width, measured, length_size, plain_size, little, size_of}
use Rattle.tlv.specs.Elements.{context_tag, length_from, value_from, value_end, whole, element_at}
use Rattle.tlv.specs.Passing.{nested, passed}
use Rattle.tlv.specs.Values.{unsigned, number_at, octets, octets_at, inside_at}
use Rattle.tlv.specs.Members.{member_at, tagged, found}
use Rattle.tlv.specs.Encoding.{low_first, smallest}
use Rattle.image_writer.specs.Image.{image_bytes}
use Rattle.image_save.specs.Saving.{image_of, TimesFit}
use Rattle.image_reader.specs.Entries.{member_number, member_octets, key_from, entry_at}
use Rattle.image_reader.specs.Image.{members_read, array_under, arrays_in, image_in}
use Rattle.image_gate.specs.Verdict.{keys_clash, records_clash, verdict}
use Rattle.image_load.specs.Loading.{load_tlv, load_image}
use Rattle.restoration.specs.Restoration.{RestoresAny}

-- scene 5 of fabric 1 twice, in a table of two places
abbrev twice : Table
twice =
    table_of (record { size = 2; entries = 2; recorded = 0; dataver = 0; modes = 0 })
    (key_of 1 1 0 5 ∷ key_of 1 1 0 5 ∷ [])
    (0 ∷ 0 ∷ [])
    (replicate 258 0)
    (0 ∷ 0 ∷ [])

twice_sound : sound twice ≡ true
unfolding sound in_bounds all_of keys_sound lengths_sound records_sound every_below
twice_sound = refl

twice_times : TimesFit twice
twice_times zero l = omega arith
twice_times (suc zero) l = omega arith
twice_times (suc (suc i)) l = absurd (omega arith)

twice_refused : (load_image (image_of twice) twice).status ≡ clashing_image
unfolding known opens tag_size width measured length_size plain_size little size_of context_tag length_from value_from value_end whole element_at
    nested passed unsigned number_at octets octets_at inside_at member_at tagged found
    member_number member_octets key_from entry_at members_read array_under arrays_in image_in
    sound in_bounds all_of keys_sound lengths_sound records_sound every_below refusal_of guarded entries_in records_in positions
    keys_clash records_clash any_below first_below or_else first_key first_owned verdict load_tlv load_image low_first smallest flat_map image_bytes
twice_refused = refl

-- "that 10 would not refuse" is needed
pub not_any : RestoresAny → ⊥
not_any h = let e = sym twice_refused ∙ (h twice twice twice_sound twice_times twice_sound refl).status in omega arith
