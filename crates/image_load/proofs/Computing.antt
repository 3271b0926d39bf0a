-- What computes on the bytes of an image that is written out, and on a table that is loaded from it: a proof that says `unfolding loading` sees
-- these definitions. Assumes nothing.
use Rattle.words.specs.Below.{any_below, first_below, or_else}
use Rattle.slots.specs.Slots.{first_key, overlay, put_slot, laid}
use Rattle.records.specs.Records.{first_owned}
use Rattle.lifecycle.specs.Lifecycle.{startup}
use Rattle.tlv.specs.Elements.{known, opens, tag_size, width, measured, length_size, plain_size, little, size_of}
use Rattle.tlv.specs.Elements.{context_tag, length_from, value_from, value_end, whole, element_at}
use Rattle.tlv.specs.Passing.{nested, passed}
use Rattle.tlv.specs.Values.{unsigned, number_at, bool_at, octets, octets_at, inside_at}
use Rattle.tlv.specs.Members.{member_at, tagged, found}
use Rattle.image_reader.specs.Entries.{member_number, member_bool, member_octets, key_from, entry_at, record_at}
use Rattle.image_reader.specs.Image.{members_read, array_under, arrays_in, image_in}
use Rattle.image_gate.specs.Verdict.{keys_clash, records_clash, verdict}
use Rattle.image_load.specs.Loading.{put_entries, restored, load_tlv, load_image}

elements : Unit {0}
unfolding known opens tag_size width measured length_size plain_size little size_of context_tag length_from value_from value_end whole element_at
    nested passed unsigned number_at bool_at octets octets_at inside_at member_at tagged found
elements = tt

reading : Unit {0}
unfolding member_number member_bool member_octets key_from entry_at record_at members_read array_under arrays_in image_in
reading = tt

unfoldable pub loading : Unit {0}
unfolding elements reading keys_clash records_clash any_below first_below or_else first_key first_owned verdict put_entries put_slot overlay laid restored startup
    load_tlv load_image
loading = tt
