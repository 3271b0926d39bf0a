-- Every row of the table is what the definitions make of its bytes. Assumes nothing.
use mathlib.Core.Path.{◌≡◌, refl}
use Rattle.tlv.specs.Elements.{known, opens, tag_size, width, measured, length_size, plain_size, little, size_of}
use Rattle.tlv.specs.Elements.{context_tag, length_from, value_from, value_end, whole, element_at}
use Rattle.tlv.specs.Passing.{nested, passed}
use Rattle.tlv.specs.Values.{unsigned, number_at, bool_at, octets, octets_at}
use Rattle.tlv.specs.Worked.{rows, computed}

-- what computes on bytes that are written out
heads : Unit {0}
unfolding known opens tag_size width measured length_size plain_size little size_of context_tag length_from value_from value_end whole element_at
heads = tt

readings : Unit {0}
unfolding heads nested passed unsigned number_at bool_at octets octets_at
readings = tt

pub every_row : computed rows ≡ rows
unfolding readings
every_row = refl
