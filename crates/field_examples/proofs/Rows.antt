-- Every row of the table holds of the definitions that the contracts cite. Assumes nothing.
use mathlib.Core.Path.{refl}
use mathlib.Core.List.{flat_map}
use Rattle.tlv.specs.Elements.{known, opens, tag_size, width, measured, length_size, plain_size, little, size_of}
use Rattle.tlv.specs.Elements.{context_tag, length_from, value_from, value_end, whole, element_at}
use Rattle.tlv.specs.Values.{unsigned, number_at}
use Rattle.tlv.specs.Members.{tagged}
use Rattle.tlv.specs.Encoding.{low_first, smallest}
use Rattle.tlv_skip.specs.Containers.{taken}
use Rattle.tlv_skip.specs.Skipping.{skipped}
use Rattle.field_sets.specs.Pairs.{structure_at, pair_member, pair_from, pair_at, pair_counted, pairs_at}
use Rattle.field_sets.specs.Sets.{set_member, set_from, set_at, next_set}
use Rattle.field_sets.specs.Reader.{attributes_from, sets}
use Rattle.field_examples.specs.Rows.{EveryRow, rows}

-- ---- what computes on bytes that are written out

elements : Unit {0}
unfolding known opens tag_size width measured length_size plain_size little size_of context_tag length_from value_from value_end whole element_at
    unsigned number_at tagged
elements = tt

reading : Unit {0}
unfolding taken skipped structure_at pair_member pair_from pair_at pair_counted pairs_at set_member set_from set_at next_set attributes_from sets
reading = tt

writing : Unit {0}
unfolding low_first smallest flat_map
writing = tt

-- ---- the theorem

-- a group of rows each
pub every_row : EveryRow rows
unfolding elements reading writing
every_row = (refl, (refl, (refl, (refl, (refl, (refl, (refl, (refl, (refl, (refl, (refl, (refl, (refl, (refl, (refl, (refl, (refl, (refl, tt))))))))))))))))))
