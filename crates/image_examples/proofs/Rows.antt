-- Every row of the table holds of the definitions that the contracts cite. Assumes nothing.
use mathlib.Core.Path.{refl}
use mathlib.Core.List.{flat_map}
use Rattle.words.specs.Conditions.{all_of}
use Rattle.words.specs.Below.{positions, every_below}
use Rattle.slots.specs.Slots.{keys_sound, lengths_sound}
use Rattle.records.specs.Records.{records_sound}
use Rattle.state.specs.Table.{entries_in, records_in}
use Rattle.state.specs.Sound.{in_bounds, sound}
use Rattle.state.specs.Answer.{refusal_of, guarded}
use Rattle.tlv.specs.Encoding.{low_first, smallest}
use Rattle.image_writer.specs.Image.{image_bytes}
use Rattle.image_save.specs.Saving.{save_image}
use Rattle.image_load.proofs.Computing.{loading}
use Rattle.image_examples.specs.Rows.{EveryRow, rows}

-- ---- what computes on tables that are written out, besides what a load does

tables : Unit {0}
unfolding sound in_bounds all_of keys_sound lengths_sound records_sound every_below refusal_of guarded entries_in records_in positions
tables = tt

saving : Unit {0}
unfolding low_first smallest flat_map image_bytes save_image
saving = tt

-- ---- the theorem

-- a group of rows each
pub every_row : EveryRow rows
unfolding tables loading saving
every_row = (refl, (refl, (refl, (refl, (refl, (refl, (refl, (refl, (refl, (refl, (refl, tt)))))))))))
