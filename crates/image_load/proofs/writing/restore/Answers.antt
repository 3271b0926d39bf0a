-- `image_load::writing::restore` meets its contract. Assumes nothing.
use Rattle.slots.specs.Slots.{slots_of}
use Rattle.image_load.proofs.Placing.{restores}
use Rattle.image_load.proofs.writing.restore.Goals as goal

pub returns : goal.returns
returns c =
    restores _ _ (slots_of c.put_entries-count.new.keys c.put_entries-count.new.times c.put_entries-count.new.fields) _ _ _ _ _ c.put_entries-count.ensures
    c.put_records-recorded.ensures c.bump_info_dataver.ensures
