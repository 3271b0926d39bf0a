-- `records::records_sound` meets its contract: it has looked at each word so far. Assumes nothing.
use Rattle.std.proofs.Common.{◌≡◌, take}
use Rattle.std.specs.List.{list_all}
use Rattle.records.specs.Records.{record_sound}
use Rattle.records.proofs.records_sound.Given as goal

abbrev pub invariant-loop-word : goal.invariant-loop-word
invariant-loop-word l = l.sound ≡ list_all record_sound (take l.word-index (take l.n l.records))
