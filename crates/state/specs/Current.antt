-- Remembering and invalidating current records, with their steps of the data version: document 01, "Records".
use Rattle.std.specs.Prelude.{true}
use Rattle.words.specs.declared.SceneKey.{SceneKey}
use Rattle.records.specs.declared.Scope.{Scope}
use Rattle.records.specs.Records.{Records, records_of, remember, any_hit, invalidated}
use Rattle.state.specs.Table.{Current, current_of, with_record_count, bump_if}

-- the scene becomes its fabric's valid current record; the version steps, also where the record is dropped
unfoldable pub remember_current : SceneKey → Current → Current
remember_current key c =
    let r : Records = remember key c.state.size (records_of c.state.recorded c.records) in
    current_of (bump_if true (with_record_count r.count c.state)) r.words

-- each valid record that is meant becomes invalid; the version steps once if there is one
unfoldable pub invalidate_current : Scope → Current → Current
invalidate_current scope c =
    current_of (bump_if (any_hit scope c.records c.state.recorded) c.state) (invalidated scope c.state.recorded c.records)
