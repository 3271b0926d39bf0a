-- `host::scenes_field_bytes` meets its contract. Assumes nothing.
use mathlib.Core.Path.{◌≡◌, ap, ◌∙◌}
use lib.ListN.{length}
use Rattle.state.specs.Table.{Table, table_of}
use Rattle.reads.specs.Reads.{field_bytes}
use Rattle.host_numbers.specs.Fields.{place_of, field_place}
use Rattle.host_numbers.proofs.Fields.{below_most}
use Rattle.host.proofs.scenes_field_bytes.Goals as goal

pub of_entry-requires : goal.of_entry-requires
of_entry-requires c =
    let came : Table = let a = c.args in
    table_of a.state a.keys.now a.times.now a.fields.now a.records.now in
    let size : length c.field_bytes-len.result.now ≡ length (field_bytes c.args.at came) = ap length c.field_bytes-len.ensures in
    λ some. below_most _ came (λ e. some (size ∙ e))

pub returns : goal.returns
unfolding field_place
returns c =
    let came : Table = let a = c.args in
    table_of a.state a.keys.now a.times.now a.fields.now a.records.now in
    let size : length c.field_bytes-len.result.now ≡ length (field_bytes c.args.at came) = ap length c.field_bytes-len.ensures in
    c.of_entry.ensures ∙ ap (place_of _) size
