-- The answer to an event or a raw write has no tail, so that it fits. Assumes nothing.
use Prim.Native.Nat.{ℕ}
use mathlib.Core.List.{List}
use lib.Dec.{eqb}
use lib.ListN.{length}
use Rattle.state.specs.Table.{Table}
use Rattle.script_lines.specs.Values.{byte, value_at}
use Rattle.script_answers.specs.Answers.{fits}
use Rattle.script_answers.proofs.DoneLaws.{fit_done}
use Rattle.script_events.specs.Events.{event}
use Rattle.script_events.specs.Writes.{set_version, entry_fits, push_entry, record_fits, push_record, host_write}

pub event-fits : (letter : ℕ) (values : List ℕ) (t : Table) → fits (event letter values t).tail
unfolding event
event-fits letter values t =
    fit_done (eqb letter 84) _ _ tt (fit_done (eqb letter 85) _ _ tt tt)

entry-fits : (values ext : List ℕ) (t : Table) → fits (push_entry values ext t).tail
unfolding push_entry
entry-fits values ext t =
    fit_done (entry_fits t.state (byte (value_at values 0)) (length ext) (length t.slots.keys) (length t.slots.times)
    (length t.slots.fields))
    _ _ tt tt

record_fits_lem : (values : List ℕ) (t : Table) → fits (push_record values t).tail
unfolding push_record
record_fits_lem values t = fit_done (record_fits t.state (byte (value_at values 0)) (length t.records)) _ _ tt tt

pub write_fits : (letter : ℕ) (values : List ℕ) (bytes : ℕ → List ℕ) (t : Table) → fits (host_write letter values bytes t).tail
unfolding host_write set_version
write_fits letter values bytes t =
    fit_done (eqb letter 75) _ _ tt (fit_done (eqb letter 101) _ _ (entry-fits values (bytes 5) t) (record_fits_lem values t))
