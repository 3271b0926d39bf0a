-- What an attribute notice and the lifecycle calls answer and leave: document 01, "Records" (the notice) and "Lifecycle".
use Rattle.std.specs.Prelude.{ℕ, ◌+◌, Bool, true, false, List, ltb, length}
use Rattle.words.specs.Constants.{success}
use Rattle.words.specs.Words.{fabric_keys}
use Rattle.records.specs.declared.Scope.TheVariants.{Endpoint}
use Rattle.records.specs.Records.{others_of, moved}
use Rattle.requests.specs.Requests.{fabric_gate}
use Rattle.state.specs.Table.{Table, with_entries, with_current, with_entry_count, with_record_count, bump_if}
use Rattle.state.specs.Current.{invalidate_current}
use Rattle.state.specs.Change.{retain_outside}
use Rattle.state.specs.Answer.{Result, result_of, refused, refusal_of, guarded}

-- an attribute notice: all fabrics' valid records on the endpoint
unfoldable pub scenable_attribute_changed : ℕ → Table → Result
scenable_attribute_changed endpoint t =
    guarded (refused t) (refusal_of t success) (result_of success false (with_current (invalidate_current (Endpoint endpoint)) t))

-- u is the table without the fabric's entries; its records go too, order kept, with one step and a save mark if anything went
unfoldable pub removed_fabric : ℕ → Table → Table → Result
removed_fabric fabric t u =
    let kept : List ℕ = others_of t.records t.state.recorded fabric in
    let went : Bool = ltb (u.state.entries + length kept) (t.state.entries + t.state.recorded) in
    result_of success went (record { state = bump_if went (with_record_count (length kept) u.state); slots = u.slots; records = moved kept t.records })

unfoldable pub remove_for_fabric : ℕ → Table → Result
remove_for_fabric fabric t =
    guarded (refused t) (refusal_of t (fabric_gate fabric)) (removed_fabric fabric t (with_entries (retain_outside (fabric_keys fabric)) t))

-- no entries and no records: the lent memory stays as it is
abbrev pub emptied : Bool → Table → Table
emptied steps t = record { state = bump_if steps (with_record_count 0 (with_entry_count 0 t.state)); slots = t.slots; records = t.records }

-- a factory reset always steps
unfoldable pub factory_reset : Table → Result
factory_reset t = guarded (refused t) (refusal_of t success) (result_of success false (emptied true t))

-- a startup without a saved table does not
unfoldable pub startup : Table → Result
startup t = guarded (refused t) (refusal_of t success) (result_of success false (emptied false t))

-- both fail-safe events do nothing
unfoldable pub fail_safe : Table → Result
fail_safe t = guarded (refused t) (refusal_of t success) (result_of success false t)
