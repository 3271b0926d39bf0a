-- `script_asking::query::list_in` meets its contract. Assumes nothing.
use mathlib.Core.Path.{sym}
use lib.Seq.{length-take-le}
use Rattle.state.specs.declared.ScenesState.{ScenesState}
use Rattle.state.specs.Table.{Table, table_of}
use Rattle.script_answers.specs.Done.{done_of}
use Rattle.script_answers.proofs.DoneLaws.{in_front_lem}
use Rattle.script_lines.specs.Values.{value_at}
use Rattle.groups.specs.Groups.{groups_of}
use Rattle.script_asking.specs.Asked.{list_asked, list_in_asked}
use borrow.Author.Rules.{rules}
use Rattle.script_asking.proofs.query.list_in.Goals as goal

pub slice_bounds-list-end-2 : goal.slice_bounds-list-end-2
slice_bounds-list-end-2 c =
    sym (length-take-le _ _ (search rules))

pub returns : goal.returns
unfolding list_in_asked
returns c =
    let came : ScenesState → Table = λ state. let a = c.args in
    table_of state a.keys.now a.times.now a.fields.now a.records.now in
    let a = c.args in
    in_front_lem (λ b. list_asked a.read.values b (groups_of a.asking.groups a.words.now) (came a.asking.state))
    (value_at a.read.values 4) a.buffer.now _
    (done_of c.list.result (came c.list.result.state)) _ c.min-n.ensures c.list.ensures
