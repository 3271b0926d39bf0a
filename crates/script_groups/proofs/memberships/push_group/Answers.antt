-- `script_groups::memberships::push_group` meets its contract. Assumes nothing.
use Prim.Native.Nat.{◌+◌, ◌<◌}
use mathlib.Core.Path.{ap, ◌∙◌}
use lib.ListN.{length, set}
use Rattle.words.specs.Constants.{success, max_memberships}
use Rattle.state.specs.Table.{table_of}
use Rattle.groups.specs.Groups.{groups_of, with_held, group_word, with_member}
use Rattle.script_answers.specs.declared.Tail.TheVariants.{Nothing}
use Rattle.script_answers.specs.Done.{read_of}
use Rattle.script_groups.specs.Memberships.{group_done}
use Rattle.script_groups.proofs.GroupLaws.{ends, group_pushed, group-refused, group_test, group-room}
use borrow.Author.Rules.{rules}
use Rattle.std.specs.Prelude.{ℕ, false}
use Rattle.script_groups.specs.declared.calls.GroupAnswer.{GroupAnswer}
use Rattle.script_groups.proofs.memberships.push_group.Goals as goal

pub offset_bounds-words-n : goal.offset_bounds-words-n
offset_bounds-words-n c =
    let room : (let a = c.args in
    (a.asking.groups.held < max_memberships) × (a.asking.groups.held < length a.words.now)) = group-room _ _ _ c.group_fits.ensures c.if-group_fits.true in
    let h = room in
    search rules

pub bounds-words-n : goal.bounds-words-n
bounds-words-n c =
    let room : (let a = c.args in
    (a.asking.groups.held < max_memberships) × (a.asking.groups.held < length a.words.now)) = group-room _ _ _ c.group_fits.ensures c.if-group_fits.true in
    room.1

pub overflow_add-groups : goal.overflow_add-groups
overflow_add-groups c =
    let room : (let a = c.args in
    (a.asking.groups.held < max_memberships) × (a.asking.groups.held < length a.words.now)) = group-room _ _ _ c.group_fits.ensures c.if-group_fits.true in
    let h = room in
    search rules

pub returns-then-group_fits : goal.returns-then-group_fits
unfolding with_member
returns-then-group_fits c =
    let a = c.args in
    let g = groups_of a.asking.groups a.words.now in
    let written = c.word.ensures ∙ ap group_word c.group_key-key.ensures in
    λ k t f w.
    let table = table_of a.asking.state k t f w in
    ap (ends k t f w (set a.words.now a.asking.groups.held c.word.result)) c.unsaved.ensures
    ∙ (λ i. group_done (read_of success Nothing table)
    (groups_of (with_held (a.asking.groups.held + 1)) (set a.words.now a.asking.groups.held (written i))))
    ∙ group_pushed a.read.values g table
    (group_test a.asking.groups _ a.read.values c.group_key-key.ensures _ _ _ c.group_fits.ensures c.if-group_fits.true)

pub returns : goal.returns
returns c =
    let a = c.args in
    let g = groups_of a.asking.groups a.words.now in
    λ k t f w.
    let answered : ℕ → GroupAnswer = λ n. record { answer = record { status = n; save = false; state = a.asking.state; tail = Nothing }; groups = a.asking.groups } in
    ap (ends k t f w a.words.now) (c.unsaved-2.ensures ∙ ap answered c.from.ensures)
    ∙ group-refused a.read.values g (table_of a.asking.state k t f w)
    (group_test a.asking.groups _ a.read.values c.group_key-key.ensures _ _ _ c.group_fits.ensures c.if-group_fits.false)
