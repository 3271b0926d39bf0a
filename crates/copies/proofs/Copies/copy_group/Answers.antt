-- `Copies::copy_group` meets its contract: what is left of the walk at turn i answers as the whole walk, and there is room for
-- the next copy. Assumes nothing.
use mathlib.Core.Path.{◌≡◌, refl, sym, ◌∙◌}
use native.Mathlib.Omega.{arith}
use lib.ListN.{get_or}
use Rattle.state.specs.Table.{entries_of}
use Rattle.words.specs.Refusals.{status_of}
use Rattle.words.proofs.Refusals.{err-number, ok-number}
use Rattle.copies.specs.Copy.{Copied, copied_of, copy_entry, key_in}
use Rattle.copies.proofs.Laws.{walk_start, walk_end}
use Rattle.copies.proofs.Copies.copy_group.Goals as goal
use Rattle.copies.proofs.Copies.copy_group.Invariants.{named, skip, step, stop}

pub loop-i-init : goal.loop-i-init
loop-i-init c =
    record {
      room = c.requires;
      entries = omega arith;
      walk = λ from _. walk_start from _ _ _ _;
    }

pub copy_entry-done-requires : goal.copy_entry-done-requires
copy_entry-done-requires c =
    record { entry_room = c.loop-i.invariant.room; at_lt_entries = omega arith }

pub returns-then-is_err : goal.returns-then-is_err
returns-then-is_err c =
    let made : Copied = copied_of (status_of c.copy_entry-done.result.answer) (entries_of c.copy_entry-done.result.state c.copy_entry-done.new.keys c.copy_entry-done.new.times c.copy_entry-done.new.fields) in
    let made_by : (let e = entries_of c.loop-i.state c.loop-i.keys c.loop-i.times c.loop-i.fields in made ≡ copy_entry c.loop-i.i (key_in c.args.to (get_or c.loop-i.keys c.loop-i.i 0)) e) = c.copy_entry-done.ensures ∙ named c.args.to c.loop-i.i _ _ c.scene_of.ensures in
    stop c.loop-i.invariant c.loop-i-test.true (sym c.holds.ensures ∙ c.if-not-holds.false)
    {o = made} made_by (err-number _ (sym c.is_err.ensures.value ∙ c.if-is_err.true)) c.args.from refl

pub loop-i-preserved : goal.loop-i-preserved
loop-i-preserved c =
    let made : Copied = copied_of (status_of c.copy_entry-done.result.answer) (entries_of c.copy_entry-done.result.state c.copy_entry-done.new.keys c.copy_entry-done.new.times c.copy_entry-done.new.fields) in
    let made_by : (let e = entries_of c.loop-i.state c.loop-i.keys c.loop-i.times c.loop-i.fields in made ≡ copy_entry c.loop-i.i (key_in c.args.to (get_or c.loop-i.keys c.loop-i.i 0)) e) = c.copy_entry-done.ensures ∙ named c.args.to c.loop-i.i _ _ c.scene_of.ensures in
    step c.loop-i.invariant c.loop-i-test.true (sym c.holds.ensures ∙ c.if-not-holds.false)
    {o = made} made_by (ok-number _ (sym c.is_err.ensures.value ∙ c.if-is_err.false))

pub loop-i-preserved-then-not-holds : goal.loop-i-preserved-then-not-holds
loop-i-preserved-then-not-holds c =
    skip c.loop-i.invariant c.loop-i-test.true (sym c.holds.ensures ∙ c.if-not-holds.true)

pub returns : goal.returns
returns c =
    sym (walk_end _ _ _ _ _ _ c.loop-i-test.false) ∙ c.loop-i.invariant.walk c.args.from refl
