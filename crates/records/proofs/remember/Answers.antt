-- `records::remember` meets its contract: over the record found, behind the others, or dropped. Assumes nothing.
use Prim.Native.Nat.{ℕ, ◌+◌, ◌<◌}
use mathlib.Core.Path.{◌≡◌, sym, ap, ◌∙◌}
use native.Mathlib.Omega.{arith}
use lib.ListN.{set}
use Rattle.std.specs.Prelude.{Some, None}
use Rattle.records.specs.Records.{records_of, first_owned}
use Rattle.records.proofs.Laws.{found_under, remember_over, remember-behind, remember_dropped}
use Rattle.records.proofs.remember.Goals as goal

pub returns-then-n-size : goal.returns-then-n-size
returns-then-n-size c =
    let none : (let a = c.args in
    first_owned a.records.now a.n a.key.fabric a.key.endpoint ≡ None) = sym c.find.ensures ∙ c.in_default.is in
    let a = c.args in
    ◌∙◌ {a = records_of (a.n + 1) (set a.records.now a.n c.valid_record-word.result)}
    (ap (λ (w : ℕ). records_of (a.n + 1) (set a.records.now a.n w)) c.valid_record-word.ensures)
    (remember-behind a.key a.size a.n a.records.now none c.if-n-size.true)

pub returns-in_default : goal.returns-in_default
returns-in_default c =
    let none : (let a = c.args in
    first_owned a.records.now a.n a.key.fabric a.key.endpoint ≡ None) = sym c.find.ensures ∙ c.in_default.is in
    let a = c.args in
    remember_dropped a.key a.size a.n a.records.now none c.if-n-size.false

pub offset_bounds-records-at : goal.offset_bounds-records-at
offset_bounds-records-at c =
    let place : ℕ = c.in-Some.at in
    let found : (let a = c.args in
    first_owned a.records.now a.n a.key.fabric a.key.endpoint ≡ Some place) = sym c.find.ensures ∙ c.in-Some.is in
    let under : place < c.args.n = found_under _ _ _ _ _ found in
    omega (arith, under)

pub bounds-records-at : goal.bounds-records-at
bounds-records-at c =
    let place : ℕ = c.in-Some.at in
    let found : (let a = c.args in
    first_owned a.records.now a.n a.key.fabric a.key.endpoint ≡ Some place) = sym c.find.ensures ∙ c.in-Some.is in
    let under : place < c.args.n = found_under _ _ _ _ _ found in
    omega (arith, under)

pub returns : goal.returns
returns c =
    let place : ℕ = c.in-Some.at in
    let found : (let a = c.args in
    first_owned a.records.now a.n a.key.fabric a.key.endpoint ≡ Some place) = sym c.find.ensures ∙ c.in-Some.is in
    let a = c.args in
    ◌∙◌ {a = records_of a.n (set a.records.now place c.valid_record-word.result)}
    (ap (λ (w : ℕ). records_of a.n (set a.records.now place w)) c.valid_record-word.ensures)
    (remember_over a.key a.size a.n a.records.now place found)
