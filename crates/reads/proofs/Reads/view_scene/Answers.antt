-- `Reads::view_scene` meets its contract. Assumes nothing.
use Prim.Native.Nat.{◌<◌}
use mathlib.Core.Path.{refl, ◌≡◌, sym, ap, ◌∙◌}
use native.Mathlib.Omega.{arith}
use Rattle.std.specs.Prelude.{Option, ℕ}
use Rattle.words.proofs.Refusals.{refusal-number}
use Rattle.requests.specs.Requests.{lookup_gate}
use Rattle.state.specs.Table.{Table, table_of}
use Rattle.state.specs.Change.{find_scene}
use Rattle.state.proofs.Laws.{found_under}
use Rattle.state.proofs.Guard.{Admitted, admits, refuses}
use Rattle.state.proofs.Changes.{found-scene}
use Rattle.std.specs.Prelude.{None}
use Rattle.reads.specs.Reads.{read_at, view_scene}
use Rattle.reads.proofs.Reads.view_scene.Goals as goal

pub returns-in-Err : goal.returns-in-Err
unfolding view_scene
returns-in-Err c =
    let came : Table = let a = c.args in
    table_of a.self.state a.keys.now a.times.now a.fields.now a.records.now in
    c.refused_by.ensures ∙ refuses came c.requires _ _ c.in-Err.ensures _ _ (refusal-number _)

pub find-requires : goal.find-requires
find-requires c =
    let came : Table = let a = c.args in
    table_of a.self.state a.keys.now a.times.now a.fields.now a.records.now in
    let admitted : (let a = c.args in
    Admitted came (lookup_gate a.key a.member)) = admits _ c.requires _ _ c.in_default.ensures refl in
    let h = admitted.room in
    omega arith

pub returns-in_default-find : goal.returns-in_default-find
unfolding view_scene read_at
returns-in_default-find c =
    let came : Table = let a = c.args in
    table_of a.self.state a.keys.now a.times.now a.fields.now a.records.now in
    let admitted : (let a = c.args in
    Admitted came (lookup_gate a.key a.member)) = admits _ c.requires _ _ c.in_default.ensures refl in
    let found : (c.find.result ≡ find_scene c.args.key came) = found-scene _ came _ _ c.word.ensures c.find.ensures in
    c.refused_by-in_default-find.ensures
    ∙ ap (λ (x : Option ℕ). read_at x None came) (sym c.in_default-find.is ∙ found)
    ∙ admitted.answers _ _

pub offset_bounds-times-at : goal.offset_bounds-times-at
offset_bounds-times-at c =
    let came : Table = let a = c.args in
    table_of a.self.state a.keys.now a.times.now a.fields.now a.records.now in
    let admitted : (let a = c.args in
    Admitted came (lookup_gate a.key a.member)) = admits _ c.requires _ _ c.in_default.ensures refl in
    let found : (c.find.result ≡ find_scene c.args.key came) = found-scene _ came _ _ c.word.ensures c.find.ensures in
    let under : c.in-Some.at < c.args.self.state.entries = found_under _ _ _ _ (sym found ∙ c.in-Some.is) in
    let h = admitted.room in
    let u = under in
    omega arith

pub bounds-times-at : goal.bounds-times-at
bounds-times-at c =
    let came : Table = let a = c.args in
    table_of a.self.state a.keys.now a.times.now a.fields.now a.records.now in
    let admitted : (let a = c.args in
    Admitted came (lookup_gate a.key a.member)) = admits _ c.requires _ _ c.in_default.ensures refl in
    let found : (c.find.result ≡ find_scene c.args.key came) = found-scene _ came _ _ c.word.ensures c.find.ensures in
    let under : c.in-Some.at < c.args.self.state.entries = found_under _ _ _ _ (sym found ∙ c.in-Some.is) in
    let h = admitted.room in
    let u = under in
    omega arith

pub found-requires : goal.found-requires
found-requires c =
    let came : Table = let a = c.args in
    table_of a.self.state a.keys.now a.times.now a.fields.now a.records.now in
    let admitted : (let a = c.args in
    Admitted came (lookup_gate a.key a.member)) = admits _ c.requires _ _ c.in_default.ensures refl in
    let found : (c.find.result ≡ find_scene c.args.key came) = found-scene _ came _ _ c.word.ensures c.find.ensures in
    let under : c.in-Some.at < c.args.self.state.entries = found_under _ _ _ _ (sym found ∙ c.in-Some.is) in
    let h = admitted.room in
    let u = under in
    omega arith

pub returns : goal.returns
unfolding view_scene read_at
returns c =
    let came : Table = let a = c.args in
    table_of a.self.state a.keys.now a.times.now a.fields.now a.records.now in
    let admitted : (let a = c.args in
    Admitted came (lookup_gate a.key a.member)) = admits _ c.requires _ _ c.in_default.ensures refl in
    let found : (c.find.result ≡ find_scene c.args.key came) = found-scene _ came _ _ c.word.ensures c.find.ensures in
    c.found.ensures
    ∙ ap (λ (x : Option ℕ). read_at x None came) (sym c.in-Some.is ∙ found)
    ∙ admitted.answers _ _
