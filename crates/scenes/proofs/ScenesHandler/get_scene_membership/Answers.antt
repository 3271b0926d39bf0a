-- `ScenesHandler::get_scene_membership` meets its contract: on a sound table it is the call of this name, and on any other it answers 6. Assumes nothing.
use Prim.Native.Nat.{ℕ}
use mathlib.Core.Path.{sym, ◌∙◌}
use mathlib.Core.List.{List}
use Rattle.state.specs.Table.{Table, table_of}
use Rattle.state.proofs.Guard.{answers_unsound}
use Rattle.reads.specs.Reads.{listed_of, unlisted, get_scene_membership}
use Rattle.scenes.proofs.ScenesHandler.get_scene_membership.Goals as goal

pub get_scene_membership-requires : goal.get_scene_membership-requires
get_scene_membership-requires c =
    sym c.is_sound.ensures ∙ c.if-is_sound.true

pub returns : goal.returns
unfolding get_scene_membership
returns c =
    let came : Table = let a = c.args in
    table_of a.self.state a.keys.now a.times.now a.fields.now a.records.now in
    let buffer : List ℕ = c.args.ids.now in
    (λ i. listed_of (c.refused_by.ensures i) buffer)
    ∙ answers_unsound _ (sym c.is_sound.ensures ∙ c.if-is_sound.false) _ (unlisted buffer came) _
