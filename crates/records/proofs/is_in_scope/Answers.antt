-- `records::is_in_scope` meets its contract: each arm is the definition's case. Assumes nothing.
use mathlib.Core.Path.{refl, sym, ◌∙◌}
use mathlib.Core.Bool.{true, false}
use Rattle.records.specs.Records.{in_scope}
use Rattle.records.proofs.Laws.{by_scene, by_group}
use Rattle.records.proofs.is_in_scope.Goals as goal

pub returns-then-is_owned : goal.returns-then-is_owned
returns-then-is_owned c =
    by_scene _ _ _ true _ c.in-Scene.is (sym c.is_owned.ensures ∙ c.if-is_owned.true)
    (rw (← c.key_of_record-record.ensures, ← c.is_scene.ensures) refl)

pub returns-then-is_owned-2 : goal.returns-then-is_owned-2
returns-then-is_owned-2 c =
    by_group _ _ _ true _ c.in-Group.is (sym c.is_owned-in-Group.ensures ∙ c.if-is_owned-2.true)
    (rw (← c.key_of_record-record.ensures, ← c.group_of.ensures) refl)

pub returns-else-is_owned : goal.returns-else-is_owned
returns-else-is_owned c =
    by_scene _ _ _ false _ c.in-Scene.is (sym c.is_owned.ensures ∙ c.if-is_owned.false) refl

pub returns-else-is_owned-2 : goal.returns-else-is_owned-2
returns-else-is_owned-2 c =
    by_group _ _ _ false _ c.in-Group.is (sym c.is_owned-in-Group.ensures ∙ c.if-is_owned-2.false) refl

pub returns-in-Endpoint : goal.returns-in-Endpoint
unfolding in_scope
returns-in-Endpoint c =
    rw (c.in-Endpoint.is, c.endpoint_of.ensures, c.key_of_record-record.ensures) refl
