-- `CurrentScene::notice` meets its contract. Assumes nothing.
use mathlib.Core.Path.{refl}
use Rattle.notices.proofs.CurrentScene.notice.Goals as goal

pub returns-then-hit : goal.returns-then-hit
returns-then-hit c =
    (simp c.if-hit.true refl, simp c.if-hit.true refl)

pub returns-else-hit : goal.returns-else-hit
returns-else-hit c =
    (simp c.if-hit.false refl, simp c.if-hit.false refl)
