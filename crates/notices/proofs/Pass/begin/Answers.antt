-- `Pass::begin` meets its contract. Assumes nothing.
use mathlib.Core.Path.{refl, sym, ◌∙◌}
use Rattle.notices.proofs.Pass.begin.Goals as goal

pub returns-then-not-is_head_sound : goal.returns-then-not-is_head_sound
returns-then-not-is_head_sound c =
    simp (sym c.is_head_sound.ensures ∙ c.if-not-is_head_sound.true) refl

pub returns-else-not-is_head_sound : goal.returns-else-not-is_head_sound
returns-else-not-is_head_sound c =
    simp (sym c.is_head_sound.ensures ∙ c.if-not-is_head_sound.false) refl
