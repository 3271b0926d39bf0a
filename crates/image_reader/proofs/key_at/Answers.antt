-- `image_reader::key_at` meets its contract. Assumes nothing.
use Prim.Native.Nat.{ℕ, ◌<◌}
use mathlib.Core.Path.{sym, ◌∙◌}
use native.Mathlib.Omega.{arith}
use Rattle.tlv.proofs.Says.{u8_under, u16_under}
use Rattle.image_reader.proofs.key_at.Goals as goal
use Rattle.image_reader.proofs.key_at.Goals.{In_ok-scene}

record Parts (f e g s : ℕ) : Type 0 where
  fabric : f < 256
  endpoint : e < 65536
  group : g < 65536
  scene : s < 256

-- the four parts of a key are as wide as their types
parts : (c : In_ok-scene) → Parts c.in_ok-fabric.fabric c.in_ok-endpoint.endpoint c.in_ok-group.group c.in_ok-scene.scene
parts c =
    let below = λ (i : ℕ). (c.type_inv.bytes i).fits in
    record {
      fabric = u8_under _ below _ _ (sym c.number_at.ensures ∙ c.in_ok-fabric.was);
      endpoint = u16_under _ below _ _ (sym c.number_at-2.ensures ∙ c.in_ok-endpoint.was);
      group = u16_under _ below _ _ (sym c.number_at-3.ensures ∙ c.in_ok-group.was);
      scene = u8_under _ below _ _ (sym c.number_at-4.ensures ∙ c.in_ok-scene.was);
    }

pub overflow_mul-result : goal.overflow_mul-result
overflow_mul-result c = omega (arith, parts (goal.at.overflow_mul-result c).In_ok-scene)

pub overflow_mul-result-2 : goal.overflow_mul-result-2
overflow_mul-result-2 c = omega (arith, parts (goal.at.overflow_mul-result-2 c).In_ok-scene)

pub overflow_add-result : goal.overflow_add-result
overflow_add-result c = omega (arith, parts (goal.at.overflow_add-result c).In_ok-scene)

pub overflow_mul-result-3 : goal.overflow_mul-result-3
overflow_mul-result-3 c = omega (arith, parts (goal.at.overflow_mul-result-3 c).In_ok-scene)

pub overflow_add-result-2 : goal.overflow_add-result-2
overflow_add-result-2 c = omega (arith, parts (goal.at.overflow_add-result-2 c).In_ok-scene)

pub overflow_add-result-3 : goal.overflow_add-result-3
overflow_add-result-3 c = omega (arith, parts (goal.at.overflow_add-result-3 c).In_ok-scene)
