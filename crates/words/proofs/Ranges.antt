-- A range of key words holds just those with the parts that it is named for. Assumes nothing.
use Prim.Native.Nat.{ℕ, ◌+◌, ◌*◌, ◌/◌, ◌^◌, ◌<◌}
use mathlib.Core.Path.{◌≡◌, refl}
use mathlib.Core.Bool.{true, ◌&&◌}
use native.Mathlib.Omega.{arith}
use lib.Dec.{eqb}
use borrow.Author.Tests.{eqb-true, eq-eqb}
use Rattle.words.specs.Words.{within, fabric_of, endpoint_of, group_of, fabric_keys, endpoint_keys, group_keys}
use Rattle.words.proofs.Tests.{and_left, and_right, and_intro, same_test}

-- the fabric's key words
pub fabric-keys : (f w : ℕ) → within (fabric_keys f) w ≡ eqb (fabric_of w) f
unfolding within
fabric-keys f w = refl

-- the fabric's key words on an endpoint
pub endpoint-keys : (f e w : ℕ) → e < 2 ^ 16 → within (endpoint_keys f e) w ≡ (eqb (fabric_of w) f && eqb (endpoint_of w) e)
unfolding within
endpoint-keys f e w he =
    same_test (within (endpoint_keys f e) w) (eqb (fabric_of w) f && eqb (endpoint_of w) e)
    (λ k.
    let u = eqb-true (w / 2 ^ 24) (f * 2 ^ 16 + e) k in
    and_intro (eqb (fabric_of w) f) (eqb (endpoint_of w) e) (eq-eqb (fabric_of w) f (omega arith)) (eq-eqb (endpoint_of w) e (omega arith)))
    (λ k.
    let p = eqb-true (fabric_of w) f (and_left (eqb (fabric_of w) f) (eqb (endpoint_of w) e) k) in
    let q = eqb-true (endpoint_of w) e (and_right (eqb (fabric_of w) f) (eqb (endpoint_of w) e) k) in
    eq-eqb (w / 2 ^ 24) (f * 2 ^ 16 + e) (omega arith))

-- what lies above the scene in the key words of a group
pub group_upper : (f e g w : ℕ) → within (group_keys f e g) w ≡ true → w / 2 ^ 8 ≡ (f * 2 ^ 16 + e) * 2 ^ 16 + g
unfolding within
group_upper f e g w k = eqb-true (w / 2 ^ 8) ((f * 2 ^ 16 + e) * 2 ^ 16 + g) k

-- the fabric's key words in a group on an endpoint
pub group-keys : (f e g w : ℕ) → e < 2 ^ 16 → g < 2 ^ 16 → within (group_keys f e g) w ≡ (eqb (fabric_of w) f && (eqb (endpoint_of w) e && eqb (group_of w) g))
unfolding within
group-keys f e g w he hg =
    same_test (within (group_keys f e g) w) (eqb (fabric_of w) f && (eqb (endpoint_of w) e && eqb (group_of w) g))
    (λ k.
    let u = group_upper f e g w k in
    and_intro (eqb (fabric_of w) f) (eqb (endpoint_of w) e && eqb (group_of w) g) (eq-eqb (fabric_of w) f (omega arith))
    (and_intro (eqb (endpoint_of w) e) (eqb (group_of w) g) (eq-eqb (endpoint_of w) e (omega arith)) (eq-eqb (group_of w) g (omega arith))))
    (λ k.
    let p = eqb-true (fabric_of w) f (and_left (eqb (fabric_of w) f) (eqb (endpoint_of w) e && eqb (group_of w) g) k) in
    let k' = and_right (eqb (fabric_of w) f) (eqb (endpoint_of w) e && eqb (group_of w) g) k in
    let q = eqb-true (endpoint_of w) e (and_left (eqb (endpoint_of w) e) (eqb (group_of w) g) k') in
    let r = eqb-true (group_of w) g (and_right (eqb (endpoint_of w) e) (eqb (group_of w) g) k') in
    eq-eqb (w / 2 ^ 8) ((f * 2 ^ 16 + e) * 2 ^ 16 + g) (omega arith))
