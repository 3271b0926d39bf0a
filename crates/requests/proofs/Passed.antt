-- What a request that is let through has: a fabric other than 0, scene ids other than 0 and 255, bytes that fit. Assumes nothing.
use Prim.Native.Nat.{ℕ, ◌+◌, ◌≤◌}
use native.Mathlib.Omega.{arith}
use mathlib.Core.Path.{◌≡◌, refl, sym, ap, ◌∙◌}
use mathlib.Core.Bool.{Bool, true, false, cond}
use mathlib.Core.List.{List, ◌∷◌}
use lib.Dec.{eqb, ltb}
use borrow.Author.Tests.{eqb-true, eqb-false, ltb-false}
use Rattle.words.specs.Constants.{success}
use Rattle.words.specs.declared.SceneKey.{SceneKey}
use Rattle.requests.specs.declared.Membership.{Membership}
use Rattle.requests.specs.declared.CopyRequest.{CopyRequest}
use Rattle.requests.specs.Requests.{or_next, first_refusal, refuse_if, reserved, fabric_gate, scene_gate, whole_group, add_gate, store_gate, lookup_gate, copy_gate}

-- what a list of tests, a single test and that of the fabric have that let a request through
pub first_pass : (r : ℕ) (rs : List ℕ) → first_refusal (r ∷ rs) ≡ 0 → (r ≡ 0) × (first_refusal rs ≡ 0)
unfolding first_refusal or_next
first_pass r rs e =
    (elim (eqb r 0) as (λ c. eqb r 0 ≡ c → cond c (first_refusal rs) r ≡ 0 → (r ≡ 0) × (first_refusal rs ≡ 0))
    [ true ↦ λ z q. (eqb-true r 0 z, q) | false ↦ λ z q. absurd (eqb-false r 0 z q) ]) refl e

pub if_pass : (b : Bool) (n : ℕ) → 1 ≤ n → refuse_if b n ≡ 0 → b ≡ false
if_pass true n h e = absurd (omega arith)
if_pass false n h e = refl

pub fabric_pass : (f : ℕ) → fabric_gate f ≡ 0 → 1 ≤ f
fabric_pass f e = omega (arith, eqb-false f 0 (if_pass (eqb f 0) 1 (omega arith) e))

scene_pass : (s : ℕ) → scene_gate s ≡ 0 → reserved s ≡ false
scene_pass s e = if_pass (reserved s) 0x87 (omega arith) e

-- a key that a request may name
pub record Named (key : SceneKey) : Type 0 where
  pub fabric : 1 ≤ key.fabric
  pub scene : reserved key.scene ≡ false

named : (key : SceneKey) (rs : List ℕ) → first_refusal (fabric_gate key.fabric ∷ scene_gate key.scene ∷ rs) ≡ 0 → Named key × (first_refusal rs ≡ 0)
named key rs z =
    let a = first_pass _ _ z in
    let b = first_pass _ _ a.1 in
    (record { fabric = fabric_pass key.fabric a.0; scene = scene_pass key.scene b.0 }, b.1)

module _ (key : SceneKey) (m : Membership) where
  pub lookup-passed : lookup_gate key m ≡ 0 → Named key
  unfolding lookup_gate
  lookup-passed z = (named key _ z).0

  pub add-passed : (time : ℕ) (pairs : List ℕ) (limit len : ℕ) → add_gate key time m pairs limit len ≡ 0 → Named key × (len ≤ limit)
  unfolding add_gate
  add-passed time pairs limit len z =
      let a = named key _ z in
      let b = first_pass _ _ (first_pass _ _ (first_pass _ _ a.1).1).1 in
      (a.0, ltb-false limit len (if_pass (ltb limit len) 0x89 (omega arith) (first_pass _ _ b.1).0))

  pub store-passed : (limit len : ℕ) → store_gate key m limit len ≡ 0 → Named key × (len + 1 ≤ limit)
  unfolding store_gate
  store-passed limit len z =
      let a = named key _ z in
      let b = first_pass _ _ a.1 in
      (a.0, ltb-false limit (len + 1) (if_pass (ltb limit (len + 1)) 3 (omega arith) (first_pass _ _ b.1).0))

pub copy_passed : (c : CopyRequest) (source target : Membership) → copy_gate c source target ≡ 0 → (1 ≤ c.fabric) × (whole_group c.mode ≡ false → reserved c.to.scene ≡ false)
unfolding copy_gate
copy_passed c source target z =
    let a = first_pass _ _ z in
    let b = (first_pass _ _ (first_pass _ _ a.1).1).0 in
    (fabric_pass c.fabric a.0, λ one. scene_pass c.to.scene (sym (ap (λ (w : Bool). cond w success (scene_gate c.to.scene)) one) ∙ b))
