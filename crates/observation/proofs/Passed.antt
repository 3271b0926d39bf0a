-- Requests that are let through: those that tell two tables apart, and what an add through the reader has. Assumes nothing.
use Prim.Native.Nat.{ℕ, ◌≤◌}
use native.Mathlib.Omega.{arith}
use mathlib.Core.Path.{◌≡◌, refl, ap, ◌∙◌}
use mathlib.Core.Bool.{Bool, false}
use mathlib.Core.List.{List, [], ◌∷◌, ◌++◌}
use lib.Dec.{eqb}
use lib.ListN.{length}
use borrow.Author.Tests.{ne_eqb, le-ltb, eqb-true, eqb-false}
use Rattle.words.specs.declared.SceneKey.{SceneKey}
use Rattle.requests.specs.declared.Membership.{Membership}
use Rattle.requests.specs.declared.Membership.TheVariants.{Yes}
use Rattle.requests.specs.Requests.{or_next, first_refusal, refuse_if, reserved, fabric_gate, scene_gate, member_gate, pairs_gate, fields_gate, add_gate, store_gate, lookup_gate, group_gate, info_gate}
use Rattle.requests.proofs.Laws.{next_pass}
use Rattle.requests.proofs.Passed.{Named, add-passed}
use Rattle.add_read.specs.Adding.{early_gates, field_sets_gate, add_read_gate}
use Rattle.observation.specs.Calls.{group_key}
use Rattle.observation.proofs.Choices.{cond_elim}

more : (r : ℕ) (rs : List ℕ) → r ≡ 0 → first_refusal rs ≡ 0 → first_refusal (r ∷ rs) ≡ 0
unfolding first_refusal
more r rs e z = next_pass r (first_refusal rs) e ∙ z

last : first_refusal [] ≡ 0
unfolding first_refusal
last = refl

fabric_let : (f : ℕ) → 1 ≤ f → fabric_gate f ≡ 0
fabric_let f h = rw (ne_eqb f 0 (omega arith)) refl

scene_let : (s : ℕ) → reserved s ≡ false → scene_gate s ≡ 0
scene_let s r = rw r refl

-- yes to any group, and any answer to group 0
pub member_let : (g : ℕ) → member_gate g Yes ≡ 0
unfolding member_gate
member_let g = cond_elim (λ (n : ℕ). n ≡ 0) (eqb g 0) (λ _. refl) (λ _. refl)

pub free_let : (m : Membership) → member_gate 0 m ≡ 0
unfolding member_gate
free_let m = refl

module _ (key : SceneKey) (n : Named key) (m : Membership) (z : member_gate key.group m ≡ 0) where
  may_name : (rs : List ℕ) → first_refusal rs ≡ 0 → first_refusal (fabric_gate key.fabric ∷ scene_gate key.scene ∷ rs) ≡ 0
  may_name rs e = more _ _ (fabric_let key.fabric n.fabric) (more _ _ (scene_let key.scene n.scene) e)

  pub lookup_let : lookup_gate key m ≡ 0
  unfolding lookup_gate
  lookup_let = may_name _ (more _ _ z last)

  -- nothing to add, nothing captured
  pub add_let : (limit : ℕ) → add_gate key 0 m [] limit 0 ≡ 0
  unfolding add_gate pairs_gate
  add_let limit =
      may_name _ (more _ _ refl (more _ _ z (more _ _ last (more _ _ (ap (λ (b : Bool). refuse_if b 0x89) (le-ltb limit 0 (omega arith))) last))))

  pub store_let : (limit : ℕ) → 1 ≤ limit → store_gate key m limit 0 ≡ 0
  unfolding store_gate
  store_let limit h = may_name _ (more _ _ z (more _ _ (ap (λ (b : Bool). refuse_if b 3) (le-ltb limit 1 h)) last))

pub group_let : (f e g : ℕ) → 1 ≤ f → group_gate (group_key f e g) Yes ≡ 0
unfolding group_gate
group_let f e g h = more _ _ (fabric_let f h) (more _ _ (member_let g) last)

pub info_let : (f : ℕ) → 1 ≤ f → info_gate f false ≡ 0
unfolding info_gate
info_let f h = more _ _ (fabric_let f h) (more _ _ refl last)

-- ---- an add through the reader

-- a list of tests that lets a request through does so without one of them
without : (xs : List ℕ) (r : ℕ) (ys : List ℕ) → first_refusal (xs ++ (r ∷ ys)) ≡ 0 → first_refusal (xs ++ ys) ≡ 0
unfolding first_refusal or_next
without [] r ys = cond_elim (λ (n : ℕ). n ≡ 0 → first_refusal ys ≡ 0) (eqb r 0) (λ _ z. z) (λ e z. absurd (eqb-false r 0 e z))
without (x ∷ xs) r ys =
    cond_elim (λ (n : ℕ). n ≡ 0 → first_refusal (x ∷ (xs ++ ys)) ≡ 0) (eqb x 0)
    (λ e z. more x (xs ++ ys) (eqb-true x 0 e) (without xs r ys z)) (λ e z. absurd (eqb-false x 0 e z))

-- what a listed add has
pub add_read-passed : (key : SceneKey) (m : Membership) (time : ℕ) (pairs : List ℕ) (limit : ℕ) (ext : List ℕ)
    → add_read_gate key time m pairs limit ext ≡ 0 → Named key × (length ext ≤ limit)
unfolding add_read_gate add_gate
add_read-passed key m time pairs limit ext z =
    add-passed key m time pairs limit (length ext)
    (without (early_gates key time m) (field_sets_gate pairs ext) (pairs_gate pairs ∷ fields_gate limit (length ext) ∷ []) z)
