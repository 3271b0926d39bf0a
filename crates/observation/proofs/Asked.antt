-- Lists whose memberships are inputs: what they tell of two tables, and so that equivalent tables agree on the four matters. Assumes the laws, as an
-- argument.
use Prim.Native.Nat.{ℕ, ◌^◌, ◌≤◌, ◌<◌}
use native.Mathlib.Omega.{arith}
use mathlib.Core.Path.{◌≡◌, refl, sym, ap, ◌∙◌, subst, subst₂}
use mathlib.Core.Bool.{Bool, true, false, ◌&&◌, ◌||◌}
use mathlib.Core.List.{[], ◌∷◌}
use lib.Dec.{eqb}
use Rattle.words.specs.Constants.{insufficient_space}
use Rattle.words.specs.Words.{word_of, fabric_of}
use Rattle.requests.specs.declared.Membership.{Membership}
use Rattle.requests.specs.declared.Membership.TheVariants.{Yes}
use Rattle.requests.specs.Requests.{reserved, member_gate}
use Rattle.state.specs.Table.{Table}
use Rattle.observation.specs.Lists.{find}
use Rattle.observation.specs.Calls.{Command, view, store, info, command, notice, answer, next, scene_key, InRange}
use Rattle.observation.specs.Equivalence.{key_is, own, noticed, Same, whole_copy, Equivalent, Agree}
use Rattle.observation.proofs.Changes.{view_of}
use Rattle.observation.proofs.Effects.{Seen, viewed}
use Rattle.observation.proofs.Laws.{Laws}
use Rattle.observation.proofs.Invariant.{bad_key}
use Rattle.observation.proofs.Passed.{member_let, lookup_let}
use Rattle.observation.proofs.Probes.{viewed-same, key-found, no_bad, parts}
use Rattle.observation.proofs.Reach.{Standing, step-standing}
use Rattle.observation.proofs.Backward as backward

module _ (laws : Laws) (f : ℕ) (f1 : 1 ≤ f) (f255 : f ≤ 255) where
  hf : f < 2 ^ 8
  hf = omega arith

  -- what a view answers, and that equal answers mean equal entries
  pub view-answer : (m : Membership) (t : Table) → Standing t → (e g sc : ℕ) → e < 2 ^ 16 → g < 2 ^ 16 → sc < 2 ^ 8 → reserved sc ≡ false → member_gate g m ≡ 0
      → answer (command f e (view g sc m)) t ≡ viewed (find (key_is (word_of (scene_key f e g sc))) (view_of t).entries)
  view-answer m t i e g sc he hg hs plain z =
      ap (λ (o : Seen). o.0)
      ((laws.commands f e t i.intact hf he).view_acts g sc m (hg, hs) (lookup_let (scene_key f e g sc) (record { fabric = f1; scene = plain }) m z))

  pub viewed_alike : (m : Membership) (s t : Table) → Standing s → Standing t → (e g sc : ℕ) → e < 2 ^ 16 → g < 2 ^ 16 → sc < 2 ^ 8 → reserved sc ≡ false
      → member_gate g m ≡ 0 → Same (answer (command f e (view g sc m)) s) (answer (command f e (view g sc m)) t)
      → find (key_is (word_of (scene_key f e g sc))) (view_of s).entries ≡ find (key_is (word_of (scene_key f e g sc))) (view_of t).entries
  viewed_alike m s t i j e g sc he hg hs plain z same =
      let k = word_of (scene_key f e g sc) in
      viewed-same k (find (key_is k) (view_of s).entries) (find (key_is k) (view_of t).entries) (key-found k (view_of s).entries) (key-found k (view_of t).entries)
      (subst₂ Same (view-answer m s i e g sc he hg hs plain z) (view-answer m t j e g sc he hg hs plain z) same)

  -- tables that no such list tells apart
  record Pair (s t : Table) : Type 0 where
    left : Standing s
    right : Standing t
    see : Equivalent f s t

  asks : {s t : Table} → Pair s t → (e : ℕ) (c : Command) → InRange (command f e c) → Same (answer (command f e c) s) (answer (command f e c) t)
  asks p e c h = (p.see (own e c ∷ []) (h, tt)).0

  moves : {s t : Table} → Pair s t → (e : ℕ) (c : Command) → InRange (command f e c) → whole_copy c ≡ false
      → Pair (next (command f e c) s) (next (command f e c) t)
  moves {s} {t} p e c h w = record {
    left = step-standing laws (command f e c) s h p.left;
    right = step-standing laws (command f e c) t h p.right;
    see = λ xs fit.
        let r = (p.see (own e c ∷ xs) (h, fit)).1 in
        let over : Table → Bool = λ u. eqb (answer (command f e c) u).status insufficient_space in
        let n : ((whole_copy c && over s) || (whole_copy c && over t)) ≡ false = ap (λ (b : Bool). (b && over s) || (b && over t)) w in
        rw n at r;
  }

  hears : {s t : Table} → Pair s t → (e : ℕ) → e < 2 ^ 16 → Pair (next (notice e) s) (next (notice e) t)
  hears {s} {t} p e h = record {
    left = step-standing laws (notice e) s h p.left;
    right = step-standing laws (notice e) t h p.right;
    see = λ xs fit. (p.see (noticed e ∷ xs) (h, fit)).1;
  }

  finds : {s t : Table} → Pair s t → (k : ℕ) → fabric_of k ≡ f → find (key_is k) (view_of s).entries ≡ find (key_is k) (view_of t).entries
  finds {s} {t} p k h =
      (elim (bad_key k) as (λ b. bad_key k ≡ b → find (key_is k) (view_of s).entries ≡ find (key_is k) (view_of t).entries) [
        | true ↦ λ b. no_bad k (view_of s).entries p.left.inv.good b ∙ sym (no_bad k (view_of t).entries p.right.inv.good b)
        | false ↦ λ b.
            let q = parts f k h b in
            subst (λ (n : ℕ). find (key_is n) (view_of s).entries ≡ find (key_is n) (view_of t).entries) (sym q.is)
            (viewed_alike Yes s t p.left p.right q.e q.g q.s q.he q.hg q.hs q.plain (member_let q.g)
            (asks p q.e (view q.g q.s Yes) (hf, q.he, (q.hg, q.hs))))
      ]) refl

  tells : backward.Telling f Pair
  tells = record {
    left = λ p. p.left;
    right = λ p. p.right;
    finds = finds;
    reads = λ p. asks p 0 (info false) (hf, omega arith, tt);
    hears = hears;
    member = Yes;
    adds = λ p e h. asks p e (backward.adding Yes) (hf, h, (omega arith, omega arith, omega arith, refl, refl));
    added = λ p e h. moves p e (backward.adding Yes) (hf, h, (omega arith, omega arith, omega arith, refl, refl)) refl;
    stores = λ p e g sc he hg hs plain _. (Yes, member_let g, moves p e (store g sc Yes []) (hf, he, (hg, hs, refl)) refl);
  }

  pub agree : (s t : Table) → Standing s → Standing t → Equivalent f s t → Agree f s t
  agree s t i j see = backward.agree laws f f1 f255 Pair tells s t (record { left = i; right = j; see = see })
