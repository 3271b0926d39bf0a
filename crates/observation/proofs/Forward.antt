-- From the four matters to equivalence: two tables that agree have views that are alike, and such tables answer every list alike.
-- Assumes the laws, as an argument.
use Prim.Native.Nat.{ℕ, ◌^◌, ◌<◌}
use native.Mathlib.Omega.{arith}
use mathlib.Core.Path.{◌≡◌, refl, sym, ap, ◌∙◌, subst₂}
use mathlib.Core.Bool.{Bool, true, false, ◌&&◌, ◌||◌}
use mathlib.Core.List.{List, [], ◌∷◌}
use lib.ListN.{length}
use lib.Dec.{eqb, ltb}
use Rattle.words.specs.Constants.{insufficient_space}
use Rattle.words.proofs.Tests.{and_false}
use Rattle.slots.specs.Slots.{SceneEntry}
use Rattle.records.specs.declared.Scope.TheVariants.{Endpoint}
use Rattle.state.specs.Table.{Table, entries_in}
use Rattle.state.specs.Sound.{sound}
use Rattle.state.specs.Capacity.{share_mode}
use Rattle.observation.specs.Lists.{count, keep}
use Rattle.observation.specs.Calls.{Command, command, notice, answer, next, CommandInRange}
use Rattle.observation.specs.Equivalence.{Event, own, noticed, whole_copy, unless, Alike, AllInRange, mine, Agree}
use Rattle.observation.proofs.Changes.{view_of}
use Rattle.observation.proofs.Effects.{Seen, sees}
use Rattle.observation.proofs.Laws.{Laws}
use Rattle.observation.proofs.Counts.{count_ext, count-keep}
use Rattle.observation.proofs.Choices.{or_none}
use Rattle.observation.proofs.Views.{records-length}
use Rattle.observation.proofs.ActsReads.{places}
use Rattle.observation.proofs.Simulation.{Within, Sim, sim_invalidated, endpoint-seen}
use Rattle.observation.proofs.Order.{perm_often}
use Rattle.observation.proofs.Respond.{Kept}
use Rattle.observation.proofs.Reach.{lawful, Standing, step-standing}

module _ (laws : Laws) where
  pub step_sim : (f e : ℕ) (c : Command) (s t : Table) → f < 2 ^ 8 → e < 2 ^ 16 → CommandInRange c → Standing s → Standing t → Sim f (view_of s) (view_of t)
      → Kept f c (sees (command f e c) s) (sees (command f e c) t)
  step_sim f e c s t hf he hc i j a =
      let l = lawful laws f e c hf he hc in
      subst₂ (Kept f c) (sym (l.law s i.intact)) (sym (l.law t j.intact)) (l.responds.alike (view_of s) (view_of t) i.inv j.inv a)

  pub heard : (f e : ℕ) (s t : Table) → e < 2 ^ 16 → Standing s → Standing t → Sim f (view_of s) (view_of t) → Sim f (view_of (next (notice e) s)) (view_of (next (notice e) t))
  heard f e s t he i j a =
      subst₂ (λ (o o' : Seen). Sim f o.1 o'.1) (sym ((laws.events s i.intact).notice_acts e he)) (sym ((laws.events t j.intact).notice_acts e he))
      (sim_invalidated f (Endpoint e) (view_of s) (view_of t) (endpoint-seen e) a)

  pub alike : (f : ℕ) (xs : List Event) (s t : Table) → AllInRange f xs → Standing s → Standing t → Sim f (view_of s) (view_of t) → Alike f xs s t
  alike f [] s t h i j a = tt
  alike f (own e c ∷ xs) s t h i j a =
      let k = step_sim f e c s t h.0.0 h.0.1 h.0.2 i j a in
      let es = whole_copy c && eqb (answer (command f e c) s).status insufficient_space in
      let et = whole_copy c && eqb (answer (command f e c) t).status insufficient_space in (
        k.same,
        (elim (es || et) as (λ b. (es || et) ≡ b → unless b (Alike f xs (next (command f e c) s) (next (command f e c) t))) [
          | true ↦ λ _. tt
          | false ↦ λ n.
              alike f xs (next (command f e c) s) (next (command f e c) t) h.1 (step-standing laws (command f e c) s h.0 i) (step-standing laws (command f e c) t h.0 j)
              (k.onward (or_none es et n).0)
        ]) refl,
      )
  alike f (noticed e ∷ xs) s t h i j a = (
    tt,
    alike f xs (next (notice e) s) (next (notice e) t) h.1 (step-standing laws (notice e) s h.0 i) (step-standing laws (notice e) t h.0 j)
        (heard f e s t h.0 i j a),
  )

-- ---- the four matters make a simulation

own-count : (f : ℕ) (q : SceneEntry → Bool) → Within f q → (es : List SceneEntry) → count q es ≡ count q (keep (mine f) es)
own-count f q w es =
    count_ext q (λ x. mine f x && q x) (λ x.
    (elim (q x) as (λ b. q x ≡ b → b ≡ (mine f x && b)) [ true ↦ λ e. sym (ap (λ (b : Bool). b && true) (w x e)) | false ↦ λ _. sym (and_false (mine f x)) ]) refl) es
    ∙ sym (count-keep q (mine f) es)

pub sim_of : (f : ℕ) (s t : Table) → Standing s → Standing t → s.state.size ≡ t.state.size → share_mode s.state ≡ share_mode t.state → Agree f s t
    → Sim f (view_of s) (view_of t)
unfolding view_of
sim_of f s t i j z m a =
    let fits : (u : Table) → sound u ≡ true → ltb (length (view_of u).records) (view_of u).size ≡ ltb u.state.recorded u.state.size =
    λ u S. ap (λ (n : ℕ). ltb n u.state.size) (records-length u S) in
    record {
      size = z;
      share = m;
      places = sym (places f s) ∙ a.places ∙ places f t;
      scenes = λ q w. own-count f q w (entries_in s) ∙ perm_often a.scenes q ∙ sym (own-count f q w (entries_in t));
      recorded = a.recorded;
      one_more = λ n h. fits s i.intact ∙ a.one_more n (omega (arith, h, places f s)) ∙ sym (fits t j.intact);
    }
