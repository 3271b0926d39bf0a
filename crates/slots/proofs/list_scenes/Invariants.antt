-- `slots::list_scenes` meets its contract: the scene ids of the words so far stand in front, and the rest is as it came. Assumes nothing.
use Prim.Native.Nat.{ℕ, ◌+◌, ◌≤◌, ◌<◌}
use mathlib.Core.Path.{◌≡◌, sym, ap, ◌∙◌}
use mathlib.Core.Bool.{true, false}
use mathlib.Core.List.{List, [], ◌∷◌, ◌++◌}
use native.Mathlib.Omega.{arith}
use lib.ListN.{length, get_or, set, length-append}
use Rattle.words.specs.Words.{within, scene_of}
use Rattle.words.specs.declared.KeyRange.{KeyRange}
use Rattle.slots.specs.Slots.{count_keys, laid, scenes_inside}
use Rattle.slots.proofs.Laws.{laid_one, scenes_hit, scenes_miss, scenes-length, scenes_grow}
use Rattle.slots.proofs.list_scenes.Given as goal

pub record Turn (keys : List ℕ) (n : ℕ) (r : KeyRange) (ids₀ ids : List ℕ) (i j : ℕ) : Type 0 where
  pub fits : count_keys keys n r ≤ length ids₀
  pub behind : j ≤ i
  pub counted : j ≡ length (scenes_inside keys i r)
  pub listed : ids ≡ laid (scenes_inside keys i r) ids₀

module _ {keys : List ℕ} {n : ℕ} {r : KeyRange} {ids₀ ids : List ℕ} {i j : ℕ} (t : Turn keys n r ids₀ ids i j) where
  -- there is a place for one more
  pub room : i < n → within r (get_or keys i 0) ≡ true → j < length ids₀
  room h e =
      let fits = t.fits in
      let counted = t.counted in
      let q = ap length (scenes_hit keys r i e) ∙ length-append (scenes_inside keys i r) (scene_of (get_or keys i 0) ∷ []) in
      omega (arith, scenes_grow keys r (i + 1) n (omega arith), scenes-length keys r n)

  pub hit : i < n → within r (get_or keys i 0) ≡ true → Turn keys n r ids₀ (set ids j (scene_of (get_or keys i 0))) (i + 1) (j + 1)
  hit h e =
      let l = scenes_inside keys i r in
      let v = scene_of (get_or keys i 0) in
      let q : scenes_inside keys (i + 1) r ≡ l ++ (v ∷ []) = scenes_hit keys r i e in
      record {
        fits = t.fits;
        behind = omega (arith, t.behind);
        counted = ap (λ (k : ℕ). k + 1) t.counted ∙ sym (length-append l (v ∷ [])) ∙ ap length (sym q);
        listed = ap (λ (x : List ℕ). set x j v) t.listed ∙ laid_one l ids₀ j v (sym t.counted) (room h e) ∙ ap (λ (x : List ℕ). laid x ids₀) (sym q);
      }

  pub miss : within r (get_or keys i 0) ≡ false → Turn keys n r ids₀ ids (i + 1) j
  miss e =
      let q = scenes_miss keys r i e in
      record {
        fits = t.fits;
        behind = omega (arith, t.behind);
        counted = t.counted ∙ ap length (sym q);
        listed = t.listed ∙ ap (λ (x : List ℕ). laid x ids₀) (sym q);
      }

abbrev pub invariant-loop-i : goal.invariant-loop-i
invariant-loop-i l = Turn l.keys l.n l.range l.initial.ids l.ids l.i l.j
