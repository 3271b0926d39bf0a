-- The turns of a pass over lent records (`specs/Pass.antt`) lead to what the call answers (`specs/Notice.antt`). Assumes nothing.
--     Runs answer p l     from the pass p, over the records l, turns of the loop lead to the answer
--     runs                so they do from the start
use mathlib.Core.Path.{◌≡◌, refl, sym, ap, subst, ◌∙◌}
use Prim.Native.Nat.{ℕ, zero, suc, ◌+◌, ◌-◌, ◌<◌, ◌≤◌}
use native.Mathlib.Nat.{not-suc-le-zero, le_of_suc-le-suc}
use native.Mathlib.Numerals.{add-one}
use native.Mathlib.Omega.{arith}
use mathlib.Core.Bool.{Bool, true, false, cond, ◌&&◌, false≢true}
use mathlib.Core.List.{List, [], ◌∷◌, ◌++◌, map}
use lib.Dec.{eqb, ltb}
use lib.ListN.{length, set, take, drop}
use lib.Seq.{set-get_or}
use borrow.Author.Tests.{eqb-true, eqb-false, le-leb, lt-leb, leb-true, lt-ltb, le-ltb}
use Rattle.std.specs.Prelude.{Ok, Err}
use Rattle.words.specs.Constants.{success}
use Rattle.words.specs.declared.Refusal.TheVariants.{Unsound}
use Rattle.words.specs.Below.{any_below, every_below}
use Rattle.words.proofs.Below.{every_more, every_fails}
use Rattle.words.proofs.Tests.{all_head, all_tail, and_false}
use Rattle.state.specs.declared.ScenesState.{ScenesState}
use Rattle.state.specs.Table.{bump_if}
use Rattle.notices.specs.declared.CurrentScene.{CurrentScene}
use Rattle.notices.specs.declared.Pass.{Pass}
use Rattle.notices.specs.Notice.{hits, noticed, record_at, head_sound, fabrics_sound, Answer, answer_of, notice_all, notice_records}
use Rattle.notices.specs.Pass.{pass_of, begun, visit, outcome_of}

pub data Runs (answer : Answer) : Pass → List CurrentScene → Type 0 where
  over : (p : Pass) (l : List CurrentScene) → ltb p.at p.state.recorded ≡ false → answer_of (outcome_of p) l ≡ answer → Runs answer p l
  turn : (p : Pass) (l : List CurrentScene) → p.at < p.state.recorded → p.at < length l
      → Runs answer (visit p (record_at l p.at)).pass (set l p.at (visit p (record_at l p.at)).«record») → Runs answer p l

-- before the count a turn leads on, and from there on the answer stands
pub runs_on : {answer : Answer} {p : Pass} {l : List CurrentScene} → Runs answer p l → p.at < p.state.recorded
    → (p.at < length l) × Runs answer (visit p (record_at l p.at)).pass (set l p.at (visit p (record_at l p.at)).«record»)
runs_on (over p l e answered) h = absurd (false≢true (sym e ∙ lt-ltb _ _ h))
runs_on (turn p l h k r) _ = (k, r)

pub runs_end : {answer : Answer} {p : Pass} {l : List CurrentScene} → Runs answer p l → p.state.recorded ≤ p.at → answer_of (outcome_of p) l ≡ answer
runs_end (over p l e answered) h = answered
runs_end (turn p l k _ _) h = absurd (omega arith)

-- how many turns are left at most: those of this round, and those of the second while the first runs
abbrev pub left_of : Pass → ℕ
left_of p = (p.state.recorded - p.at) + cond p.clears 0 p.state.recorded

-- a pass in its first round, at a record: whether it has no fabric, and whether one follows
looked_fewer : (p : Pass) (a b : Bool) → p.at < p.state.recorded
    → left_of (cond a (pass_of p.state p.endpoint (Err Unsound) false p.changed p.state.recorded)
    (cond b (pass_of p.state p.endpoint p.answer false p.changed (p.at + 1)) (pass_of p.state p.endpoint p.answer true p.changed 0)))
    < (p.state.recorded - p.at) + p.state.recorded
looked_fewer p true b h = omega arith
looked_fewer p false true h = omega arith
looked_fewer p false false h = omega arith

pub fewer : (p : Pass) (c : CurrentScene) → p.at < p.state.recorded → left_of (visit p c).pass < left_of p
fewer p c h =
    (elim p.clears as (λ b. p.clears ≡ b → left_of (visit p c).pass < left_of p) [
      | true ↦ λ e. rw e (omega arith)
      | false ↦ λ e. rw e (looked_fewer p (eqb c.fab_idx 0) (ltb (p.at + 1) p.state.recorded) h)
    ]) refl

-- ---- the records, where the first i are noticed
module _ (e : ℕ) where
  abbrev pub firsts : ℕ → List CurrentScene → List CurrentScene
  firsts i xs = map (noticed e) (take i xs) ++ drop i xs

  firsts_length : (i : ℕ) (xs : List CurrentScene) → length (firsts i xs) ≡ length xs
  firsts_length zero xs = refl
  firsts_length (suc i) [] = refl
  firsts_length (suc i) (x ∷ xs) = ap suc (firsts_length i xs)

  -- the next one is as it was
  firsts_next : (i : ℕ) (xs : List CurrentScene) → record_at (firsts i xs) i ≡ record_at xs i
  firsts_next zero xs = refl
  firsts_next (suc i) [] = refl
  firsts_next (suc i) (x ∷ xs) = firsts_next i xs

  firsts_more : (i : ℕ) (xs : List CurrentScene) → i < length xs → set (firsts i xs) i (noticed e (record_at xs i)) ≡ firsts (suc i) xs
  firsts_more i [] h = absurd (not-suc-le-zero h)
  firsts_more zero (x ∷ xs) h = refl
  firsts_more (suc i) (x ∷ xs) h = ap (λ (l : List CurrentScene). noticed e x ∷ l) (firsts_more i xs (le_of_suc-le-suc h))

along : {answer : Answer} {p q : Pass} {l m : List CurrentScene} → Runs answer q m → p ≡ q → l ≡ m → Runs answer p l
along {answer} {p} {q} {l} {m} r e f = subst (λ (x : Pass). Runs answer x l) (sym e) (subst (λ (y : List CurrentScene). Runs answer q y) (sym f) r)

module _ (e : ℕ) (s : ScenesState) (xs : List CurrentScene) where
  abbrev answer : Answer
  answer = notice_records e s xs

  -- whether one of the first i changed
  abbrev changed : ℕ → Bool
  changed i = any_below (λ j. hits e (record_at xs j)) i

  -- the first round at i, and the second
  abbrev looking : ℕ → Pass
  looking i = pass_of s e (Ok tt) false false i

  abbrev clearing : ℕ → Pass
  clearing i = pass_of s e (Ok tt) true (changed i) i

  refuses : (b : Bool) → (head_sound s (length xs) && fabrics_sound xs s.recorded) ≡ false → answer_of (outcome_of (pass_of s e (Err Unsound) b false s.recorded)) xs ≡ answer
  unfolding notice_records
  refuses b h = rw h

  module _ (head : head_sound s (length xs) ≡ true) where
    in_slice : s.recorded ≤ length xs
    unfolding head_sound
    in_slice =
        let h1 = all_tail _ _ head in
        let h2 = all_tail _ _ h1 in
        let h3 = all_tail _ _ h2 in
        let a = leb-true s.recorded s.size (all_head _ _ h2) in
        let b = leb-true s.size (length xs) (all_head _ _ h3) in
        omega arith

    module _ (fabrics : fabrics_sound xs s.recorded ≡ true) where
      answers : (b : Bool) (at : ℕ) → answer_of (outcome_of (pass_of s e (Ok tt) b (changed s.recorded) at)) (firsts e s.recorded xs) ≡ answer
      unfolding notice_records notice_all
      answers b at = rw (head, fabrics)

      -- the second round, with t records left
      clears : (t i : ℕ) → i + t ≡ s.recorded → Runs answer (clearing i) (firsts e i xs)
      unfolding any_below
      clears zero i h =
          let at_end_lem : i ≡ s.recorded = omega arith in
          subst (λ (j : ℕ). Runs answer (clearing j) (firsts e j xs)) (sym at_end_lem) (over _ _ (le-ltb s.recorded s.recorded (omega arith)) (answers true s.recorded))
      clears (suc t) i h =
          let small : i < s.recorded = omega arith in
          let next : record_at (firsts e i xs) i ≡ record_at xs i = firsts_next e i xs in
          turn (clearing i) (firsts e i xs) small (rw (firsts_length e i xs) (omega (arith, in_slice)))
          (along (clears t (suc i) (omega arith)) (rw (next, add-one i)) (rw next (firsts_more e i xs (omega (arith, in_slice)))))

    -- the first round, at a record without a fabric
    stops : (i : ℕ) → i < s.recorded → eqb (record_at xs i).fab_idx 0 ≡ true → Runs answer (looking i) xs
    unfolding fabrics_sound
    stops i small none =
        let zero-fabric : (record_at xs i).fab_idx ≡ 0 = eqb-true _ _ none in
        let unsound-one : fabrics_sound xs s.recorded ≡ false = every_fails _ s.recorded i small (lt-leb 1 (record_at xs i).fab_idx (omega arith)) in
        turn (looking i) xs small (omega (arith, in_slice))
        (along (over (pass_of s e (Err Unsound) false false s.recorded) xs (le-ltb s.recorded s.recorded (omega arith)) (refuses false (rw (unsound-one, and_false)))) (rw none) (set-get_or xs i _))

    sound_more : (i : ℕ) → fabrics_sound xs i ≡ true → eqb (record_at xs i).fab_idx 0 ≡ false → fabrics_sound xs (i + 1) ≡ true
    unfolding fabrics_sound
    sound_more i so_far some =
        let other : (record_at xs i).fab_idx ≡ 0 → ⊥ = eqb-false _ _ some in
        every_more _ i so_far (le-leb 1 (record_at xs i).fab_idx (omega (arith, other)))

    -- the first round, with t + 1 records left
    looks : (t i : ℕ) → i + suc t ≡ s.recorded → fabrics_sound xs i ≡ true → Runs answer (looking i) xs
    unfolding any_below
    looks zero i h so_far =
        (elim (eqb (record_at xs i).fab_idx 0) as (λ b. eqb (record_at xs i).fab_idx 0 ≡ b → Runs answer (looking i) xs) [
          | true ↦ λ none. stops i (omega arith) none
          | false ↦ λ some.
              let last : i + 1 ≡ s.recorded = omega arith in
              turn (looking i) xs (omega arith) (omega (arith, in_slice))
              (along (clears (rw last at (sound_more i so_far some)) s.recorded 0 (omega arith)) (rw (some, le-ltb (i + 1) s.recorded (omega arith))) (set-get_or xs i _))
        ]) refl
    looks (suc t) i h so_far =
        (elim (eqb (record_at xs i).fab_idx 0) as (λ b. eqb (record_at xs i).fab_idx 0 ≡ b → Runs answer (looking i) xs) [
          | true ↦ λ none. stops i (omega arith) none
          | false ↦ λ some.
              turn (looking i) xs (omega arith) (omega (arith, in_slice))
              (along (looks t (suc i) (omega arith) (rw add-one at (sound_more i so_far some))) (rw (some, lt-ltb (i + 1) s.recorded (omega arith), add-one i)) (set-get_or xs i _))
        ]) refl

    -- from the start: where there is no record, the loop is not entered
    started : (n : ℕ) → s.recorded ≡ n → Runs answer (looking 0) xs
    unfolding fabrics_sound every_below any_below
    started zero none =
        over _ xs (le-ltb 0 s.recorded (omega arith))
        (subst (λ (n : ℕ). answer_of (record { status = success; save = false; state = bump_if (changed n) s }) (firsts e n xs) ≡ answer) none
        (answers (subst (λ (n : ℕ). fabrics_sound xs n ≡ true) (sym none) refl) false 0))
    started (suc t) some = looks t 0 (omega arith) refl

pub runs : (e : ℕ) (s : ScenesState) (xs : List CurrentScene) → Runs (notice_records e s xs) (begun s (length xs) e) xs
runs e s xs =
    (elim (head_sound s (length xs)) as (λ b. head_sound s (length xs) ≡ b → Runs (notice_records e s xs) (cond b (pass_of s e (Ok tt) false false 0) (pass_of s e (Err Unsound) false false s.recorded)) xs) [
      | true ↦ λ h. started e s xs h s.recorded refl
      | false ↦ λ h. over _ xs (le-ltb s.recorded s.recorded (omega arith)) (refuses e s xs false (rw h))
    ]) refl
