-- Both passes agree, whatever the head, the records and the endpoint. Assumes nothing.
-- Where the head is sound so are the entries of the rows' table, and `notices` says it; else both refuse.
use mathlib.Core.Path.{◌≡◌, refl, sym, ap, subst, ◌∙◌}
use Prim.Native.Nat.{ℕ, zero, suc, ◌*◌, ◌^◌, ◌<◌, ◌≤◌}
use native.Mathlib.Nat.{not-suc-le-zero, le_of_suc-le-suc}
use native.Mathlib.Omega.{arith}
use mathlib.Core.Bool.{true, false, cond, ◌&&◌}
use mathlib.Core.List.{List, [], ◌∷◌, ◌++◌, map, map-append}
use lib.Dec.{leb}
use lib.ListN.{length, take, drop, replicate, get_or-replicate, length-map, take-append-drop}
use mir.Val.{Val}
use denote.Shadow.{shadow}
use denote.Array.{each}
use denote.Laws.{Is}
use denote.Struct.Laws as LL
use borrow.Author.Tests.{le-leb, leb-true}
use Rattle.words.specs.Constants.{unsound, stride}
use Rattle.words.proofs.Below.{every_intro}
use Rattle.words.proofs.Tests.{all_head, all_tail, all_more, all_none}
use Rattle.slots.specs.Slots.{key_sound, keys_sound, lengths_sound}
use Rattle.state.specs.declared.ScenesState.{ScenesState}
use Rattle.state.specs.declared.Outcome.{Outcome}
use Rattle.state.specs.Table.{Table}
use Rattle.state.specs.Answer.{Result, result_of}
use Rattle.lifecycle.specs.Lifecycle.{scenable_attribute_changed}
use Rattle.notices.specs.declared.CurrentScene.{CurrentScene}
use Rattle.notices.specs.Notice.{noticed, record_at, head_sound, fabrics_sound, Answer, answer_of, notice_all, notice_records}
use Rattle.notices.specs.Packed.{pack, Typed, entries_sound, Lends, packed}
use Rattle.notices.proofs.Packed.{same_outcome, same_refusal}
use Rattle.notices.specs.contracts.CurrentScene as T
use Rattle.notices.proofs.CurrentScene.TheLaws as T'
use Rattle.notices_run.specs.Rows.{table_for}

-- ---- the numbers of a record that a machine holds are of their types
typed : (c : CurrentScene) (vs : List Val) → Is T.the_row c vs → Typed c
typed c vs is =
    let are = LL.owed T.the_type T'.the_laws c vs is in
    record { fabric = are.0.1; endpoint = are.1.0.1; group = are.1.1.0.1; scene = are.1.1.1.0.1 }

pub all_typed : (rs : List CurrentScene) (us : List Val) → shadow (each CurrentScene (T.the_row).own_val rs us) → (i : ℕ) → i < length rs → Typed (record_at rs i)
all_typed [] us s i h = absurd (not-suc-le-zero h)
all_typed (r ∷ rs) [] s i h = absurd s
all_typed (r ∷ rs) (u ∷ us) s zero h = typed r (u ∷ []) s.0
all_typed (r ∷ rs) (u ∷ us) s (suc i) h = all_typed rs us s.1 i (le_of_suc-le-suc h)

-- ---- the rows' entries are sound
keys-sound : (n : ℕ) → n ≤ 8 → keys_sound (replicate 8 (2 ^ 40)) n ≡ true
unfolding keys_sound
keys-sound n h = every_intro _ n (λ i k. ap key_sound (get_or-replicate 8 i (2 ^ 40) 0 (omega arith)))

lengths-sound : (n : ℕ) → n ≤ 8 → lengths_sound (replicate 1032 0) n ≡ true
unfolding lengths_sound
lengths-sound n h = every_intro _ n (λ i k. ap (λ (m : ℕ). leb m 128) (get_or-replicate 1032 (i * stride) 0 0 (omega arith)))

-- ---- the records past the count stay
keeps_past : (e n : ℕ) (rs : List CurrentScene) → take n (map (noticed e) (take n rs) ++ drop n rs) ++ drop n rs ≡ map (noticed e) (take n rs) ++ drop n rs
keeps_past e zero rs = refl
keeps_past e (suc n) [] = refl
keeps_past e (suc n) (r ∷ rs) = ap (λ (l : List CurrentScene). noticed e r ∷ l) (keeps_past e n rs)

answer-past : (e : ℕ) (s : ScenesState) (rs : List CurrentScene) → let a : Answer = notice_records e s rs in take a.outcome.state.recorded a.records ++ drop s.recorded rs ≡ a.records
unfolding notice_records notice_all
answer-past e s rs =
    elim (head_sound s (length rs) && fabrics_sound rs s.recorded) as (λ b. let a : Answer = cond b (notice_all e s rs) (answer_of (record { status = unsound; save = false; state = s }) rs) in
    take a.outcome.state.recorded a.records ++ drop s.recorded rs ≡ a.records) [ true ↦ keeps_past e s.recorded rs | false ↦ take-append-drop s.recorded rs ]

module _ (e : ℕ) (s : ScenesState) (rs : List CurrentScene) (four : length rs ≡ 4) (all : (i : ℕ) → i < length rs → Typed (record_at rs i)) where
  abbrev t : Table
  t = table_for s (map pack rs)

  abbrev past : List ℕ
  past = map pack (drop s.recorded rs)

  lends : Lends t rs past
  lends = record {
    typed = all;
    long = length-map rs pack;
    words = ap (map pack) (sym (take-append-drop s.recorded rs)) ∙ map-append pack (take s.recorded rs) (drop s.recorded rs);
  }

  -- where the head is sound, so are the entries
  entries : head_sound s (length rs) ≡ true → entries_sound t ≡ true
  unfolding head_sound entries_sound
  entries head =
      let h1 = all_tail _ _ head in
      let h2 = all_tail _ _ h1 in
      let h3 = all_tail _ _ h2 in
      let a = leb-true s.entries s.size (all_head _ _ h1) in
      let b = leb-true s.size (length rs) (all_head _ _ h3) in
      all_more _ _ (le-leb s.size 8 (omega arith)) (all_more _ _ (le-leb s.size 8 (omega arith)) (all_more _ _ (le-leb (s.size * stride) 1032 (omega arith))
      (all_more _ _ (keys-sound s.entries (omega arith)) (all_more _ _ (lengths-sound s.entries (omega arith)) all_none))))

  same : packed t.slots past (notice_records e s rs) ≡ scenable_attribute_changed e t
  same =
      (elim (head_sound s (length rs)) as (λ b. head_sound s (length rs) ≡ b → packed t.slots past (notice_records e s rs) ≡ scenable_attribute_changed e t) [
        | true ↦ λ h. same_outcome e t rs past (entries h) lends
        | false ↦ λ h. same_refusal e t rs past lends h
      ]) refl

  -- what the passes answer is the same, and so are the words that they leave
  pub agreement : (o p : Outcome) (after : List CurrentScene) (words : List ℕ) → answer_of o after ≡ notice_records e s rs
      → result_of p.status p.save (table_for p.state words) ≡ scenable_attribute_changed e t → (o ≡ p) × (map pack after ≡ words)
  agreement o p after words answered noticed =
      let results : packed t.slots past (answer_of o after) ≡ result_of p.status p.save (table_for p.state words) = ap (packed t.slots past) answered ∙ same ∙ sym noticed in
      let kept : take o.state.recorded after ++ drop s.recorded rs ≡ after =
      subst (λ (a : Answer). take a.outcome.state.recorded a.records ++ drop s.recorded rs ≡ a.records) (sym answered) (answer-past e s rs) in (
        ap (λ (r : Result). record { status = r.status; save = r.save; state = r.table.state }) results,
        ap (map pack) (sym kept) ∙ map-append pack (take o.state.recorded after) (drop s.recorded rs) ∙ ap (λ (r : Result). r.table.records) results,
      )
