-- What is known of an image that was read out of bytes: how many entries and records it has, and that they are such as a table may hold.
-- Assumes nothing.
use Prim.Native.Nat.{ℕ, zero, suc, ◌-◌, ◌≤◌, ◌<◌}
use mathlib.Core.Path.{◌≡◌, refl, ap, subst}
use mathlib.Core.Bool.{Bool, true, false, cond}
use mathlib.Core.List.{List, []}
use native.Mathlib.Omega.{arith}
use lib.Dec.{leb}
use lib.ListN.{length, get_or, drop, length-take}
use borrow.Author.Tests.{leb-true, le-leb, lt-ltb}
use Rattle.tlv.specs.Passing.{reading}
use Rattle.std.proofs.Common.{Option, Some, None}
use Rattle.words.specs.Constants.{max_fields}
use Rattle.words.proofs.Tests.{and_intro}
use Rattle.slots.specs.Slots.{SceneEntry, key_sound}
use Rattle.records.specs.Records.{record_sound}
use Rattle.tlv.specs.declared.members.Step.TheVariants.{Member, End, Damaged}
use Rattle.tlv.specs.Members.{member_at, stepping}
use Rattle.std.proofs.lemmas.Option.{none-some, same_Some}
use Rattle.image_reader.specs.declared.Arrays.{Arrays}
use Rattle.image_reader.specs.Entries.{entry_at, entry_in, scene_entry, record_at}
use Rattle.image_reader.specs.Image.{prepended, members_read, entries_from, records_from, at_most, joined, arrays_in, Image, image_in}
use Rattle.image_reader.proofs.Bounds.{entry_bounds, record_bounds}
use Rattle.image_load.proofs.Restoring.{each, short}

-- ---- all that were read

module _ {A : Type 0} (read : ℕ → Option A) (p : A → Bool) (b : List ℕ) (one : (at : ℕ) (x : A) → read at ≡ Some x → p x ≡ true) where
  -- a test that each value read passes holds of all of them
  members_each : (k at : ℕ) (xs : List A) → members_read read b k at ≡ Some xs → each p xs ≡ true
  unfolding members_read each
  members_each zero at xs = λ e. subst (λ (ys : List A). each p ys ≡ true) (same_Some _ _ e) refl
  members_each (suc k) at xs =
      elim (member_at b at) as (λ r. stepping r (Some []) None (λ h n. prepended (read at) (members_read read b k n)) ≡ Some xs → each p xs ≡ true) [
        | Member h n ↦
            elim (read at) as (λ r. read at ≡ r → prepended r (members_read read b k n) ≡ Some xs → each p xs ≡ true) [
              | None ↦ λ q e. absurd (none-some _ e)
              | Some x ↦ λ q.
                  elim (members_read read b k n) as (λ r. members_read read b k n ≡ r → prepended (Some x) r ≡ Some xs → each p xs ≡ true) [
                    | None ↦ λ w e. absurd (none-some _ e)
                    | Some ys ↦ λ w e.
                        subst (λ (zs : List A). each p zs ≡ true) (same_Some _ _ e) (and_intro (p x) (each p ys) (one at x q) (members_each k n ys w))
                  ] refl
            ] refl
        | End ↦ λ e. subst (λ (ys : List A). each p ys ≡ true) (same_Some _ _ e) refl
        | Damaged ↦ λ e. absurd (none-some _ e)
      ]

-- ---- an image

pub record Decoded (size : ℕ) (i : Image) : Type 0 where
  pub entries_few : length i.entries ≤ size
  pub records_few : length i.records ≤ size
  pub fields-short : each short i.entries ≡ true
  pub keys-sound : each (λ (e : SceneEntry). key_sound e.key) i.entries ≡ true
  pub records-sound : each record_sound i.records ≡ true

module _ (b : List ℕ) (bytes : (i : ℕ) → get_or b i 0 < 256) where
  entry-short : (at : ℕ) (e : SceneEntry) → entry_in b (entry_at b at) ≡ Some e → short e ≡ true
  entry-short at e =
      elim (entry_at b at) as (λ r. entry_at b at ≡ r → entry_in b r ≡ Some e → short e ≡ true) [
        | Some s ↦ λ q w.
            let h = entry_bounds b bytes at s q in
            subst (λ (x : SceneEntry). short x ≡ true) (same_Some _ _ w)
            (le-leb (length (scene_entry b s).fields) max_fields (omega (arith, h.short, length-take (s.to - s.from) (drop s.from b))))
        | None ↦ λ q w. absurd (none-some _ w)
      ] refl

  entry-sound : (at : ℕ) (e : SceneEntry) → entry_in b (entry_at b at) ≡ Some e → key_sound e.key ≡ true
  entry-sound at e =
      elim (entry_at b at) as (λ r. entry_at b at ≡ r → entry_in b r ≡ Some e → key_sound e.key ≡ true) [
        | Some s ↦ λ q w.
            let h = (entry_bounds b bytes at s q).key in
            subst (λ (x : SceneEntry). key_sound x.key ≡ true) (same_Some _ _ w) (and_intro _ _ (lt-ltb _ _ h.below) (le-leb _ _ h.fabric))
        | None ↦ λ q w. absurd (none-some _ w)
      ] refl

  word_sound : (at word : ℕ) → record_at b at ≡ Some word → record_sound word ≡ true
  word_sound at word q =
      let h = record_bounds b bytes at word q in
      and_intro _ _ (lt-ltb _ _ h.below) (le-leb _ _ h.fabric)

  -- both arrays were read, and neither has too many members
  parts : (size : ℕ) (es : Option (List SceneEntry)) (rs : Option (List ℕ)) (i : Image) → joined (at_most size es) (at_most size rs) ≡ Some i
      → (es ≡ Some i.entries) × (rs ≡ Some i.records) × (length i.entries ≤ size) × (length i.records ≤ size)
  parts size None rs i = λ e. absurd (none-some _ e)
  parts size (Some es) None i =
      elim (leb (length es) size) as (λ a. joined (cond a (Some es) None) None ≡ Some i
      → (Some es ≡ Some i.entries) × (None ≡ Some i.records) × (length i.entries ≤ size) × (length i.records ≤ size)) [
        | true ↦ λ e. absurd (none-some _ e)
        | false ↦ λ e. absurd (none-some _ e)
      ]
  parts size (Some es) (Some rs) i =
      elim (leb (length es) size) as (λ a. leb (length es) size ≡ a → joined (cond a (Some es) None) (cond (leb (length rs) size) (Some rs) None) ≡ Some i
      → (Some es ≡ Some i.entries) × (Some rs ≡ Some i.records) × (length i.entries ≤ size) × (length i.records ≤ size)) [
        | true ↦ λ p.
            elim (leb (length rs) size) as (λ c. leb (length rs) size ≡ c → joined (Some es) (cond c (Some rs) None) ≡ Some i
            → (Some es ≡ Some i.entries) × (Some rs ≡ Some i.records) × (length i.entries ≤ size) × (length i.records ≤ size)) [
              | true ↦ λ q e.
                  let s = same_Some _ _ e in (
                    ap (λ (x : Image). Some x.entries) s,
                    ap (λ (x : Image). Some x.records) s,
                    subst (λ (x : Image). length x.entries ≤ size) s (leb-true (length es) size p),
                    subst (λ (x : Image). length x.records ≤ size) s (leb-true (length rs) size q),
                  )
              | false ↦ λ q e. absurd (none-some _ e)
            ] refl
        | false ↦ λ p e. absurd (none-some _ e)
      ] refl

  pub image_decoded : (size : ℕ) (i : Image) → image_in size b ≡ Some i → Decoded size i
  unfolding image_in
  image_decoded size i =
      let from : Arrays → Option Image = λ a. joined (at_most size (entries_from b a.entries)) (at_most size (records_from b a.records)) in
      elim (arrays_in b) as (λ a. reading a None from ≡ Some i → Decoded size i) [
        | Some a ↦ λ e.
            let h = parts size (entries_from b a.entries) (records_from b a.records) i e in
            record {
              entries_few = h.2;
              records_few = h.3;
              fields-short = members_each _ short b entry-short (suc (length b)) a.entries i.entries h.0;
              keys-sound = members_each _ (λ (x : SceneEntry). key_sound x.key) b entry-sound (suc (length b)) a.entries i.entries h.0;
              records-sound = members_each _ record_sound b word_sound (suc (length b)) a.records i.records h.1;
            }
        | None ↦ λ e. absurd (none-some _ e)
      ]
