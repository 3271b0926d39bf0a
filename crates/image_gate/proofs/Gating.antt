-- The laws of the gate: what the arrays say by themselves is what the image says, and what a passed image has. Assumes nothing.
use Prim.Native.Nat.{ℕ, zero, suc, ◌≤◌}
use mathlib.Core.Path.{◌≡◌, refl, ap, ap₂, ◌∙◌}
use mathlib.Core.Bool.{Bool, true, false, cond}
use mathlib.Core.List.{List, [], map}
use native.Mathlib.Omega.{arith}
use lib.Dec.{leb}
use lib.ListN.{length, length-map}
use borrow.Author.Tests.{leb-true}
use Rattle.std.proofs.Common.{Option, Some, None}
use Rattle.words.specs.Constants.{success, bad_image, clashing_image}
use Rattle.slots.specs.Slots.{SceneEntry}
use Rattle.tlv.specs.declared.members.Step.TheVariants.{Member, End, Damaged}
use Rattle.tlv.specs.Members.{member_at, stepping}
use Rattle.image_reader.specs.declared.Slot.{Slot}
use Rattle.image_reader.specs.Entries.{entry_at, entry_in}
use Rattle.image_reader.specs.Image.{prepended, members_read, entries_from, records_from, at_most, joined}
use Rattle.image_gate.specs.Verdict.{key_clashes, keys_clash, record_clashes, records_clash, verdict}
use Rattle.image_gate.specs.Deciding.{key_in, keys_from, judged, first_fault, image_from, image_with, readable, listed}

-- ---- the key words of entries

abbrev key_of_entry : SceneEntry → ℕ
key_of_entry e = e.key

abbrev keys_in : Option (List SceneEntry) → Option (List ℕ)
keys_in None = None
keys_in (Some es) = Some (map key_of_entry es)

module _ (b : List ℕ) where
  front_keys : (e : Option Slot) (r : Option (List SceneEntry)) → prepended (key_in e) (keys_in r) ≡ keys_in (prepended (entry_in b e) r)
  front_keys (Some s) None = refl
  front_keys (Some s) (Some es) = refl
  front_keys None r = refl

  read-keys : (k at : ℕ) → members_read (λ i. key_in (entry_at b i)) b k at ≡ keys_in (members_read (λ i. entry_in b (entry_at b i)) b k at)
  unfolding members_read
  read-keys zero at = refl
  read-keys (suc k) at =
      elim (member_at b at) as (λ r.
      stepping r (Some []) None (λ h next. prepended (key_in (entry_at b at)) (members_read (λ i. key_in (entry_at b i)) b k next))
      ≡ keys_in (stepping r (Some []) None (λ h next. prepended (entry_in b (entry_at b at)) (members_read (λ i. entry_in b (entry_at b i)) b k next)))) [
        | Member h n ↦
            ap (prepended (key_in (entry_at b at))) (read-keys k n) ∙ front_keys (entry_at b at) (members_read (λ i. entry_in b (entry_at b i)) b k n)
        | End ↦ refl
        | Damaged ↦ refl
      ]

-- ---- 9 and 10

-- by whether both arrays are few enough, and whether each clashes
fault_cases : (es : List SceneEntry) (rs : List ℕ) (a r k c : Bool) → keys_clash (map key_of_entry es) ≡ k → records_clash rs ≡ c
    → first_fault (cond a (Some k) None) (cond r (Some c) None) ≡ verdict (joined (cond a (Some es) None) (cond r (Some rs) None))
unfolding first_fault verdict
fault_cases es rs true true k c p q = rw (p, q)
fault_cases es rs true false k c p q = refl
fault_cases es rs false r k c p q = refl

judged-keys : (size : ℕ) (es : List SceneEntry)
    → judged key_clashes size (Some (map key_of_entry es)) ≡ cond (leb (length es) size) (Some (keys_clash (map key_of_entry es))) None
unfolding judged keys_clash
judged-keys size es = ap (λ (n : ℕ). cond (leb n size) (Some (keys_clash (map key_of_entry es))) None) (length-map es key_of_entry)

judged-records : (size : ℕ) (rs : List ℕ) → judged record_clashes size (Some rs) ≡ cond (leb (length rs) size) (Some (records_clash rs)) None
unfolding judged records_clash
judged-records size rs = refl

gate_judged : (size : ℕ) (es : Option (List SceneEntry)) (rs : Option (List ℕ))
    → first_fault (judged key_clashes size (keys_in es)) (judged record_clashes size rs) ≡ verdict (joined (at_most size es) (at_most size rs))
unfolding judged first_fault verdict
gate_judged size None rs = refl
gate_judged size (Some es) None =
    ap (λ (o : Option Bool). first_fault o None) (judged-keys size es)
    ∙ fault_cases es [] (leb (length es) size) false (keys_clash (map key_of_entry es)) (records_clash []) refl refl
gate_judged size (Some es) (Some rs) =
    ap₂ first_fault (judged-keys size es) (judged-records size rs)
    ∙ fault_cases es rs (leb (length es) size) (leb (length rs) size) (keys_clash (map key_of_entry es)) (records_clash rs) refl refl

-- what the scans found, put together
pub gate_answers : (size : ℕ) (b : List ℕ) (first second : ℕ) (e s : Option Bool)
    → e ≡ judged key_clashes size (keys_from b first) → s ≡ judged record_clashes size (records_from b second)
    → first_fault e s ≡ verdict (image_from size b first second)
gate_answers size b first second e s p w =
    ap₂ first_fault (p ∙ ap (judged key_clashes size) (read-keys b (suc (length b)) first)) w
    ∙ gate_judged size (entries_from b first) (records_from b second)

-- ---- an image that passed

pub record Passed (size : ℕ) (es : Option (List SceneEntry)) (rs : Option (List ℕ)) : Type 0 where
  pub entries-read : readable es ≡ true
  pub entries_few : length (listed es) ≤ size
  pub records-read : readable rs ≡ true
  pub records_few : length (listed rs) ≤ size
  pub image : joined (at_most size es) (at_most size rs) ≡ Some (image_with (listed es) (listed rs))

bad : {A : Type 0} → verdict None ≡ success → A
unfolding verdict
bad e = let w : ⊥ = omega arith in absurd w

pub passed : (size : ℕ) (es : Option (List SceneEntry)) (rs : Option (List ℕ)) → verdict (joined (at_most size es) (at_most size rs)) ≡ success → Passed size es rs
passed size None rs e = bad e
passed size (Some es) None e =
    (elim (leb (length es) size) as (λ a. verdict (joined (cond a (Some es) None) None) ≡ success → Passed size (Some es) None) [
      | true ↦ λ e. bad e
      | false ↦ λ e. bad e
    ]) e
passed size (Some es) (Some rs) e =
    (elim (leb (length es) size) as (λ a. leb (length es) size ≡ a
    → verdict (joined (cond a (Some es) None) (cond (leb (length rs) size) (Some rs) None)) ≡ success → Passed size (Some es) (Some rs)) [
      | true ↦ λ p.
          (elim (leb (length rs) size) as (λ r. leb (length rs) size ≡ r
          → verdict (joined (Some es) (cond r (Some rs) None)) ≡ success → Passed size (Some es) (Some rs)) [
            | true ↦ λ q e. record {
              entries-read = refl;
              entries_few = leb-true (length es) size p;
              records-read = refl;
              records_few = leb-true (length rs) size q;
              image = rw (p, q) refl;
            }
            | false ↦ λ q e. bad e
          ]) refl
      | false ↦ λ p e. bad e
    ]) refl e
