-- The bounds of what is read of bytes. Assumes nothing.
use Prim.Native.Nat.{ℕ, ◌+◌, ◌-◌, ◌^◌, ◌≤◌, ◌<◌}
use mathlib.Core.Path.{◌≡◌, refl, subst}
use mathlib.Core.Bool.{Bool, true, false, cond}
use mathlib.Core.List.{List}
use native.Mathlib.Omega.{arith}
use lib.Dec.{eqb, leb}
use lib.ListN.{length, get_or}
use borrow.Author.Tests.{eqb-false, leb-true}
use Rattle.tlv.specs.Passing.{reading}
use Rattle.std.proofs.Common.{Option, Some, None}
use Rattle.std.proofs.lemmas.Option.{none-some, same_Some}
use Rattle.words.specs.Constants.{max_fields}
use Rattle.words.specs.Words.{key_of, fabric_of, key_of_record}
use Rattle.tlv.specs.declared.values.Span.{Span}
use Rattle.tlv.specs.Types.{u8_type, u16_type, u32_type, struct_type}
use Rattle.tlv.specs.Values.{number_at, octets_at, inside_at}
use Rattle.tlv.specs.Members.{Found, Missing, Spoiled, found_from}
use Rattle.tlv.proofs.Says.{u8_under, u16_under, u32_under, octets_on}
use Rattle.image_reader.specs.declared.Slot.{Slot}
use Rattle.image_reader.specs.Entries.{searching, member_number, member_bool, member_octets, key_from, entry_at, record_at}

-- ---- what was gone on with

record Gone {B : Type 0} (r : Option B) (P : B → Type 0) : Type 0 where
  value : B
  said : r ≡ Some value
  so : P value

module _ {A : Type 0} {other x : A} (no : other ≡ x → ⊥) where
  gone : {B : Type 0} (r : Option B) (go : B → A) → reading r other go ≡ x → Gone r (λ v. go v ≡ x)
  gone (Some v) go e = record { value = v; said = refl; so = e }
  gone None go e = absurd (no e)

  held : (t : Bool) (a : A) → cond t a other ≡ x → (t ≡ true) × (a ≡ x)
  held true a e = (refl, e)
  held false a e = absurd (no e)

  unheld : (t : Bool) (a : A) → cond t other a ≡ x → (t ≡ false) × (a ≡ x)
  unheld true a e = absurd (no e)
  unheld false a e = (refl, e)

-- ---- members

-- a bound of what is read where a member stands is one of what the search reads
member_under : (b : List ℕ) (tag most from v bound : ℕ) → ((at : ℕ) → number_at most b at ≡ Some v → v < bound) → member_number tag most b from ≡ Some v → v < bound
unfolding member_number
member_under b tag most from v bound under =
    elim (found_from tag b from) as (λ r. searching r None (number_at most b) ≡ Some v → v < bound) [
      | Found at ↦ λ e. under at e
      | Missing ↦ λ e. absurd (none-some v e)
      | Spoiled ↦ λ e. absurd (none-some v e)
    ]

pub member-span : (b : List ℕ) (tag from : ℕ) (s : Span) → member_octets tag b from ≡ Some s → (s.from ≤ s.to) × (s.to ≤ length b)
unfolding member_octets
member-span b tag from s =
    elim (found_from tag b from) as (λ r. searching r None (octets_at b) ≡ Some s → (s.from ≤ s.to) × (s.to ≤ length b)) [
      | Found at ↦ λ e. octets_on b at s e
      | Missing ↦ λ e. absurd (none-some s e)
      | Spoiled ↦ λ e. absurd (none-some s e)
    ]

-- a key word with a fabric
pub record KeyBounds (key : ℕ) : Type 0 where
  pub below : key < 2 ^ 48
  pub fabric : 1 ≤ fabric_of key

pub record EntryBounds (b : List ℕ) (s : Slot) : Type 0 where
  pub key : KeyBounds s.key
  pub time : s.time < 2 ^ 32
  pub starts : s.from ≤ s.to
  pub ends : s.to ≤ length b
  pub short : s.to - s.from ≤ max_fields

pub record RecordBounds (word : ℕ) : Type 0 where
  pub below : word < 2 ^ 49
  pub fabric : 1 ≤ fabric_of (key_of_record word)

packed : (f e g s k : ℕ) → key_of f e g s ≡ k → (f ≡ 0 → ⊥) → f < 256 → e < 65536 → g < 65536 → s < 256 → KeyBounds k
packed f e g s k q n f8 e16 g16 s8 = record { below = omega arith; fabric = omega arith }

module _ (b : List ℕ) (bytes : (i : ℕ) → get_or b i 0 < 256) where
  module _ (tag from v : ℕ) where
    member_u8 : member_number tag u8_type b from ≡ Some v → v < 256
    member_u8 e = member_under b tag u8_type from v 256 (λ at f. u8_under b bytes at v f) e

    member_u16 : member_number tag u16_type b from ≡ Some v → v < 65536
    member_u16 e = member_under b tag u16_type from v 65536 (λ at f. u16_under b bytes at v f) e

    pub member_u32 : member_number tag u32_type b from ≡ Some v → v < 4294967296
    member_u32 e = member_under b tag u32_type from v 4294967296 (λ at f. u32_under b bytes at v f) e

  pub key_bounds : (from k : ℕ) → key_from b from ≡ Some k → KeyBounds k
  unfolding key_from
  key_bounds from k q =
      let no : None ≡ Some k → ⊥ = none-some k in
      let f = gone no (member_number 0 u8_type b from) _ q in
      let n = unheld no (eqb f.value 0) _ f.so in
      let e = gone no (member_number 1 u16_type b from) _ n.1 in
      let g = gone no (member_number 2 u16_type b from) _ e.so in
      let s = gone no (member_number 3 u8_type b from) _ g.so in
      packed f.value e.value g.value s.value k (same_Some (key_of f.value e.value g.value s.value) k s.so)
      (eqb-false f.value 0 n.0) (member_u8 0 from f.value f.said) (member_u16 1 from e.value e.said)
      (member_u16 2 from g.value g.said) (member_u8 3 from s.value s.said)

  pub record_bounds : (at word : ℕ) → record_at b at ≡ Some word → RecordBounds word
  unfolding record_at
  record_bounds at word q =
      let no : None ≡ Some word → ⊥ = none-some word in
      let i = gone no (inside_at struct_type b at) _ q in
      let k = gone no (key_from b i.value) _ i.so in
      let v = gone no (member_bool 4 b i.value) _ k.so in
      marked (key_bounds i.value k.value k.said) v.value v.so
    where
      marked : {key : ℕ} → KeyBounds key → (valid : Bool) → Some (cond valid (key + 2 ^ 48) key) ≡ Some word → RecordBounds word
      marked {key} h true e = subst RecordBounds (same_Some (key + 2 ^ 48) word e) (record { below = omega arith; fabric = omega arith })
      marked {key} h false e = subst RecordBounds (same_Some key word e) (record { below = omega arith; fabric = omega arith })

  pub entry_bounds : (at : ℕ) (s : Slot) → entry_at b at ≡ Some s → EntryBounds b s
  unfolding entry_at
  entry_bounds at s q =
      let no : None ≡ Some s → ⊥ = none-some s in
      let i = gone no (inside_at struct_type b at) _ q in
      let k = gone no (key_from b i.value) _ i.so in
      let t = gone no (member_number 4 u32_type b i.value) _ k.so in
      let f = gone no (member_octets 5 b i.value) _ t.so in
      let h = held no (leb (f.value.to - f.value.from) max_fields) _ f.so in
      let o = member-span b 5 i.value f.value f.said in
      subst (EntryBounds b) (same_Some _ _ h.1) (record {
        key = key_bounds i.value k.value k.said;
        time = member_u32 4 i.value t.value t.said;
        starts = o.0;
        ends = o.1;
        short = leb-true (f.value.to - f.value.from) max_fields h.0;
      })
