-- The laws of what an element says. Assumes nothing.
use Prim.Native.Nat.{ℕ, ◌^◌, ◌≤◌, ◌<◌}
use mathlib.Core.Path.{◌≡◌, refl, sym, ap}
use mathlib.Core.Bool.{true, cond, ◌&&◌}
use mathlib.Core.List.{List}
use native.Mathlib.Nat.{pow-le-pow_right}
use native.Mathlib.Omega.{arith}
use lib.Dec.{ltb, leb}
use lib.ListN.{length, get_or}
use borrow.Author.Tests.{ltb-true, leb-true}
use Rattle.std.proofs.Common.{Option, Some, None}
use Rattle.std.proofs.lemmas.Option.{none-some, cond_some}
use Rattle.tlv.specs.declared.elements.Element.{Element}
use Rattle.tlv.specs.Elements.{width, little, element_at}
use Rattle.tlv.specs.Passing.{reading}
use Rattle.tlv.specs.declared.values.Span.{Span}
use Rattle.tlv.specs.Values.{unsigned, number_at, octets, span, octets_at}
use Rattle.tlv.proofs.Numbers.{little_under}
use Rattle.tlv.proofs.Heads.{width_power, and_both, element_on, element_value}

module _ (most kind : ℕ) (u : unsigned most kind ≡ true) where
  unsigned-parts : (3 < kind) × ((kind ≤ most) × (kind < 8))
  unfolding unsigned
  unsigned-parts =
      let p = and_both (ltb 3 kind) (leb kind most && ltb kind 8) u in
      let q = and_both (leb kind most) (ltb kind 8) p.1 in
      (ltb-true 3 kind p.0, (leb-true kind most q.0, ltb-true kind 8 q.1))

  pub unsigned_small : kind < 8
  unsigned_small = unsigned-parts.1.1

-- ---- how large a number can be

width_grows : (kind most : ℕ) → 3 < kind → kind ≤ most → most < 8 → width kind ≤ width most
width_grows kind most h l m = rw (width_power kind, width_power most) (pow-le-pow_right {n = 2} (omega arith) (omega arith))

-- what is made of an element as a number
abbrev number_of : ℕ → List ℕ → Element → Option ℕ
number_of most b h = cond (unsigned most h.kind) (Some (little (width h.kind) b h.value)) None

-- a number that is read up to a type has no more bytes than the type
pub number_under : (b : List ℕ) → ((i : ℕ) → get_or b i 0 < 256) → (most at v : ℕ) → most < 8 → number_at most b at ≡ Some v → v < 256 ^ width most
unfolding number_at
number_under b bytes most at v m =
    elim (element_at b at) as (λ r. reading r None (number_of most b) ≡ Some v → v < 256 ^ width most) [
      | Some h ↦ λ e.
          let q = cond_some (unsigned most h.kind) (little (width h.kind) b h.value) v e in
          let p = unsigned-parts most h.kind q.0 in
          rw (sym q.1) (little_under b bytes (width most) (width h.kind) h.value (width_grows h.kind most p.0 p.1.0 m))
      | None ↦ λ e. absurd (none-some v e)
    ]

-- ---- the bounds that the readers of `u8`, `u16` and `u32` keep

module _ (b : List ℕ) (bytes : (i : ℕ) → get_or b i 0 < 256) (at v : ℕ) where
  pub u8_under : number_at 4 b at ≡ Some v → v < 256
  unfolding width
  u8_under e = number_under b bytes 4 at v (omega arith) e

  pub u16_under : number_at 5 b at ≡ Some v → v < 65536
  unfolding width
  u16_under e = number_under b bytes 5 at v (omega arith) e

  pub u32_under : number_at 6 b at ≡ Some v → v < 4294967296
  unfolding width
  u32_under e = number_under b bytes 6 at v (omega arith) e

-- ---- the positions of an octet string

-- what is made of an element as an octet string
abbrev span_of : Element → Option Span
span_of h = cond (octets h.kind) (Some (span h.value h.next)) None

pub octets_on : (b : List ℕ) (at : ℕ) (s : Span) → octets_at b at ≡ Some s → (s.from ≤ s.to) × (s.to ≤ length b)
unfolding octets_at
octets_on b at s =
    elim (element_at b at) as (λ r. element_at b at ≡ r → reading r None span_of ≡ Some s → (s.from ≤ s.to) × (s.to ≤ length b)) [
      | Some h ↦ λ e f.
          let q = cond_some (octets h.kind) (span h.value h.next) s f in
          let from : h.value ≡ s.from = ap (λ (x : Span). x.from) q.1 in
          let to : h.next ≡ s.to = ap (λ (x : Span). x.to) q.1 in
          let o = element_on b at h e in
          let v = element_value b at h e in
          (omega arith, omega arith)
      | None ↦ λ e f. absurd (none-some s f)
    ] refl
