-- The laws of reading a pair, and an array of pairs. Assumes nothing.
use Prim.Native.Nat.{ℕ, zero, suc, ◌+◌, ◌*◌, ◌/◌, ◌%◌, ◌≤◌, ◌<◌, ◌^◌}
use mathlib.Core.Path.{◌≡◌, refl, sym, ap, subst, ◌∙◌}
use mathlib.Core.Bool.{true, false, cond, ◌&&◌}
use mathlib.Core.List.{List}
use native.Mathlib.Nat.{one-le-pow}
use native.Mathlib.Omega.{arith}
use lib.Dec.{eqb, ltb}
use lib.ListN.{length, get_or}
use borrow.Author.Tests.{eqb-true, ltb-true}
use Rattle.std.proofs.Common.{Option, Some, None}
use Rattle.std.proofs.lemmas.Option.{none-some, same_Some}
use Rattle.tlv.specs.declared.elements.Element.{Element}
use Rattle.tlv.specs.Types.{struct_type, end_type, anonymous, u64_type}
use Rattle.tlv.specs.Elements.{element_at, control_at, form_of, tag_size, width, little, size_of, plain_size, measured, length_from, value_from, value_end}
use Rattle.tlv.specs.Passing.{reading}
use Rattle.tlv.specs.Values.{number_at, unsigned}
use Rattle.tlv.specs.Members.{tagged}
use Rattle.tlv.proofs.Heads.{element_on, element_same, and_both, size_number, width_power}
use Rattle.tlv.proofs.Says.{unsigned_small}
use Rattle.tlv_skip.specs.Containers.{Taken, Known, Refused, onward, taken, taken_from}
use Rattle.tlv_skip.specs.Skipping.{skipped}
use Rattle.tlv_skip.proofs.Taking.{Forward, known_next, known_so, unknown, take_broken, take_ends, take_fails, take_goes, taken_leads, Keeps, taken_keeps}
use Rattle.tlv_skip.proofs.Skips.{skipped_leads}
use Rattle.field_sets.specs.declared.pairs.Pair.{Pair}
use Rattle.field_sets.specs.declared.pairs.Pairs.{Pairs}
use Rattle.field_sets.specs.Pairs.{max_depth, number_tag, structure_at, number_once, pair_member, whole_pair, pair_of, pair_from, pair_at}
use Rattle.field_sets.specs.Pairs.{pair_counted, array_of, pairs_at}

width_positive : (kind : ℕ) → 1 ≤ width kind
width_positive kind = rw (width_power kind) (one-le-pow (kind % 4) 2 (omega arith))

-- a number that was read takes three bytes at least: its control byte, its tag and its value
abbrev pub id_size : Option ℕ → ℕ
id_size (Some v) = 3
id_size None = 0

-- and is below 2^32
abbrev pub Small : Option ℕ → Type 0
Small (Some v) = v < 2 ^ 32
Small None = Unit {0}

module _ (b : List ℕ) where
  -- ---- how many bytes a member takes, and how large its number is

  module _ (at : ℕ) (h : Element) (e : element_at b at ≡ Some h) (tag : ℕ) (t : tagged tag h ≡ true) where
    tag-byte : tag_size (form_of (control_at b at)) ≡ 1
    unfolding tagged tag_size
    tag-byte =
        let f : get_or b at 0 / 32 ≡ h.form = ap (λ (x : Element). x.form) (element_same b at h e) in
        rw (f ∙ eqb-true h.form 1 (and_both (eqb h.form 1) (eqb h.tag tag) t).0)

    pub tagged_on : at + 2 ≤ h.next
    unfolding length_from value_from value_end
    tagged_on =
        let n : value_end b at ≡ h.next = ap (λ (x : Element). x.next) (element_same b at h e) in
        omega (arith, tag-byte)

    number_on : (v : ℕ) → number_at u64_type b at ≡ Some v → at + 3 ≤ h.next
    unfolding number_at length_from value_from value_end size_of plain_size measured
    number_on v =
        rw e
        (elim (unsigned u64_type h.kind) as
        (λ u. unsigned u64_type h.kind ≡ u → cond u (Some (little (width h.kind) b h.value)) None ≡ Some v → at + 3 ≤ h.next) [
          | true ↦ λ u q.
              let k : get_or b at 0 % 32 ≡ h.kind = ap (λ (x : Element). x.kind) (element_same b at h e) in
              let n : value_end b at ≡ h.next = ap (λ (x : Element). x.next) (element_same b at h e) in
              let z : size_of b (get_or b at 0 % 32) (length_from b at) ≡ width h.kind =
              rw k (size_number b h.kind (length_from b at) (unsigned_small u64_type h.kind u)) in
              omega (arith, tag-byte, z, width_positive h.kind)
          | false ↦ λ u q. absurd (none-some v q)
        ] refl)

    pub once_on : (so : Option ℕ) (v : ℕ) → number_once b at so ≡ Some v → at + id_size so + 3 ≤ h.next
    once_on (Some w) v = λ q. absurd (none-some v q)
    once_on None v =
        elim (number_at u64_type b at) as
        (λ r. number_at u64_type b at ≡ r → reading r None (λ w. cond (ltb w (2 ^ 32)) (Some w) None) ≡ Some v → at + 0 + 3 ≤ h.next) [
          | Some w ↦ λ g q. omega (arith, number_on w g)
          | None ↦ λ g q. absurd (none-some v q)
        ] refl

  pub once_small : (at : ℕ) (so : Option ℕ) (v : ℕ) → number_once b at so ≡ Some v → v < 2 ^ 32
  once_small at (Some w) v = λ q. absurd (none-some v q)
  once_small at None v =
      elim (number_at u64_type b at) as (λ r. reading r None (λ w. cond (ltb w (2 ^ 32)) (Some w) None) ≡ Some v → v < 2 ^ 32) [
        | Some w ↦
            elim (ltb w (2 ^ 32)) as (λ t. ltb w (2 ^ 32) ≡ t → cond t (Some w) None ≡ Some v → v < 2 ^ 32) [
              | true ↦ λ l q. omega (arith, same_Some w v q, ltb-true w (2 ^ 32) l)
              | false ↦ λ l q. absurd (none-some v q)
            ] refl
        | None ↦ λ q. absurd (none-some v q)
      ]

  -- ---- the members of a pair

  module _ (so : Option ℕ) (at : ℕ) (h : Element) where
    member-number : (v : ℕ) → tagged number_tag h ≡ true → number_once b at so ≡ Some v → pair_member b so at h ≡ Known (Some v) h.next
    unfolding pair_member
    member-number v t e = rw (t, e)

    member_twice : tagged number_tag h ≡ true → number_once b at so ≡ None → pair_member b so at h ≡ Refused
    unfolding pair_member
    member_twice t e = rw (t, e)

    member-other : (n : ℕ) → tagged number_tag h ≡ false → skipped max_depth b at ≡ Some n → pair_member b so at h ≡ Known so n
    unfolding pair_member
    member-other n t e = rw (t, e)

    member_deep : tagged number_tag h ≡ false → skipped max_depth b at ≡ None → pair_member b so at h ≡ Refused
    unfolding pair_member
    member_deep t e = rw (t, e)

  pair_forward : Forward (pair_member b) b
  unfolding pair_member
  pair_forward so at h e s n =
      elim (tagged number_tag h) as
      (λ t.
      cond t (reading (number_once b at so) Refused (λ v. Known (Some v) h.next)) (reading (skipped max_depth b at) Refused (λ next. Known so next))
      ≡ Known s n → at < n) [
        | true ↦
            elim (number_once b at so) as (λ r. reading r Refused (λ v. Known (Some v) h.next) ≡ Known s n → at < n) [
              | Some v ↦ λ f. omega (arith, element_on b at h e, known_next (Some v) s h.next n f)
              | None ↦ λ f. unknown s n f
            ]
        | false ↦
            elim (skipped max_depth b at) as (λ r. skipped max_depth b at ≡ r → reading r Refused (λ next. Known so next) ≡ Known s n → at < n) [
              | Some m ↦ λ g f. omega (arith, skipped_leads b max_depth at m g, known_next so s m n f)
              | None ↦ λ g f. unknown s n f
            ] refl
      ]

  -- ---- a pair, from any of its members on

  abbrev paired : Taken (Option ℕ) → Option Pair
  paired t = onward t None pair_of

  -- from a position on, with what is known so far
  abbrev pub paired_from : Option ℕ → ℕ → Option Pair
  paired_from so at = paired (taken_from (pair_member b) b so at)

  module _ (so : Option ℕ) (at : ℕ) where
    pub pair_broken : element_at b at ≡ None → paired_from so at ≡ None
    pair_broken e = ap paired (take_broken (pair_member b) b so at e)

    module _ (h : Element) (e : element_at b at ≡ Some h) where
      pub pair_ends : h.kind ≡ end_type → paired_from so at ≡ pair_of so h.next
      pair_ends z = ap paired (take_ends (pair_member b) b so at h e z)

      module _ (z : h.kind ≡ end_type → ⊥) where
        goes : (s : Option ℕ) (n : ℕ) → pair_member b so at h ≡ Known s n → paired_from so at ≡ paired_from s n
        goes s n f = ap paired (take_goes (pair_member b) b pair_forward so at h e z s n f)

        fails : pair_member b so at h ≡ Refused → paired_from so at ≡ None
        fails f = ap paired (take_fails (pair_member b) b so at h e z f)

        module _ (t : tagged number_tag h ≡ true) where
          pub pair_number : (v : ℕ) → number_once b at so ≡ Some v → paired_from so at ≡ paired_from (Some v) h.next
          pair_number v f = goes (Some v) h.next (member-number so at h v t f)

          pub pair_twice : number_once b at so ≡ None → paired_from so at ≡ None
          pair_twice f = fails (member_twice so at h t f)

        module _ (t : tagged number_tag h ≡ false) where
          pub pair_other : (n : ℕ) → skipped max_depth b at ≡ Some n → paired_from so at ≡ paired_from so n
          pair_other n f = goes so n (member-other so at h n t f)

          pub pair_deep : skipped max_depth b at ≡ None → paired_from so at ≡ None
          pair_deep f = fails (member_deep so at h t f)

  pub pair_begins : (at : ℕ) → paired_from None at ≡ pair_from b at
  unfolding pair_from
  pair_begins at = refl

  -- ---- where a structure and a pair lead

  -- what stands in front of a position stands within the bytes
  abbrev pub Leads : ℕ → ℕ → Type 0
  Leads at n = (at < n) × (n ≤ length b)

  abbrev headed : Element → Option ℕ
  headed h = cond (eqb h.kind struct_type && eqb h.form anonymous) (Some h.next) None

  pub structure_on : (at n : ℕ) → structure_at b at ≡ Some n → Leads at n
  unfolding structure_at
  structure_on at n =
      elim (element_at b at) as (λ r. element_at b at ≡ r → reading r None headed ≡ Some n → Leads at n) [
        | Some h ↦ λ e.
            elim (eqb h.kind struct_type && eqb h.form anonymous) as (λ t. cond t (Some h.next) None ≡ Some n → Leads at n) [
              | true ↦ λ f.
                  let o = element_on b at h e in
                  let x = same_Some h.next n f in
                  (omega arith, omega arith)
              | false ↦ λ f. absurd (none-some n f)
            ]
        | None ↦ λ e f. absurd (none-some n f)
      ] refl

  -- from its first member on: its number and its end
  abbrev Kept : ℕ → Option ℕ → ℕ → Type 0
  Kept from so i = (from + id_size so ≤ i) × Small so

  pair_kept : (from : ℕ) → Keeps (pair_member b) b pair_forward (Kept from)
  unfolding pair_member
  pair_kept from so at h e s n =
      elim (tagged number_tag h) as
      (λ t.
      tagged number_tag h ≡ t →
      cond t (reading (number_once b at so) Refused (λ v. Known (Some v) h.next)) (reading (skipped max_depth b at) Refused (λ next. Known so next))
      ≡ Known s n → Kept from so at → Kept from s n) [
        | true ↦ λ t.
            elim (number_once b at so) as
            (λ r. number_once b at so ≡ r → reading r Refused (λ v. Known (Some v) h.next) ≡ Known s n → Kept from so at → Kept from s n) [
              | Some v ↦ λ g f p.
                  subst (λ (x : Option ℕ). Kept from x n) (known_so (Some v) s h.next n f)
                  (omega (arith, once_on at h e number_tag t so v g, known_next (Some v) s h.next n f, p.0), once_small at so v g)
              | None ↦ λ g f p. unknown s n f
            ] refl
        | false ↦ λ t.
            elim (skipped max_depth b at) as
            (λ r. skipped max_depth b at ≡ r → reading r Refused (λ next. Known so next) ≡ Known s n → Kept from so at → Kept from s n) [
              | Some m ↦ λ g f p.
                  subst (λ (x : Option ℕ). Kept from x n) (known_so so s m n f)
                  (omega (arith, skipped_leads b max_depth at m g, known_next so s m n f, p.0), p.1)
              | None ↦ λ g f p. unknown s n f
            ] refl
      ] refl

  from_on : (at a n : ℕ) → pair_from b at ≡ Some (whole_pair a n) → (at + 4 ≤ n) × (n ≤ length b) × (a < 2 ^ 32)
  unfolding pair_from
  from_on at a n =
      elim (taken_from (pair_member b) b None at) as
      (λ r. taken_from (pair_member b) b None at ≡ r → paired r ≡ Some (whole_pair a n) → (at + 4 ≤ n) × (n ≤ length b) × (a < 2 ^ 32)) [
        | Known so m ↦ λ e.
            let l = taken_leads (pair_member b) b pair_forward (suc (length b)) None at so m e in
            let w = taken_keeps (pair_member b) b pair_forward (Kept at) (pair_kept at) (suc (length b)) None at so m (omega arith, tt) e in
            elim so as (λ r. Kept at r w.end → pair_of r m ≡ Some (whole_pair a n) → (at + 4 ≤ n) × (n ≤ length b) × (a < 2 ^ 32)) [
              | Some v ↦ λ q f.
                  let same : whole_pair v m ≡ whole_pair a n = same_Some _ _ f in
                  let x : m ≡ n = ap (λ (x : Pair). x.next) same in
                  let y : v ≡ a = ap (λ (x : Pair). x.attribute) same in
                  (omega (arith, w.on, q.0), omega arith, omega (arith, q.1, y))
              | None ↦ λ q f. absurd (none-some _ f)
            ] w.holds
        | Refused ↦ λ e f. absurd (none-some _ f)
      ] refl

  -- a pair takes five bytes at least, and ends within the bytes; its number is below 2^32
  pub pair_on : (at a n : ℕ) → pair_at b at ≡ Some (whole_pair a n) → (at + 5 ≤ n) × (n ≤ length b) × (a < 2 ^ 32)
  unfolding pair_at
  pair_on at a n =
      elim (structure_at b at) as
      (λ r. structure_at b at ≡ r → reading r None (pair_from b) ≡ Some (whole_pair a n) → (at + 5 ≤ n) × (n ≤ length b) × (a < 2 ^ 32)) [
        | Some from ↦ λ e f.
            let s = structure_on at from e in
            let l = from_on from a n f in
            (omega arith, omega arith, l.2)
        | None ↦ λ e f. absurd (none-some _ f)
      ] refl

  -- ---- an array, from any of its pairs on

  counted_pair : (count at : ℕ) (h : Element) (a n : ℕ) → pair_at b at ≡ Some (whole_pair a n) → pair_counted b count at h ≡ Known (count + 1) n
  unfolding pair_counted
  counted_pair count at h a n e = rw e

  counted_none : (count at : ℕ) (h : Element) → pair_at b at ≡ None → pair_counted b count at h ≡ Refused
  unfolding pair_counted
  counted_none count at h e = rw e

  pub count_forward : Forward (pair_counted b) b
  unfolding pair_counted
  count_forward count at h e s n =
      elim (pair_at b at) as (λ r. pair_at b at ≡ r → reading r Refused (λ q. Known (count + 1) q.next) ≡ Known s n → at < n) [
        | Some q ↦ λ g f. omega (arith, pair_on at q.attribute q.next g, known_next (count + 1) s q.next n f)
        | None ↦ λ g f. unknown s n f
      ] refl

  module _ (first : ℕ) where
    abbrev pub arrayed : Taken ℕ → Option Pairs
    arrayed t = onward t None λ count next. Some (array_of first count next)

    -- from a position on, with so many pairs in front of it
    abbrev pub arrayed_from : ℕ → ℕ → Option Pairs
    arrayed_from count at = arrayed (taken_from (pair_counted b) b count at)

    module _ (count at : ℕ) where
      pub array_broken : element_at b at ≡ None → arrayed_from count at ≡ None
      array_broken e = ap arrayed (take_broken (pair_counted b) b count at e)

      module _ (h : Element) (e : element_at b at ≡ Some h) where
        pub array-ends : h.kind ≡ end_type → arrayed_from count at ≡ Some (array_of first count h.next)
        array-ends z = ap arrayed (take_ends (pair_counted b) b count at h e z)

        module _ (z : h.kind ≡ end_type → ⊥) where
          pub array_goes : (a n : ℕ) → pair_at b at ≡ Some (whole_pair a n) → arrayed_from count at ≡ arrayed_from (count + 1) n
          array_goes a n f =
              ap arrayed (take_goes (pair_counted b) b count_forward count at h e z (count + 1) n (counted_pair count at h a n f))

          pub array_fails : pair_at b at ≡ None → arrayed_from count at ≡ None
          array_fails f = ap arrayed (take_fails (pair_counted b) b count at h e z (counted_none count at h f))

    pub array_begins : arrayed_from 0 first ≡ pairs_at b first
    unfolding pairs_at
    array_begins = refl

  -- ---- where an array leads

  -- each pair takes five bytes at least
  pub counted_on :
      (k count at c n : ℕ) → taken (pair_counted b) b k count at ≡ Known c n → (count ≤ c) × (5 * c + at < n + 5 * count) × (n ≤ length b)
  unfolding taken pair_counted
  counted_on zero count at c n = λ e. unknown c n e
  counted_on (suc k) count at c n =
      elim (element_at b at) as
      (λ r.
      element_at b at ≡ r →
      reading r Refused (λ h. cond (eqb h.kind end_type) (Known count h.next) (onward (reading (pair_at b at) Refused (λ q. Known (count + 1) q.next)) Refused (taken (pair_counted b) b k)))
      ≡ Known c n → (count ≤ c) × (5 * c + at < n + 5 * count) × (n ≤ length b)) [
        | Some h ↦ λ e.
            elim (eqb h.kind end_type) as
            (λ t.
            cond t (Known count h.next) (onward (reading (pair_at b at) Refused (λ q. Known (count + 1) q.next)) Refused (taken (pair_counted b) b k))
            ≡ Known c n → (count ≤ c) × (5 * c + at < n + 5 * count) × (n ≤ length b)) [
              | true ↦ λ f.
                  let o = element_on b at h e in
                  let x = known_next count c h.next n f in
                  let y = known_so count c h.next n f in
                  (omega arith, omega arith, omega arith)
              | false ↦
                  elim (pair_at b at) as
                  (λ r.
                  pair_at b at ≡ r →
                  onward (reading r Refused (λ q. Known (count + 1) q.next)) Refused (taken (pair_counted b) b k) ≡ Known c n →
                  (count ≤ c) × (5 * c + at < n + 5 * count) × (n ≤ length b)) [
                    | Some q ↦ λ p f.
                        let l = pair_on at q.attribute q.next p in
                        let o = counted_on k (count + 1) q.next c n f in
                        (omega arith, omega arith, omega arith)
                    | None ↦ λ p f. unknown c n f
                  ] refl
            ]
        | None ↦ λ e f. unknown c n f
      ] refl

  -- it starts where it was looked for, has five bytes for each pair and its end, and ends within the bytes
  pub array_on : (first f c n : ℕ) → pairs_at b first ≡ Some (array_of f c n) → (f ≡ first) × (first + 5 * c < n) × (n ≤ length b)
  unfolding pairs_at
  array_on first f c n =
      elim (taken_from (pair_counted b) b 0 first) as
      (λ r. taken_from (pair_counted b) b 0 first ≡ r → arrayed first r ≡ Some (array_of f c n) → (f ≡ first) × (first + 5 * c < n) × (n ≤ length b)) [
        | Known d m ↦ λ e g.
            let o = counted_on (suc (length b)) 0 first d m e in
            let same : array_of first d m ≡ array_of f c n = same_Some _ _ g in
            let x : first ≡ f = ap (λ (x : Pairs). x.first) same in
            let y : d ≡ c = ap (λ (x : Pairs). x.count) same in
            let z : m ≡ n = ap (λ (x : Pairs). x.next) same in
            (sym x, omega arith, omega arith)
        | Refused ↦ λ e g. absurd (none-some _ g)
      ] refl

-- how a pair is read, and an array of pairs
pub ruleset pair_laws = (pair_broken, pair_ends, pair_number, pair_twice, pair_other, pair_deep, pair_begins, element_on, skipped_leads)

pub ruleset array_laws = (array_broken, array-ends, array_goes, array_fails, array_begins, element_on, pair_on)
