-- The laws of reading a set. Assumes nothing.
use Prim.Native.Nat.{ℕ, suc, ◌+◌, ◌*◌, ◌^◌, ◌≤◌, ◌<◌}
use mathlib.Core.Path.{◌≡◌, refl, ap, subst, ◌∙◌}
use mathlib.Core.Bool.{true, false, cond}
use mathlib.Core.List.{List}
use native.Mathlib.Omega.{arith}
use lib.Dec.{eqb}
use lib.ListN.{length}
use Rattle.std.proofs.Common.{Option, Some, None}
use Rattle.std.proofs.lemmas.Option.{none-some, same_Some}
use Rattle.tlv.specs.declared.elements.Element.{Element}
use Rattle.tlv.specs.Types.{array_type, end_type}
use Rattle.tlv.specs.Elements.{element_at}
use Rattle.tlv.specs.Passing.{reading}
use Rattle.tlv.specs.Members.{tagged}
use Rattle.tlv.proofs.Heads.{element_on}
use Rattle.tlv_skip.specs.Containers.{Taken, Known, Refused, onward, taken_from}
use Rattle.tlv_skip.specs.Skipping.{skipped}
use Rattle.tlv_skip.proofs.Taking.{Forward, known_next, known_so, unknown, take_broken, take_ends, take_fails, take_goes, taken_leads, Keeps, taken_keeps}
use Rattle.tlv_skip.proofs.Skips.{skipped_leads}
use Rattle.field_sets.specs.declared.pairs.Pairs.{Pairs}
use Rattle.field_sets.specs.declared.sets.FieldSet.{FieldSet}
use Rattle.field_sets.specs.declared.sets.NextSet.TheVariants.{Set, End, NoSet}
use Rattle.field_sets.specs.Pairs.{max_depth, number_tag, structure_at, number_once, array_of, pairs_at}
use Rattle.field_sets.specs.Sets.{pairs_tag, Parts, parts, array_once, set_member, set_of, whole_set, set_from, set_at, next_set}
use Rattle.field_sets.proofs.PairLaws.{id_size, Small, tagged_on, once_on, once_small, structure_on, array_on}

module _ (b : List ℕ) where
  -- ---- the members of a set

  -- an array that was read takes its control byte, its tag, five bytes for each pair and its end at least
  abbrev array_size : Option Pairs → ℕ
  array_size (Some pairs) = 5 * pairs.count + 3
  array_size None = 0

  module _ (at : ℕ) (h : Element) (e : element_at b at ≡ Some h) where
    -- what it was read as, and where it leads
    array-once :
        (array : Option Pairs) (f c n : ℕ) →
        array_once b h array ≡ Some (array_of f c n) →
        (pairs_at b f ≡ Some (array_of f c n)) × (h.next + array_size array + 5 * c + 1 ≤ n)
    array-once (Some pairs) f c n = λ q. absurd (none-some _ q)
    array-once None f c n =
        elim (eqb h.kind array_type) as
        (λ t. cond t (pairs_at b h.next) None ≡ Some (array_of f c n) → (pairs_at b f ≡ Some (array_of f c n)) × (h.next + 0 + 5 * c + 1 ≤ n)) [
          | true ↦ λ q. let o = array_on b h.next f c n q in (ap (pairs_at b) o.0 ∙ q, omega arith)
          | false ↦ λ q. absurd (none-some _ q)
        ]

    pub array_once_on : (array : Option Pairs) (f c n : ℕ) → array_once b h array ≡ Some (array_of f c n) → at < n
    array_once_on array f c n q = omega (arith, element_on b at h e, (array-once array f c n q).1)

  -- a member that is neither number nor array
  abbrev besides : Parts → ℕ → Taken Parts
  besides so at = reading (skipped max_depth b at) Refused λ next. Known so next

  -- a member that is no number
  abbrev unnumbered : Parts → ℕ → Element → Taken Parts
  unnumbered so at h =
      cond (tagged pairs_tag h)
      (reading (array_once b h so.array) Refused λ pairs. Known (parts so.cluster (Some pairs)) pairs.next)
      (besides so at)

  set_forward : Forward (set_member b) b
  unfolding set_member
  set_forward so at h e s n =
      elim (tagged number_tag h) as
      (λ t.
      cond t (reading (number_once b at so.cluster) Refused (λ v. Known (parts (Some v) so.array) h.next)) (unnumbered so at h)
      ≡ Known s n → at < n) [
        | true ↦
            elim (number_once b at so.cluster) as
            (λ r. reading r Refused (λ v. Known (parts (Some v) so.array) h.next) ≡ Known s n → at < n) [
              | Some v ↦ λ f. omega (arith, element_on b at h e, known_next (parts (Some v) so.array) s h.next n f)
              | None ↦ λ f. unknown s n f
            ]
        | false ↦
            elim (tagged pairs_tag h) as
            (λ t.
            cond t
            (reading (array_once b h so.array) Refused (λ pairs. Known (parts so.cluster (Some pairs)) pairs.next))
            (besides so at)
            ≡ Known s n → at < n) [
              | true ↦
                  elim (array_once b h so.array) as
                  (λ r.
                  array_once b h so.array ≡ r →
                  reading r Refused (λ pairs. Known (parts so.cluster (Some pairs)) pairs.next) ≡ Known s n → at < n) [
                    | Some pairs ↦ λ g f.
                        omega (arith, array_once_on at h e so.array pairs.first pairs.count pairs.next g, known_next (parts so.cluster (Some pairs)) s pairs.next n f)
                    | None ↦ λ g f. unknown s n f
                  ] refl
              | false ↦
                  elim (skipped max_depth b at) as
                  (λ r. skipped max_depth b at ≡ r → reading r Refused (λ next. Known so next) ≡ Known s n → at < n) [
                    | Some m ↦ λ g f. omega (arith, skipped_leads b max_depth at m g, known_next so s m n f)
                    | None ↦ λ g f. unknown s n f
                  ] refl
            ]
      ]

  -- ---- a set, from any of its members on

  abbrev settled : Taken Parts → Option FieldSet
  settled t = onward t None λ so next. whole_set so.cluster so.array next

  -- from a position on, with what is known so far
  abbrev pub settled_from : Option ℕ → Option Pairs → ℕ → Option FieldSet
  settled_from cluster array at = settled (taken_from (set_member b) b (parts cluster array) at)

  module _ (cluster : Option ℕ) (array : Option Pairs) (at : ℕ) where
    pub set_broken : element_at b at ≡ None → settled_from cluster array at ≡ None
    set_broken e = ap settled (take_broken (set_member b) b (parts cluster array) at e)

    module _ (h : Element) (e : element_at b at ≡ Some h) where
      pub set-ends : h.kind ≡ end_type → settled_from cluster array at ≡ whole_set cluster array h.next
      set-ends z = ap settled (take_ends (set_member b) b (parts cluster array) at h e z)

      module _ (z : h.kind ≡ end_type → ⊥) where
        goes : (s : Parts) (n : ℕ) → set_member b (parts cluster array) at h ≡ Known s n → settled_from cluster array at ≡ settled_from s.cluster s.array n
        goes s n f = ap settled (take_goes (set_member b) b set_forward (parts cluster array) at h e z s n f)

        fails : set_member b (parts cluster array) at h ≡ Refused → settled_from cluster array at ≡ None
        fails f = ap settled (take_fails (set_member b) b (parts cluster array) at h e z f)

        module _ (t : tagged number_tag h ≡ true) where
          pub set-number : (v : ℕ) → number_once b at cluster ≡ Some v → settled_from cluster array at ≡ settled_from (Some v) array h.next
          unfolding set_member
          set-number v f = goes (parts (Some v) array) h.next (rw (t, f))

          pub set_number_twice : number_once b at cluster ≡ None → settled_from cluster array at ≡ None
          unfolding set_member
          set_number_twice f = fails (rw (t, f))

        module _ (t : tagged number_tag h ≡ false) where
          module _ (p : tagged pairs_tag h ≡ true) where
            pub set-array :
                (f c n : ℕ) → array_once b h array ≡ Some (array_of f c n) → settled_from cluster array at ≡ settled_from cluster (Some (array_of f c n)) n
            unfolding set_member
            set-array f c n q = goes (parts cluster (Some (array_of f c n))) n (rw (t, p, q))

            pub set_array_twice : array_once b h array ≡ None → settled_from cluster array at ≡ None
            unfolding set_member
            set_array_twice q = fails (rw (t, p, q))

          module _ (p : tagged pairs_tag h ≡ false) where
            pub set_other : (n : ℕ) → skipped max_depth b at ≡ Some n → settled_from cluster array at ≡ settled_from cluster array n
            unfolding set_member
            set_other n f = goes (parts cluster array) n (rw (t, p, f))

            pub set_deep : skipped max_depth b at ≡ None → settled_from cluster array at ≡ None
            unfolding set_member
            set_deep f = fails (rw (t, p, f))

  pub set_begins : (at : ℕ) → settled_from None None at ≡ set_from b at
  unfolding set_from
  set_begins at = refl

  -- ---- where a set leads, and where its pairs stand

  -- the array that was read stands where it was read
  abbrev Stands : Option Pairs → Type 0
  Stands (Some pairs) = pairs_at b pairs.first ≡ Some pairs
  Stands None = Unit {0}

  -- what was read of a set from a position on takes its bytes
  abbrev Placed : ℕ → Parts → ℕ → Type 0
  Placed from so i = (from + id_size so.cluster + array_size so.array ≤ i) × Stands so.array × Small so.cluster

  set-kept : (from : ℕ) → Keeps (set_member b) b set_forward (Placed from)
  unfolding set_member
  set-kept from so at h e s n =
      elim (tagged number_tag h) as
      (λ t.
      tagged number_tag h ≡ t →
      cond t (reading (number_once b at so.cluster) Refused (λ v. Known (parts (Some v) so.array) h.next)) (unnumbered so at h)
      ≡ Known s n → Placed from so at → Placed from s n) [
        | true ↦ λ t.
            elim (number_once b at so.cluster) as
            (λ r.
            number_once b at so.cluster ≡ r →
            reading r Refused (λ v. Known (parts (Some v) so.array) h.next) ≡ Known s n → Placed from so at → Placed from s n) [
              | Some v ↦ λ g f p.
                  let k : Parts = parts (Some v) so.array in
                  subst (λ (y : Parts). Placed from y n) (known_so k s h.next n f) (
                    omega (arith, once_on b at h e number_tag t so.cluster v g, known_next k s h.next n f, p.0),
                    p.1,
                    once_small b at so.cluster v g,
                  )
              | None ↦ λ g f p. unknown s n f
            ] refl
        | false ↦ λ t.
            elim (tagged pairs_tag h) as
            (λ t.
            tagged pairs_tag h ≡ t →
            cond t
            (reading (array_once b h so.array) Refused (λ pairs. Known (parts so.cluster (Some pairs)) pairs.next))
            (besides so at)
            ≡ Known s n → Placed from so at → Placed from s n) [
              | true ↦ λ t.
                  elim (array_once b h so.array) as
                  (λ r.
                  array_once b h so.array ≡ r →
                  reading r Refused (λ pairs. Known (parts so.cluster (Some pairs)) pairs.next) ≡ Known s n →
                  Placed from so at → Placed from s n) [
                    | Some pairs ↦ λ g q p.
                        let k : Parts = parts so.cluster (Some pairs) in
                        let m : ℕ = pairs.next in
                        let o = array-once at h e so.array pairs.first pairs.count m g in
                        subst (λ (y : Parts). Placed from y n) (known_so k s m n q)
                        (omega (arith, tagged_on b at h e pairs_tag t, o.1, known_next k s m n q, p.0), o.0, p.2)
                    | None ↦ λ g q p. unknown s n q
                  ] refl
              | false ↦ λ t.
                  elim (skipped max_depth b at) as
                  (λ r. skipped max_depth b at ≡ r → reading r Refused (λ next. Known so next) ≡ Known s n → Placed from so at → Placed from s n) [
                    | Some m ↦ λ g q p.
                        subst (λ (y : Parts). Placed from y n) (known_so so s m n q)
                        (omega (arith, skipped_leads b max_depth at m g, known_next so s m n q, p.0), p.1, p.2)
                    | None ↦ λ g q p. unknown s n q
                  ] refl
            ] refl
      ] refl

  -- its pairs stand in it; it takes five bytes for each and eight more at least, and ends within the bytes; its number is below 2^32
  pub record Within (at v f c n : ℕ) : Type 0 where
    pub behind : ℕ
    pub pairs : pairs_at b f ≡ Some (array_of f c behind)
    pub roomy : at + 5 * c + 8 ≤ n
    pub inside : n ≤ length b
    pub small : v < 2 ^ 32

  whole-within :
      (at : ℕ) (so : Parts) (i m v f c n : ℕ) →
      i < m →
      m ≤ length b →
      Placed (at + 1) so i →
      whole_set so.cluster so.array m ≡ Some (set_of v f c n) →
      Within at v f c n
  whole-within at so i m v f c n j l =
      elim so.cluster as
      (λ k. (at + 1 + id_size k + array_size so.array ≤ i) × Stands so.array × Small k → whole_set k so.array m ≡ Some (set_of v f c n) → Within at v f c n) [
        | Some w ↦
            elim so.array as
            (λ a. (at + 1 + 3 + array_size a ≤ i) × Stands a × (w < 2 ^ 32) → whole_set (Some w) a m ≡ Some (set_of v f c n) → Within at v f c n) [
              | Some pairs ↦ λ p e.
                  let same : set_of w pairs.first pairs.count m ≡ set_of v f c n = same_Some _ _ e in
                  let x : pairs.first ≡ f = ap (λ (x : FieldSet). x.first) same in
                  let y : pairs.count ≡ c = ap (λ (x : FieldSet). x.count) same in
                  let z : m ≡ n = ap (λ (x : FieldSet). x.next) same in
                  let u : w ≡ v = ap (λ (x : FieldSet). x.cluster) same in
                  record {
                    behind = pairs.next;
                    pairs = subst (λ (i : ℕ). pairs_at b i ≡ Some (array_of i c pairs.next)) x (subst (λ (i : ℕ). pairs_at b pairs.first ≡ Some (array_of pairs.first i pairs.next)) y p.1);
                    roomy = omega (arith, p.0);
                    inside = omega arith;
                    small = omega (arith, p.2, u);
                  }
              | None ↦ λ p e. absurd (none-some _ e)
            ]
        | None ↦ λ p e. absurd (none-some _ e)
      ]

  from-within : (at from v f c n : ℕ) → at < from → set_from b from ≡ Some (set_of v f c n) → Within at v f c n
  unfolding set_from
  from-within at from v f c n l =
      elim (taken_from (set_member b) b (parts None None) from) as
      (λ r. taken_from (set_member b) b (parts None None) from ≡ r → settled r ≡ Some (set_of v f c n) → Within at v f c n) [
        | Known so m ↦ λ e q.
            let o = taken_leads (set_member b) b set_forward (suc (length b)) (parts None None) from so m e in
            let w =
            taken_keeps (set_member b) b set_forward (Placed (at + 1)) (set-kept (at + 1)) (suc (length b)) (parts None None) from so m
            (omega arith, tt, tt)
            e in
            whole-within at so w.end m v f c n w.on o.1 w.holds q
        | Refused ↦ λ e q. absurd (none-some _ q)
      ] refl

  at_within : (at v f c n : ℕ) → set_at b at ≡ Some (set_of v f c n) → Within at v f c n
  unfolding set_at
  at_within at v f c n =
      elim (structure_at b at) as (λ r. structure_at b at ≡ r → reading r None (set_from b) ≡ Some (set_of v f c n) → Within at v f c n) [
        | Some from ↦ λ e q. from-within at from v f c n (structure_on b at from e).0 q
        | None ↦ λ e q. absurd (none-some _ q)
      ] refl

  pub set-within : (at v f c n : ℕ) → next_set b at ≡ Set (set_of v f c n) → Within at v f c n
  unfolding next_set
  set-within at v f c n =
      elim (eqb (length b) 0) as
      (λ t.
      cond t End
      (reading (element_at b at) NoSet λ h. cond (eqb h.kind end_type) (cond (eqb h.next (length b)) End NoSet) (reading (set_at b at) NoSet Set))
      ≡ Set (set_of v f c n) → Within at v f c n) [
        | true ↦ λ q. cc
        | false ↦
            elim (element_at b at) as
            (λ r.
            reading r NoSet (λ h. cond (eqb h.kind end_type) (cond (eqb h.next (length b)) End NoSet) (reading (set_at b at) NoSet Set)) ≡ Set (set_of v f c n) →
            Within at v f c n) [
              | Some h ↦
                  elim (eqb h.kind end_type) as
                  (λ t. cond t (cond (eqb h.next (length b)) End NoSet) (reading (set_at b at) NoSet Set) ≡ Set (set_of v f c n) → Within at v f c n) [
                    | true ↦
                        elim (eqb h.next (length b)) as (λ t. cond t End NoSet ≡ Set (set_of v f c n) → Within at v f c n) [
                          | true ↦ λ q. cc
                          | false ↦ λ q. cc
                        ]
                    | false ↦
                        elim (set_at b at) as (λ r. set_at b at ≡ r → reading r NoSet Set ≡ Set (set_of v f c n) → Within at v f c n) [
                          | Some s ↦ λ g q. let same : s ≡ set_of v f c n = cc in at_within at v f c n (g ∙ ap Some same)
                          | None ↦ λ g q. cc
                        ] refl
                  ]
              | None ↦ λ q. cc
            ]
      ]

-- how a set is read
pub ruleset set_laws = (
  set_broken,
  set-ends,
  set_begins,
  set-number,
  set_number_twice,
  set-array,
  set_array_twice,
  set_other,
  set_deep,
  array_once_on,
  element_on,
  skipped_leads,
)
