-- The laws of a scan: what the words read so far say of those of a whole array. Assumes nothing.
use Prim.Native.Nat.{ℕ, zero, suc, ◌+◌, ◌≤◌, ◌<◌}
use mathlib.Core.Path.{◌≡◌, refl, sym, ap, ap₂, ◌∙◌}
use mathlib.Core.Bool.{Bool, false, cond, ◌||◌}
use mathlib.Core.List.{List, [], ◌∷◌, ◌++◌, append_assoc, append-nil}
use native.Mathlib.Numerals.{add-one}
use native.Mathlib.Omega.{arith}
use lib.Dec.{eqb}
use lib.ListN.{length, take, get_or, set, length-set, length-append}
use lib.Seq.{length-take-le, take-suc-set, get_or-set_other, get_or-take}
use borrow.Author.Tests.{le-leb, lt-leb}
use Rattle.std.proofs.Common.{Option, Some, None}
use Rattle.words.specs.Constants.{success, bad_image, clashing_image}
use Rattle.words.specs.Words.{fabric_of, endpoint_of, key_of_record}
use Rattle.words.specs.Below.{any_below, first_below, or_else}
use Rattle.std.specs.Prelude.{Some, None, is_some}
use Rattle.slots.specs.Slots.{first_key}
use Rattle.records.specs.Records.{first_owned}
use Rattle.tlv.specs.declared.elements.Element.{Element}
use Rattle.tlv.specs.declared.members.Step.TheVariants.{Member, End, Damaged}
use Rattle.tlv.specs.Members.{member_at}
use Rattle.image_reader.specs.Image.{prepended, members_from}
use Rattle.image_reader.proofs.Listing.{members_end, members_damaged, members_none, members_more}
use Rattle.image_gate.specs.Verdict.{barred, key_clashes, record_clashes}
use Rattle.image_gate.specs.Deciding.{Local, judged}

-- ---- tests that look at no word past their position

any_same : (p q : ℕ → Bool) (n : ℕ) → ((i : ℕ) → i < n → p i ≡ q i) → any_below p n ≡ any_below q n
unfolding any_below
any_same p q zero h = refl
any_same p q (suc n) h = ap₂ (λ (a b : Bool). a || b) (any_same p q n (λ i l. h i (omega arith))) (h n (omega arith))

first_same : (p q : ℕ → Bool) (n : ℕ) → ((i : ℕ) → i < n → p i ≡ q i) → first_below p n ≡ first_below q n
unfolding first_below
first_same p q zero h = refl
first_same p q (suc n) h =
    ap₂ or_else (first_same p q n (λ i l. h i (omega arith))) (ap (λ (b : Bool). cond b (Some n) None) (h n (omega arith)))

pub keys_local : Local key_clashes
unfolding first_key
keys_local xs ys i same =
    ap (λ (key : ℕ). barred key || is_some (first_key xs i key)) (same i (omega arith))
    ∙ ap (λ (b : Bool). barred (get_or ys i 0) || b)
    (ap is_some (first_same (λ j. eqb (get_or xs j 0) (get_or ys i 0)) (λ j. eqb (get_or ys j 0) (get_or ys i 0)) i
    (λ j l. ap (λ (key : ℕ). eqb key (get_or ys i 0)) (same j (omega arith)))))

pub records_local : Local record_clashes
unfolding first_owned
records_local xs ys i same =
    ap (λ (word : ℕ). barred (key_of_record word) || is_some (first_owned xs i (fabric_of (key_of_record word)) (endpoint_of (key_of_record word)))) (same i (omega arith))
    ∙ ap (λ (b : Bool). barred (key_of_record (get_or ys i 0)) || b)
    (ap is_some (first_same (λ j. eqb (fabric_of (key_of_record (get_or xs j 0))) (fabric_of (key_of_record (get_or ys i 0))))
    (λ j. eqb (fabric_of (key_of_record (get_or ys j 0))) (fabric_of (key_of_record (get_or ys i 0)))) i
    (λ j l. ap (λ (word : ℕ). eqb (fabric_of (key_of_record word)) (fabric_of (key_of_record (get_or ys i 0)))) (same j (omega arith)))))

-- ---- words in front of those that are still to come

abbrev pub behind : List ℕ → Option (List ℕ) → Option (List ℕ)
behind xs None = None
behind xs (Some ys) = Some (xs ++ ys)

behind-nothing : (r : Option (List ℕ)) → behind [] r ≡ r
behind-nothing None = refl
behind-nothing (Some ys) = refl

behind_more : (xs : List ℕ) (x : ℕ) (r : Option (List ℕ)) → behind (xs ++ (x ∷ [])) r ≡ behind xs (prepended (Some x) r)
behind_more xs x None = refl
behind_more xs x (Some ys) = ap Some (append_assoc xs (x ∷ []) ys)

-- the first n words of `seen` were read, and the members from `at` on are still to come
module _ (read : ℕ → Option ℕ) (b : List ℕ) (first : ℕ) where
  abbrev pub Gathered : List ℕ → ℕ → ℕ → Type 0
  Gathered seen n at = behind (take n seen) (members_from read b at) ≡ members_from read b first

  pub gather_start : (seen : List ℕ) → Gathered seen 0 first
  gather_start seen = behind-nothing (members_from read b first)

  module _ (seen : List ℕ) (n at : ℕ) (g : Gathered seen n at) where
    pub gather_end : member_at b at ≡ End → Some (take n seen) ≡ members_from read b first
    gather_end e = ap Some (sym (append-nil (take n seen))) ∙ ap (behind (take n seen)) (sym (members_end read b at e)) ∙ g

    pub gather_damaged : member_at b at ≡ Damaged → None ≡ members_from read b first
    gather_damaged e = ap (behind (take n seen)) (sym (members_damaged read b at e)) ∙ g

    module _ (h : Element) (next : ℕ) (m : member_at b at ≡ Member h next) where
      pub gather_unread : read at ≡ None → None ≡ members_from read b first
      gather_unread e = ap (behind (take n seen)) (sym (members_none read b at h next m e)) ∙ g

      module _ (word : ℕ) (e : read at ≡ Some word) where
        pub gather_one : behind (take n seen ++ (word ∷ [])) (members_from read b next) ≡ members_from read b first
        gather_one =
            behind_more (take n seen) word (members_from read b next)
            ∙ ap (behind (take n seen)) (sym (members_more read b at h next m word e))
            ∙ g

        pub gather_next : n < length seen → Gathered (set seen n word) (n + 1) next
        gather_next l =
            ap (λ (xs : List ℕ). behind xs (members_from read b next)) (ap (λ (k : ℕ). take k (set seen n word)) (add-one n) ∙ take-suc-set seen n word l)
            ∙ gather_one

-- ---- the verdict of a scan

module _ (test : List ℕ → ℕ → Bool) (most : ℕ) where
  pub judged_none : None ≡ judged test most None
  unfolding judged
  judged_none = refl

  judged-long : (xs : List ℕ) (r : Option (List ℕ)) → most < length xs → None ≡ judged test most (behind xs r)
  unfolding judged
  judged-long xs None l = refl
  judged-long xs (Some ys) l = rw (lt-leb (length (xs ++ ys)) most (omega (arith, length-append xs ys)))

  module _ (look : Local test) where
    pub judged_some : (seen : List ℕ) (n : ℕ) (clash : Bool) → n ≤ most → n ≤ length seen → clash ≡ any_below (test seen) n
        → Some clash ≡ judged test most (Some (take n seen))
    unfolding judged
    judged_some seen n clash l m e =
        let q : length (take n seen) ≡ n = length-take-le n seen m in
        rw (q, le-leb n most l)
        (ap Some
        (e ∙ any_same (test seen) (test (take n seen)) n (λ i h. look seen (take n seen) i (λ j k. sym (get_or-take n seen j 0 (omega arith))))))

    -- a turn of the loop: one more word, and whether it clashes
    pub clash_next : (seen : List ℕ) (n word : ℕ) (clash new : Bool) → clash ≡ any_below (test seen) n → new ≡ test (set seen n word) n
        → (clash || new) ≡ any_below (test (set seen n word)) (n + 1)
    unfolding any_below
    clash_next seen n word clash new e q =
        rw (add-one)
        (ap₂ (λ (a c : Bool). a || c)
        (e ∙ any_same (test seen) (test (set seen n word)) n
        (λ i h. look seen (set seen n word) i (λ j k. sym (get_or-set_other seen n j word 0 (λ p. let w : ⊥ = omega arith in absurd w)))))
        q)

-- ---- a turn of a scan's loop

pub record Turn (read : ℕ → Option ℕ) (b : List ℕ) (first : ℕ) (test : List ℕ → ℕ → Bool) (most size : ℕ)
    (seen : List ℕ) (n at : ℕ) (clash : Bool) : Type 0 where
  pub gathered : Gathered read b first seen n at
  pub few : n ≤ most
  pub room : most ≤ size
  pub same_length : length seen ≡ size
  pub told : clash ≡ any_below (test seen) n

pub turn_start : (read : ℕ → Option ℕ) (b : List ℕ) (first : ℕ) (test : List ℕ → ℕ → Bool) (most : ℕ) (seen : List ℕ)
    → most ≤ length seen → Turn read b first test most (length seen) seen 0 first false
unfolding any_below
turn_start read b first test most seen l = record {
  gathered = gather_start read b first seen;
  few = omega arith;
  room = l;
  same_length = refl;
  told = refl;
}

module _ {read : ℕ → Option ℕ} {b : List ℕ} {first : ℕ} {test : List ℕ → ℕ → Bool} {most size : ℕ} {seen : List ℕ} {n at : ℕ} {clash : Bool}
    (look : Local test) (t : Turn read b first test most size seen n at clash) where
  -- there is a place for one more
  pub turn_room : n < most → (word : ℕ) → n < length (set seen n word)
  turn_room l word = omega (arith, length-set seen n word)

  pub turn_end : member_at b at ≡ End → Some clash ≡ judged test most (members_from read b first)
  turn_end e =
      judged_some test most look seen n clash t.few (omega arith) t.told
      ∙ ap (judged test most) (gather_end read b first seen n at t.gathered e)

  pub turn_damaged : member_at b at ≡ Damaged → None ≡ judged test most (members_from read b first)
  turn_damaged e = judged_none test most ∙ ap (judged test most) (gather_damaged read b first seen n at t.gathered e)

  module _ (h : Element) (next : ℕ) (m : member_at b at ≡ Member h next) where
    pub turn_unread : read at ≡ None → None ≡ judged test most (members_from read b first)
    turn_unread e = judged_none test most ∙ ap (judged test most) (gather_unread read b first seen n at t.gathered h next m e)

    module _ (word : ℕ) (e : read at ≡ Some word) where
      -- a member more than there may be
      pub turn_full : most ≤ n → None ≡ judged test most (members_from read b first)
      turn_full l =
          let q : length (take n seen) ≡ n = length-take-le n seen (omega arith) in
          judged-long test most (take n seen ++ (word ∷ [])) (members_from read b next) (omega (arith, length-append (take n seen) (word ∷ [])))
          ∙ ap (judged test most) (gather_one read b first seen n at t.gathered h next m word e)

      pub turn_next : n < most → (new : Bool) → new ≡ test (set seen n word) n
          → Turn read b first test most size (set seen n word) (n + 1) next (clash || new)
      turn_next l new q = record {
        gathered = gather_next read b first seen n at t.gathered h next m word e (omega arith);
        few = omega arith;
        room = t.room;
        same_length = length-set seen n word ∙ t.same_length;
        told = clash_next test most look seen n word clash new t.told q;
      }
