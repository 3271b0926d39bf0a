-- The memberships as a list of words: what is asked of it, what a join and a drop leave of it, and that they stay sound. Assumes nothing.
use Prim.Native.Nat.{ℕ, ◌+◌, ◌^◌, ◌≤◌, ◌<◌}
use native.Mathlib.Omega.{arith}
use native.Mathlib.Numerals.{add-one}
use mathlib.Core.Path.{◌≡◌, refl, sym, ap, ◌∙◌}
use mathlib.Core.Bool.{Bool, true, false, not, ◌&&◌}
use mathlib.Core.List.{List, [], ◌∷◌, ◌++◌, map}
use mathlib.Core.Option.{Option}
use lib.Dec.{eqb, leb}
use lib.ListN.{length, take, get_or, set, length-set}
use lib.Seq.{length-take-le, get_or-take, take-suc-set}
use borrow.Author.Tests.{le-leb, eq-eqb, eqb-true}
use Rattle.words.specs.Constants.{max_memberships}
use Rattle.words.specs.Words.{fabric_of, scene_of, within}
use Rattle.words.specs.Below.{positions, every_below}
use Rattle.words.specs.declared.GroupKey.{GroupKey}
use Rattle.words.specs.declared.KeyRange.{KeyRange}
use Rattle.words.proofs.Below.{every_at, every_intro}
use Rattle.words.proofs.Tests.{and_right, and_intro, all_head, all_tail, all_none, all_more, not_false, and_false}
use Rattle.slots.specs.Slots.{key_sound, outside}
use Rattle.slots.proofs.Laws.{outside_le}
use Rattle.records.proofs.View.{length_moved, take-moved}
use Rattle.groups.specs.Groups.{Groups, group_word, group_sound, groups_sound, words_in, is_member, with_member, retain_groups, no_groups}
use Rattle.groups.proofs.Laws.{groups_few, groups-room, groups_fit}
use Rattle.observation.specs.Lists.{bit, count, keep}
use Rattle.observation.specs.Calls.{group_key}
use Rattle.observation.proofs.Lists.{found, has}
use Rattle.observation.proofs.Counts.{count-append, count-keep, count_le, has_map, keep-map, none_find}
use Rattle.observation.proofs.Choices.{count_none}
use Rattle.observation.proofs.Firsts.{count_nowhere, nowhere_count}
use Rattle.observation.proofs.Positions.{has_positions, keep-positions, view-list}
use Rattle.observation.proofs.Sound.{word_sound}

-- a word, by its number
abbrev pub is_word : ℕ → ℕ → Bool
is_word w x = eqb x w

-- a word out of range
abbrev pub bad_word : ℕ → Bool
bad_word w = not (group_sound w)

-- what passes a test is not among those that fail it
pub none_kept : {A : Type 0} (p : A → Bool) (xs : List A) → count p (keep (λ x. not (p x)) xs) ≡ 0
none_kept p xs =
    count-keep p (λ x. not (p x)) xs
    ∙ count_none (λ x. not (p x) && p x) (λ x. elim (p x) as (λ b. (not b && b) ≡ false) [ true ↦ refl | false ↦ refl ]) xs

module _ (g : Groups) (sd : groups_sound g ≡ true) where
  words-list : map (λ i. get_or g.words i 0) (positions g.state.held) ≡ words_in g
  unfolding words_in
  words-list = view-list g.words g.state.held (groups_fit g sd)

  pub words-length : length (words_in g) ≡ g.state.held
  unfolding words_in
  words-length = length-take-le g.state.held g.words (groups_fit g sd)

  -- whether a membership is held
  pub member_has : (k : GroupKey) → is_member k g ≡ (not (eqb k.group 0) && has (is_word (group_word k)) (words_in g))
  unfolding is_member
  member_has k =
      ap (λ (b : Bool). not (eqb k.group 0) && b)
      (has_positions (λ i. eqb (get_or g.words i 0) (group_word k)) g.state.held
      ∙ sym (has_map (is_word (group_word k)) (λ i. get_or g.words i 0) (positions g.state.held))
      ∙ ap (has (is_word (group_word k))) words-list)

  -- a membership without a word is not held, nor is one of a fabric without words
  pub no_member : (k : GroupKey) → count (is_word (group_word k)) (words_in g) ≡ 0 → is_member k g ≡ false
  no_member k z =
      member_has k
      ∙ ap (λ (o : Option ℕ). not (eqb k.group 0) && found o) (none_find (is_word (group_word k)) (words_in g) z) ∙ and_false (not (eqb k.group 0))

  pub no_members : (f e n : ℕ) → e < 2 ^ 16 → n < 2 ^ 16 → count (λ w. eqb (fabric_of w) f) (words_in g) ≡ 0 → is_member (group_key f e n) g ≡ false
  no_members f e n he hn z =
      let w = group_word (group_key f e n) in
      let its : eqb (fabric_of w) f ≡ true = eq-eqb (fabric_of w) f (omega arith) in
      let own : (x : ℕ) → is_word w x ≡ true → eqb (fabric_of x) f ≡ true = λ x q. ap (λ (y : ℕ). eqb (fabric_of y) f) (eqb-true x w q) ∙ its in
      no_member (group_key f e n) (omega (arith, z, count_le (is_word w) (λ x. eqb (fabric_of x) f) own (words_in g)))

  words_in_range : every_below (λ i. group_sound (get_or g.words i 0)) g.state.held ≡ true
  unfolding groups_sound
  words_in_range =
      let few = leb g.state.held max_memberships in
      let room = leb max_memberships (length g.words) in
      let rest = every_below (λ i. group_sound (get_or g.words i 0)) g.state.held in
      all_head rest [] (all_tail room (rest ∷ []) (all_tail few (room ∷ rest ∷ []) sd))

  -- each word is in range
  pub words-sound : count bad_word (words_in g) ≡ 0
  unfolding words_in
  words-sound =
      count_nowhere 0 bad_word (take g.state.held g.words) (λ i h.
      let k : i < g.state.held = omega (arith, h, length-take-le g.state.held g.words (groups_fit g sd)) in
      ap not (ap group_sound (get_or-take g.state.held g.words i 0 k) ∙ every_at _ g.state.held i k words_in_range))

-- ---- soundness, by the list

pub of_words : (g : Groups) → g.state.held ≤ max_memberships → max_memberships ≤ length g.words → count bad_word (words_in g) ≡ 0 → groups_sound g ≡ true
unfolding groups_sound words_in
of_words g few room z =
    let n = g.state.held in
    let fit : n ≤ length g.words = omega arith in
    let each : every_below (λ i. group_sound (get_or g.words i 0)) n ≡ true =
    every_intro _ n (λ i h.
    not_false (group_sound (get_or g.words i 0))
    (ap bad_word (sym (get_or-take n g.words i 0 h)) ∙ nowhere_count 0 bad_word (take n g.words) z i (omega (arith, length-take-le n g.words fit)))) in
    all_more _ _ (le-leb n max_memberships few) (all_more _ _ (le-leb max_memberships (length g.words) room) (all_more _ _ each all_none))

-- ---- a membership more

pub word_in_range : (k : GroupKey) → 1 ≤ k.fabric → k.fabric < 2 ^ 8 → k.endpoint < 2 ^ 16 → k.group < 2 ^ 16 → group_sound (group_word k) ≡ true
word_in_range k f1 hf he hg =
    and_intro (key_sound (group_word k)) (eqb (scene_of (group_word k)) 0)
    (word_sound (record { fabric = k.fabric; endpoint = k.endpoint; group = k.group; scene = 0 }) f1 hf he hg (omega arith)) (eq-eqb (scene_of (group_word k)) 0 (omega arith))

module _ (k : GroupKey) (g : Groups) (sd : groups_sound g ≡ true) (h : g.state.held < max_memberships) where
  pub joined_words : words_in (with_member k g) ≡ words_in g ++ (group_word k ∷ [])
  unfolding words_in with_member
  joined_words =
      ap (λ (m : ℕ). take m (set g.words g.state.held (group_word k))) (add-one g.state.held)
      ∙ take-suc-set g.words g.state.held (group_word k) (omega (arith, groups-room g sd))

  pub joined-sound : group_sound (group_word k) ≡ true → groups_sound (with_member k g) ≡ true
  unfolding with_member
  joined-sound e =
      of_words (with_member k g) (omega arith) (omega (arith, groups-room g sd, length-set g.words g.state.held (group_word k)))
      (ap (count bad_word) joined_words ∙ omega (arith, count-append bad_word (words_in g) (group_word k ∷ []), words-sound g sd, ap (λ (b : Bool). bit (not b)) e))

-- ---- those outside a range

module _ (r : KeyRange) (g : Groups) (sd : groups_sound g ≡ true) where
  pub kept-words : words_in (retain_groups r g) ≡ keep (λ w. not (within r w)) (words_in g)
  unfolding words_in retain_groups outside
  kept-words =
      let at : ℕ → ℕ = λ i. get_or g.words i 0 in
      let out : ℕ → Bool = λ w. not (within r w) in
      take-moved (outside g.words g.state.held r) g.words
      ∙ ap (map at) (keep-positions (λ i. out (at i)) g.state.held)
      ∙ sym (keep-map out at (positions g.state.held))
      ∙ ap (keep out) (words-list g sd)

  pub kept-sound : groups_sound (retain_groups r g) ≡ true
  unfolding retain_groups
  kept-sound =
      let l = outside_le g.words r g.state.held in
      let out : ℕ → Bool = λ w. not (within r w) in
      of_words (retain_groups r g) (omega (arith, l, groups_few g sd))
      (omega (arith, groups-room g sd, length_moved (outside g.words g.state.held r) g.words (omega (arith, l, groups_fit g sd))))
      (ap (count bad_word) kept-words ∙ omega (
        arith,
        count-keep bad_word out (words_in g),
        count_le (λ w. out w && bad_word w) bad_word (λ w e. and_right (out w) (bad_word w) e) (words_in g),
        words-sound g sd,
      ))

-- ---- none

pub none_words : (g : Groups) → words_in (no_groups g) ≡ []
unfolding words_in
none_words g = refl

pub none_sound : (g : Groups) → groups_sound g ≡ true → groups_sound (no_groups g) ≡ true
unfolding words_in
none_sound g sd = of_words (no_groups g) (omega arith) (groups-room g sd) refl
