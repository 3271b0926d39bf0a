-- `slots::find_in_four` meets its contract. Assumes nothing.
use Prim.Native.Nat.{ℕ, ◌+◌, ◌<◌}
use mathlib.Core.Path.{◌≡◌, sym}
use mathlib.Core.List.{List}
use native.Mathlib.Omega.{arith}
use borrow.Author.Tests.{eq-eqb, ne_eqb}
use lib.ListN.{get_or}
use Rattle.words.proofs.Below.{first_more, first_at}
use Rattle.std.specs.Prelude.{Some, None}
use Rattle.slots.specs.Slots.{first_key}
use Rattle.slots.proofs.find_in_four.Goals as goal

-- one position: the key word stands there, or below the next it does not either
here : (keys : List ℕ) (n i key : ℕ) → i < n → first_key keys i key ≡ None → get_or keys i 0 ≡ key → Some i ≡ first_key keys n key
unfolding first_key
here keys n i key h none e = sym (first_at _ n i h none (eq-eqb _ _ e))

passed : (keys : List ℕ) (i j key : ℕ) → j ≡ i + 1 → first_key keys i key ≡ None → (get_or keys i 0 ≡ key → ⊥) → first_key keys j key ≡ None
unfolding first_key
passed keys i j key next none e = rw next (first_more _ i none (ne_eqb _ _ e))

-- ---- none up to each of the positions

abbrev none : List ℕ → ℕ → ℕ → ℕ → Type 0
none keys at key k = first_key keys (at + k) key ≡ None

pub returns-then-keys-at : goal.returns-then-keys-at
returns-then-keys-at c =
    here _ _ _ _ (omega arith) c.requires.key_value c.if-keys-at.true

pub returns-then-keys-at-2 : goal.returns-then-keys-at-2
returns-then-keys-at-2 c =
    let none_1 : none c.args.keys.now c.args.at c.args.key 1 = passed _ _ _ _ (omega arith) c.requires.key_value c.if-keys-at.false in
    here _ _ _ _ (omega arith) none_1 c.if-keys-at-2.true

pub returns-then-keys-at-3 : goal.returns-then-keys-at-3
returns-then-keys-at-3 c =
    let none_1 : none c.args.keys.now c.args.at c.args.key 1 = passed _ _ _ _ (omega arith) c.requires.key_value c.if-keys-at.false in
    let none_2 : none c.args.keys.now c.args.at c.args.key 2 = passed _ _ _ _ (omega arith) none_1 c.if-keys-at-2.false in
    here _ _ _ _ (omega arith) none_2 c.if-keys-at-3.true

pub returns-then-keys-at-4 : goal.returns-then-keys-at-4
returns-then-keys-at-4 c =
    let none_1 : none c.args.keys.now c.args.at c.args.key 1 = passed _ _ _ _ (omega arith) c.requires.key_value c.if-keys-at.false in
    let none_2 : none c.args.keys.now c.args.at c.args.key 2 = passed _ _ _ _ (omega arith) none_1 c.if-keys-at-2.false in
    let none-3 : none c.args.keys.now c.args.at c.args.key 3 = passed _ _ _ _ (omega arith) none_2 c.if-keys-at-3.false in
    here _ _ _ _ (omega arith) none-3 c.if-keys-at-4.true

pub returns : goal.returns
returns c =
    let none_1 : none c.args.keys.now c.args.at c.args.key 1 = passed _ _ _ _ (omega arith) c.requires.key_value c.if-keys-at.false in
    let none_2 : none c.args.keys.now c.args.at c.args.key 2 = passed _ _ _ _ (omega arith) none_1 c.if-keys-at-2.false in
    let none-3 : none c.args.keys.now c.args.at c.args.key 3 = passed _ _ _ _ (omega arith) none_2 c.if-keys-at-3.false in
    let none-4 : none c.args.keys.now c.args.at c.args.key 4 = passed _ _ _ _ (omega arith) none-3 c.if-keys-at-4.false in
    sym none-4
