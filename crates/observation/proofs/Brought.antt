-- Which scenes a command can bring: those of the group that it writes to. Assumes nothing.
use Prim.Native.Nat.{ℕ, ◌+◌, ◌*◌, ◌/◌, ◌^◌, ◌<◌}
use native.Mathlib.Omega.{arith}
use mathlib.Core.Path.{◌≡◌, refl, sym, ap, ◌∙◌, subst}
use mathlib.Core.Bool.{Bool, true, false, cond, not, ◌&&◌, ◌||◌}
use mathlib.Core.List.{List, [], ◌∷◌, ◌++◌, map}
use lib.Dec.{eqb, ltb}
use lib.ListN.{length}
use borrow.Author.Tests.{eqb-true, eqb-false, eq-eqb}
use Rattle.words.specs.Constants.{end_of_container}
use Rattle.words.specs.Words.{word_of, scene_of, within, group_keys}
use Rattle.slots.specs.Slots.{SceneEntry}
use Rattle.requests.specs.Requests.{whole_group}
use Rattle.state.specs.Table.{Table}
use Rattle.state.specs.Sound.{sound}
use Rattle.observation.specs.Lists.{bit, count, find}
use Rattle.observation.specs.Calls.{Command, add, add_read, view, remove, remove_all, store, recall, copy, membership, info, command, next, scene_key, CommandInRange}
use Rattle.observation.specs.Equivalence.{key_is}
use Rattle.observation.proofs.Lists.{has}
use Rattle.observation.proofs.Lookups.{holds, entry_of}
use Rattle.observation.proofs.Changes.{View, view_of, room_in, place_for, written, invalidated, remembered, written_all}
use Rattle.observation.proofs.Effects.{Seen, gate_of, time_of, applied, add_out, sources, target, scope_of, copy_out, ids_in}
use Rattle.observation.proofs.Counts.{count-put, count_take_out, count_map}
use Rattle.observation.proofs.Choices.{cond_elim, count_none, count_keep_le}
use Rattle.observation.proofs.Calls.{laws}

-- the group that a command names; of a copy the one that it writes to
abbrev pub group_named : Command → ℕ
group_named (add g s time m pairs ext) = g
group_named (add_read g s time m pairs ext) = g
group_named (view g s m) = g
group_named (remove g s m) = g
group_named (remove_all g m) = g
group_named (store g s m captured) = g
group_named (recall g s m o a) = g
group_named (copy mode g s h r m n) = h
group_named (membership g m buffer) = g
group_named (info single) = 0

-- a scene of a group lies in its range
pub in_group : (f e g s : ℕ) → s < 2 ^ 8 → within (group_keys f e g) (word_of (scene_key f e g s)) ≡ true
unfolding within
in_group f e g s hs = eq-eqb (word_of (scene_key f e g s) / 2 ^ 8) ((f * 2 ^ 16 + e) * 2 ^ 16 + g) (omega arith)

-- entries that pass q are not there, and q passes nothing that is written
module _ (q : SceneEntry → Bool) where
  pub record None (v : View) : Type 0 where
    pub gone : count q v.entries ≡ 0

  none_written : (x : SceneEntry) (v : View) → q x ≡ false → None v → None (written x v)
  none_written x v h z = record { gone = omega (arith, z.gone, count-put q (key_is x.key) x v.entries, ap bit h) }

  none_all : (f : ℕ) (xs : List SceneEntry) (v : View) → count q xs ≡ 0 → None v → None (written_all f xs v).1
  unfolding written_all
  none_all f [] v e z = z
  none_all f (x ∷ xs) v e z =
      cond_elim (λ (o : Bool × View). None o.1) (has (key_is x.key) v.entries || ltb 0 (room_in f v))
      (λ _. none_all f xs (written x v) (omega arith) (none_written x v (bit_none (q x) (omega arith)) z)) (λ _. z)
    where
      bit_none : (b : Bool) → bit b ≡ 0 → b ≡ false
      bit_none true e = absurd (omega arith)
      bit_none false e = refl

  none_copied : (f e mode h r : ℕ) (xs : List SceneEntry) (v : View) → count q xs ≡ 0 → None v → None (copy_out f (scope_of f e mode h r) xs v).1
  unfolding invalidated
  none_copied f e mode h r [] v n z = z
  none_copied f e mode h r (x ∷ xs) v n z =
      let all = none_all f (x ∷ xs) v n z in
      cond_elim (λ (o : Seen). None o.1) (written_all f (x ∷ xs) v).0 (λ _. record { gone = all.gone }) (λ _. all)

  module _ (f e : ℕ) (hf : f < 2 ^ 8) (he : e < 2 ^ 16) (t : Table) (sd : sound t ≡ true) (z : None (view_of t)) where
    -- an add of either kind
    added : (g s time : ℕ) (ext : List ℕ) → s < 2 ^ 8 → ((x : SceneEntry) → holds (group_keys f e g) x ≡ true → q x ≡ false)
        → None (add_out (scene_key f e g s) time ext (view_of t)).1
    unfolding invalidated
    added g s time ext hs out =
        let x = entry_of (scene_key f e g s) time ext in
        cond_elim (λ (o : Seen). None o.1) (place_for f (word_of (scene_key f e g s)) (view_of t))
        (λ _. record { gone = (none_written x (view_of t) (out x (in_group f e g s hs)) z).gone }) (λ _. z)

    -- past the gate
    passed : (c : Command) → CommandInRange c → gate_of f e c ≡ 0 → ((x : SceneEntry) → holds (group_keys f e (group_named c)) x ≡ true → q x ≡ false)
        → None (view_of (next (command f e c) t))
    unfolding invalidated remembered
    passed (add g s time m pairs ext) w p out =
        subst (λ (o : Seen). None o.1) (sym ((laws.commands f e t sd hf he).add_acts g s time m pairs ext w p))
        (added g s time ext w.1 out)
    passed (add_read g s time m pairs ext) w p out =
        subst (λ (o : Seen). None o.1) (sym ((laws.commands f e t sd hf he).add_read_acts g s time m pairs ext w p))
        (added g s time ext w.1 out)
    passed (view g s m) w p out = subst (λ (o : Seen). None o.1) (sym ((laws.commands f e t sd hf he).view_acts g s m w p)) z
    passed (remove g s m) w p out =
        subst (λ (o : Seen). None o.1) (sym ((laws.commands f e t sd hf he).remove_acts g s m w p))
        (cond_elim (λ (o : Seen). None o.1) (has (key_is (word_of (scene_key f e g s))) (view_of t).entries)
        (λ _. record { gone = omega (arith, z.gone, count_take_out q (key_is (word_of (scene_key f e g s))) (view_of t).entries) }) (λ _. z))
    passed (remove_all g m) w p out =
        subst (λ (o : Seen). None o.1) (sym ((laws.commands f e t sd hf he).remove_all_acts g m w p))
        (cond_elim (λ (o : Seen). None o.1) (has (holds (group_keys f e g)) (view_of t).entries)
        (λ _. record { gone = omega (arith, z.gone, count_keep_le q (λ x. not (holds (group_keys f e g) x)) (view_of t).entries) }) (λ _. z))
    passed (store g s m captured) w p out =
        subst (λ (o : Seen). None o.1) (sym ((laws.commands f e t sd hf he).store_acts g s m captured w p))
        (let x = entry_of (scene_key f e g s) (time_of (find (key_is (word_of (scene_key f e g s))) (view_of t).entries)) (captured ++ (end_of_container ∷ [])) in
        cond_elim (λ (o : Seen). None o.1) (place_for f (word_of (scene_key f e g s)) (view_of t))
        (λ _. record { gone = (none_written x (view_of t) (out x (in_group f e g s w.1)) z).gone }) (λ _. z))
    passed (recall g s m o a) w p out =
        subst (λ (r : Seen). None r.1) (sym ((laws.commands f e t sd hf he).recall_acts g s m o a w p))
        (cond_elim None (has (key_is (word_of (scene_key f e g s))) (view_of t).entries && applied a) (λ _. record { gone = z.gone }) (λ _. z))
    passed (copy mode g s h r m n) w p out =
        subst (λ (o : Seen). None o.1) (sym ((laws.commands f e t sd hf he).copy_acts mode g s h r m n w p))
        (cond_elim (λ (o : Seen). None o.1) (eqb (room_in f (view_of t)) 0) (λ _. z)
        (λ _. none_copied f e mode h r (map (target f e mode h r) (sources f e mode g s (view_of t))) (view_of t)
        (count_map q (target f e mode h r) (sources f e mode g s (view_of t))
        ∙ count_none (λ x. q (target f e mode h r x)) (λ x.
        out (target f e mode h r x) (in_group f e h (cond (whole_group mode) (scene_of x.key) r) (cond_elim (λ (k : ℕ). k < 2 ^ 8) (whole_group mode) (λ _. omega arith) (λ _. w.4))))
        (sources f e mode g s (view_of t))) z))
    passed (membership g m buffer) w p out =
        subst (λ (o : Seen). None o.1) (sym ((laws.commands f e t sd hf he).membership_acts g m buffer w p))
        (cond_elim (λ (o : Seen). None o.1) (ltb (length buffer) (length (ids_in f e g (view_of t)))) (λ _. z) (λ _. z))
    passed (info single) w p out = subst (λ (o : Seen). None o.1) (sym ((laws.commands f e t sd hf he).info_acts single p)) z

    -- no command brings an entry that passes q, if none of the group that it names passes q
    pub none_brought : (c : Command) → CommandInRange c
        → (gate_of f e c ≡ 0 → (x : SceneEntry) → holds (group_keys f e (group_named c)) x ≡ true → q x ≡ false) → None (view_of (next (command f e c) t))
    none_brought c w out =
        (elim (eqb (gate_of f e c) 0) as (λ b. eqb (gate_of f e c) 0 ≡ b → None (view_of (next (command f e c) t))) [
          | true ↦ λ p. let y = eqb-true (gate_of f e c) 0 p in passed c w y (out y)
          | false ↦ λ p.
              subst (λ (o : Seen). None o.1) (sym ((laws.commands f e t sd hf he).refused_acts c w (eqb-false (gate_of f e c) 0 p))) z
        ]) refl
