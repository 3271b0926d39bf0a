-- The laws that take the steps of a letter of memberships to its definition. Assumes nothing.
use Prim.Native.Nat.{ℕ, ◌<◌}
use mathlib.Core.Path.{◌≡◌, sym, ap, ◌∙◌}
use mathlib.Core.Bool.{Bool, true, false}
use mathlib.Core.List.{List}
use lib.ListN.{length}
use borrow.Author.Tests.{ltb-true}
use Rattle.words.specs.Constants.{success, unsound, max_memberships}
use Rattle.words.proofs.Tests.{all_head, all_tail}
use Rattle.words.specs.declared.GroupKey.{GroupKey}
use Rattle.state.specs.Table.{Table, table_of}
use Rattle.state.specs.Answer.{result_of}
use Rattle.groups.specs.declared.GroupsState.{GroupsState}
use Rattle.groups.specs.Groups.{Groups, groups_of, with_member}
use Rattle.asking.specs.declared.BothOutcome.{BothOutcome}
use Rattle.asking.specs.Asking.{Both, both_of}
use Rattle.script_lines.specs.Values.{byte, value_at, group_key}
use Rattle.script_answers.specs.declared.Tail.TheVariants.{Nothing}
use Rattle.script_answers.specs.Done.{done_of, read_of}
use Rattle.script_groups.specs.declared.calls.GroupAnswer.{GroupAnswer}
use Rattle.script_groups.specs.Memberships.{GroupDone, group_done, both_done, group_fits, push_group}

module _ (k tm f r w : List ℕ) where
  -- an answer, with the lent lists
  abbrev pub ends : GroupAnswer → GroupDone
  ends a = group_done (done_of a.answer (table_of a.answer.state k tm f r)) (groups_of a.groups w)

  -- a call that may change both
  pub both_done_lem : (a : GroupAnswer) (o : BothOutcome) (x : Both)
      → a ≡ record { answer = record { status = o.status; save = o.save; state = o.state; tail = Nothing }; groups = o.groups }
      → both_of (result_of o.status o.save (table_of o.state k tm f r)) (groups_of o.groups w) ≡ x
      → ends a ≡ both_done x
  both_done_lem a o x e q = ap ends e ∙ ap both_done q

-- a raw write
module _ (values : List ℕ) (g : Groups) (t : Table) where
  pub group_pushed : group_fits g.state (byte (value_at values 0)) (length g.words) ≡ true
      → group_done (read_of success Nothing t) (with_member (group_key values) g) ≡ push_group values g t
  unfolding push_group
  group_pushed e = rw e

  pub group-refused : group_fits g.state (byte (value_at values 0)) (length g.words) ≡ false
      → group_done (read_of unsound Nothing t) g ≡ push_group values g t
  unfolding push_group
  group-refused e = rw e

module _ (s : GroupsState) where
  pub group_test : (key : GroupKey) (values : List ℕ) → key ≡ group_key values → (words : ℕ) (b v : Bool)
      → b ≡ group_fits s key.fabric words → b ≡ v → group_fits s (byte (value_at values 0)) words ≡ v
  group_test key values same words b v e h = ap (λ (k : GroupKey). group_fits s k.fabric words) (sym same) ∙ sym e ∙ h

  pub group-room : (fabric words : ℕ) {b : Bool} → b ≡ group_fits s fabric words → b ≡ true → (s.held < max_memberships) × (s.held < words)
  unfolding group_fits
  group-room fabric words e h =
      let a = all_tail _ _ (sym e ∙ h) in
      (ltb-true _ _ (all_head _ _ a), ltb-true _ _ (all_head _ _ (all_tail _ _ a)))
