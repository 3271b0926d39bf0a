-- What the letters J, Q, H, m, F and Z ask of the memberships and the table, and what is answered, with both as they are left. The words of a
-- line are numbers, `values`. Letters are in ASCII codes.
use Rattle.std.specs.Prelude.{ℕ, Bool, cond, List, [], ◌∷◌, eqb, ltb, length}
use Rattle.words.specs.Constants.{success, unsound, max_memberships}
use Rattle.words.specs.Conditions.{all_of}
use Rattle.state.specs.Table.{Table}
use Rattle.groups.specs.declared.GroupsState.{GroupsState}
use Rattle.groups.specs.declared.GroupRead.{GroupRead}
use Rattle.groups.specs.Groups.{Groups, Joined, join_group, with_member, read_group}
use Rattle.asking.specs.Asking.{Both, leave_group, remove_for_fabric_both, factory_reset_both}
use Rattle.script_lines.specs.Values.{byte, value_at, group_key}
use Rattle.script_answers.specs.declared.Tail.{Tail}
use Rattle.script_answers.specs.declared.Tail.TheVariants.{Nothing, Number}
use Rattle.script_answers.specs.Done.{Done, plain, read_of}

-- an answer, the table and the memberships
pub record GroupDone : Type 0 where
  pub done : Done
  pub groups : Groups

abbrev pub group_done : Done → Groups → GroupDone
group_done d g = record { done = d; groups = g }

-- the table stays as it was
abbrev pub join_done : Joined → Table → GroupDone
join_done j t = group_done (read_of j.status Nothing t) j.groups

-- J
unfoldable pub join : List ℕ → Groups → Table → GroupDone
join values g t = join_done (join_group (group_key values) g) t

-- both may change
abbrev pub both_done : Both → GroupDone
both_done b = group_done (plain b.result) b.groups

-- Q
unfoldable pub leave : List ℕ → Groups → Table → GroupDone
leave values g t = both_done (leave_group (group_key values) g t)

-- 1 where it is held, else 0; nothing at a refusal
abbrev pub held_tail : GroupRead → Tail
held_tail r = cond (eqb r.status success) (Number (cond r.held 1 0)) Nothing

abbrev pub held_done : GroupRead → Groups → Table → GroupDone
held_done r g t = group_done (read_of r.status (held_tail r) t) g

-- H
unfoldable pub held : List ℕ → Groups → Table → GroupDone
held values g t = held_done (read_group (group_key values) g) g t

-- whether one more membership has a fabric, and fits the most that are held and a slice of this length
unfoldable pub group_fits : GroupsState → ℕ → ℕ → Bool
group_fits s fabric words = all_of (ltb 0 fabric ∷ ltb s.held max_memberships ∷ ltb s.held words ∷ [])

-- m: a membership behind the last one, or 6
unfoldable pub push_group : List ℕ → Groups → Table → GroupDone
push_group values g t =
    cond (group_fits g.state (byte (value_at values 0)) (length g.words))
    (group_done (read_of success Nothing t) (with_member (group_key values) g))
    (group_done (read_of unsound Nothing t) g)

-- F
unfoldable pub removal : List ℕ → Groups → Table → GroupDone
removal values g t = both_done (remove_for_fabric_both (byte (value_at values 0)) g t)

-- Z
unfoldable pub reset : Groups → Table → GroupDone
reset g t = both_done (factory_reset_both g t)

-- by letter, Z for any other
unfoldable pub group_event : ℕ → List ℕ → Groups → Table → GroupDone
group_event letter values g t =
    cond (eqb letter 74) (join values g t)
    (cond (eqb letter 81) (leave values g t)
    (cond (eqb letter 72) (held values g t)
    (cond (eqb letter 109) (push_group values g t)
    (cond (eqb letter 70) (removal values g t)
    (reset g t)))))
