-- The tails of the answers to lines that need the memberships fit. Assumes nothing.
use Prim.Native.Nat.{ℕ}
use mathlib.Core.Bool.{Bool, true, false, cond}
use mathlib.Core.List.{List, [], ◌∷◌}
use lib.Dec.{eqb}
use lib.ListN.{length}
use Rattle.words.specs.Constants.{success}
use Rattle.state.specs.Table.{Table}
use Rattle.groups.specs.declared.GroupRead.{GroupRead}
use Rattle.groups.specs.Groups.{Groups, read_group}
use Rattle.script_lines.specs.Lines.{one_of}
use Rattle.script_lines.specs.Values.{byte, value_at, group_key}
use Rattle.script_answers.specs.declared.Tail.TheVariants.{Nothing, Number}
use Rattle.script_answers.specs.Answers.{fits}
use Rattle.script_asking.proofs.Fits.{command-fits, query-fits}
use Rattle.script_groups.specs.Memberships.{GroupDone, join, leave, held_tail, held, group_fits, push_group, removal, reset, group_event}
use Rattle.script_groups.specs.Calls.{GroupCalled, group_call}

-- either of two tails fits
fit_group : (b : Bool) (x y : GroupDone) → fits x.done.tail → fits y.done.tail → fits (cond b x y).done.tail
fit_group true x y p q = p
fit_group false x y p q = q

pub fit_call : (b : Bool) (x y : GroupCalled) → fits x.called.done.tail → fits y.called.done.tail → fits (cond b x y).called.done.tail
fit_call true x y p q = p
fit_call false x y p q = q

held_fits : (r : GroupRead) → fits (held_tail r)
held_fits r =
    elim (eqb r.status success) as (λ b. fits (cond b (Number (cond r.held 1 0)) Nothing)) [
      | true ↦ tt
      | false ↦ tt
    ]

event-fits : (letter : ℕ) (values : List ℕ) (g : Groups) (t : Table) → fits (group_event letter values g t).done.tail
unfolding group_event join leave held push_group removal reset
event-fits letter values g t =
    fit_group (eqb letter 74) _ _ tt (fit_group (eqb letter 81) _ _ tt
    (fit_group (eqb letter 72) _ _ (held_fits (read_group (group_key values) g))
    (fit_group (eqb letter 109) _ _ (fit_group (group_fits g.state (byte (value_at values 0)) (length g.words)) _ _ tt tt)
    (fit_group (eqb letter 70) _ _ tt tt))))

pub call_fits : (letter : ℕ) (values : List ℕ) (bytes : ℕ → List ℕ) (buffer : List ℕ) (g : Groups) (t : Table)
    → fits (group_call letter values bytes buffer g t).called.done.tail
unfolding group_call
call_fits letter values bytes buffer g t =
    fit_call (one_of letter (65 ∷ 66 ∷ 83 ∷ 82 ∷ 88 ∷ 67 ∷ [])) _ _ (command-fits letter values bytes g t)
    (fit_call (one_of letter (86 ∷ 76 ∷ 77 ∷ [])) _ _ (query-fits letter values buffer g t) (event-fits letter values g t))
