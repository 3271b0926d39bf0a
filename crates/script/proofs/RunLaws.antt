-- The laws that take the pieces of a run to what a line leaves. Assumes nothing.
use Prim.Native.Nat.{ℕ}
use mathlib.Core.Path.{◌≡◌, refl, sym, ap, subst, ◌∙◌}
use mathlib.Core.Bool.{true, false, false≢true}
use mathlib.Core.List.{List, [], ◌∷◌, map}
use lib.Dec.{eqb}
use lib.ListN.{get_or, take, drop}
use borrow.Author.Tests.{eqb-true, eq-eqb, ne_eqb}
use Rattle.words.specs.Below.{positions}
use Rattle.state.specs.Table.{Table, table_of}
use Rattle.script_answers.specs.declared.Answer.{Answer}
use Rattle.script_machine.specs.declared.Machine.{Machine}
use Rattle.script_machine.specs.declared.Ran.{Ran}
use Rattle.text_output.specs.declared.reason.Reason.TheVariants.{NoTable, NotANumber}
use Rattle.text_output.specs.Writing.{Sheet, sheet}
use Rattle.script_answers.specs.Answers.{answer_line, fits}
use Rattle.script_answers.specs.Done.{done_of, called_of}
use Rattle.groups.specs.Groups.{Groups}
use Rattle.script_lines.specs.Values.{value_at, asking, half_asking}
use Rattle.script_sets.specs.Texts.{sets_line}
use Rattle.script.specs.Calls.{call, any_call}
use Rattle.script_commands.specs.Commands.{command, add, add_read, store, remove, remove_all, copy}
use Rattle.script_reads.specs.Reads.{query, view, recall, list_in, list, info}
use Rattle.script_events.specs.Writes.{host_write, set_version, push_entry, push_record}
use Rattle.script_events.specs.Events.{event}
use Rattle.script_lines.specs.Lines.{one_of, kinds_of, Meaning, word_read, Said, line_says, line_left, ReadsLine}
use Rattle.script_asking.specs.Asked.{add_asked, add_read_asked, store_asked, remove_asked, remove_all_asked, copy_asked, asked_command, view_asked, recall_asked, list_asked, list_in_asked, asked_query}
use Rattle.script_groups.specs.Memberships.{join, leave, held, push_group, removal, group_event}
use Rattle.script_groups.specs.Calls.{needs_groups, GroupCalled, group_called, group_call}
use Rattle.script.specs.Running.{with_heads, Session, session, table_in, groups_in, answered, wrong, answered_call, called, new_table, obeyed, numbers, texts, said_runs, run_line}
use Rattle.script_machine.specs.Machines.{dump_lines, Ended}
use Rattle.script_answers.proofs.DoneLaws.{fit_called}
use Rattle.script_commands.proofs.Fits.{command-fits}
use Rattle.script_reads.proofs.Fits.{query-fits}
use Rattle.script_images.specs.Images.{save, save_in, load, image}
use Rattle.script_images.proofs.Fits.{image-fits}
use Rattle.script_events.proofs.Fits.{event-fits, write_fits}
use Rattle.script_groups.proofs.Fits.{fit_call}
use Rattle.script_groups.proofs.Fits as groups

-- a line that leaves the lent memory, the buffer and the line as they were
pub ended : (n m : Machine) (k t f w g buffer line : List ℕ) (written : Sheet → Sheet) (out after : List ℕ) (at : ℕ) (r : Ran)
    → Ended m written out at after r
    → session r.machine k t f w g buffer line (sheet after r.at) ≡ answered m written (session n k t f w g buffer line (sheet out at))
ended n m k t f w g buffer line written out after at r e = λ i. session (e.machine i) k t f w g buffer line (e.output i)

-- a call
pub called-ends : (s : Session) (letter : ℕ) (a : Answer) (g : Groups) (k t f w buffer : List ℕ) (o : Sheet) (c : GroupCalled)
    → o ≡ answer_line s.machine.trace letter a buffer f s.output
    → group_called (called_of (done_of a (table_of a.state k t f w)) buffer) g ≡ c
    → session (with_heads a.state g.state s.machine) k t f w g.words buffer s.line o ≡ answered_call letter c s
called-ends s letter a g k t f w buffer o c p q =
    ap (session (with_heads a.state g.state s.machine) k t f w g.words buffer s.line) p
    ∙ ap (λ (x : GroupCalled). answered_call letter x s) q

-- ---- a call's tail fits

call_fits : (letter : ℕ) (values : List ℕ) (bytes : ℕ → List ℕ) (buffer : List ℕ) (t : Table) → fits (call letter values bytes buffer t).done.tail
unfolding call
call_fits letter values bytes buffer t =
    fit_called (one_of letter (65 ∷ 66 ∷ 83 ∷ 82 ∷ 88 ∷ 67 ∷ [])) _ _ (command-fits letter values bytes t)
    (fit_called (one_of letter (86 ∷ 76 ∷ 77 ∷ 73 ∷ [])) _ _ (query-fits letter values buffer t)
    (fit_called (one_of letter (75 ∷ 101 ∷ 114 ∷ [])) _ _ (write_fits letter values bytes t)
    (fit_called (one_of letter (80 ∷ 71 ∷ [])) _ _ (image-fits letter values bytes buffer t) (event-fits letter values t))))

pub any_fits : (letter : ℕ) (values : List ℕ) (bytes : ℕ → List ℕ) (buffer : List ℕ) (g : Groups) (t : Table)
    → fits (any_call letter values bytes buffer g t).called.done.tail
unfolding any_call
any_fits letter values bytes buffer g t =
    fit_call (needs_groups letter values) _ _ (groups.call_fits letter values bytes buffer g t) (call_fits letter values bytes buffer t)

pub answer-fits : (a : Answer) (after : Table) (later : List ℕ) (left : Groups) (letter : ℕ) (values : List ℕ) (bytes : ℕ → List ℕ)
    (buffer : List ℕ) (g : Groups) (t : Table)
    → group_called (called_of (done_of a after) later) left ≡ any_call letter values bytes buffer g t → fits a.tail
answer-fits a after later left letter values bytes buffer g t e =
    subst (λ (c : GroupCalled). fits c.called.done.tail) (sym e) (any_fits letter values bytes buffer g t)

-- ---- what an understood line asks for

module _ (letter : ℕ) (values : List ℕ) (bytes : ℕ → List ℕ) (s : Session) where
  pub obeys_size : letter ≡ 78 → new_table (value_at values 0) (value_at values 1) s ≡ obeyed letter values bytes s
  unfolding obeyed
  obeys_size e = rw (eq-eqb letter 78 e)

  module _ (other : letter ≡ 78 → ⊥) where
    pub obeys_half : half_asking letter values ≡ true → wrong NotANumber s ≡ obeyed letter values bytes s
    unfolding obeyed
    obeys_half a = rw (ne_eqb letter 78 other, a)

    module _ (a : half_asking letter values ≡ false) where
      pub obeys_none : s.machine.present ≡ false → wrong NoTable s ≡ obeyed letter values bytes s
      unfolding obeyed
      obeys_none p = rw (ne_eqb letter 78 other, a, p)

      module _ (p : s.machine.present ≡ true) where
        pub obeys_table : letter ≡ 68 → answered s.machine (dump_lines (groups_in s) (table_in s)) s ≡ obeyed letter values bytes s
        unfolding obeyed
        obeys_table e = rw (ne_eqb letter 78 other, a, p, eq-eqb letter 68 e)

        module _ (h : letter ≡ 68 → ⊥) where
          pub obeys_sets : letter ≡ 89
              → answered s.machine (sets_line s.machine.trace s.machine.state (bytes 0)) s ≡ obeyed letter values bytes s
          unfolding obeyed
          obeys_sets e = rw (ne_eqb letter 78 other, a, p, ne_eqb letter 68 h, eq-eqb letter 89 e)

          pub obeys_call : (letter ≡ 89 → ⊥) → called letter values bytes s ≡ obeyed letter values bytes s
          unfolding obeyed
          obeys_call n = rw (ne_eqb letter 78 other, a, p, ne_eqb letter 68 h, ne_eqb letter 89 n)

-- ---- the words of a letter say what it takes

-- a claim at each of some letters
abbrev At : (ℕ → Type 0) → List ℕ → Type 0
At P [] = Unit
At P (l ∷ ls) = P l × At P ls

-- by letter: at each of some, and at any other
cases : (P : ℕ → Type 0) (letter : ℕ) (ls : List ℕ) → At P ls → (one_of letter ls ≡ false → P letter) → P letter
unfolding one_of
cases P letter [] at other = other refl
cases P letter (l ∷ ls) at other =
    (elim (eqb letter l) as (λ b. eqb letter l ≡ b → P letter) [
      | true ↦ λ e. subst P (sym (eqb-true letter l e)) at.0
      | false ↦ λ e. cases P letter ls at.1 (λ n. other (rw e n))
    ]) refl

-- a letter that is none of some is not one of them
none_of : (letter : ℕ) (ls : List ℕ) → one_of letter ls ≡ false → (l : ℕ) → one_of l ls ≡ true → eqb letter l ≡ false
none_of letter ls n l y = ne_eqb letter l (λ e. false≢true (sym n ∙ ap (λ (x : ℕ). one_of x ls) e ∙ y))

-- the letters that take words
abbrev worded : List ℕ
worded =
    78 ∷ 65 ∷ 66 ∷ 83 ∷ 86 ∷ 82 ∷ 88 ∷ 67 ∷ 76 ∷ 77 ∷ 73 ∷ 84 ∷ 70 ∷ 75 ∷ 101 ∷ 114 ∷ 80 ∷ 71 ∷ 89 ∷ 74 ∷ 81 ∷ 72 ∷ 109 ∷ []

-- any other letter asks for the same whatever is read behind it
wordless : (letter : ℕ) → one_of letter worded ≡ false → (values : List ℕ) (bytes : ℕ → List ℕ) (s : Session)
    → obeyed letter values bytes s ≡ obeyed letter [] (λ i. []) s
unfolding obeyed any_call call one_of command query host_write image event half_asking needs_groups asking group_call asked_command asked_query group_event
wordless letter n values bytes s =
    let no : (l : ℕ) → one_of l worded ≡ true → eqb letter l ≡ false = none_of letter worded n in
    simp (
      no 78 refl,
      no 65 refl,
      no 66 refl,
      no 83 refl,
      no 86 refl,
      no 82 refl,
      no 88 refl,
      no 67 refl,
      no 76 refl,
      no 77 refl,
      no 73 refl,
      no 84 refl,
      no 70 refl,
      no 75 refl,
      no 101 refl,
      no 114 refl,
      no 80 refl,
      no 71 refl,
      no 89 refl,
      no 74 refl,
      no 81 refl,
      no 72 refl,
      no 109 refl,
    )

module _ (values starts line : List ℕ) (s : Session) where
  abbrev words : ℕ → List Meaning
  words letter = map (word_read (kinds_of letter) values starts line) (positions 10)

  -- what was read, and what the words say
  abbrev Same : ℕ → Type 0
  Same letter =
      obeyed letter values (λ i. take (get_or values i 0) (drop (get_or starts i 0) line)) s ≡ obeyed letter (numbers (words letter))
      (texts (words letter)) s

  same_each : At Same worded
  unfolding obeyed any_call call one_of command query host_write event add add_read store view remove remove_all copy recall list_in list info set_version push_entry push_record image save_in save load kinds_of positions half_asking needs_groups asking group_call asked_command add_asked add_read_asked store_asked remove_asked remove_all_asked copy_asked asked_query view_asked recall_asked list_in_asked list_asked group_event join leave held push_group removal
  same_each = (refl, (refl, (refl, (refl, (refl, (refl, (refl, (refl, (refl, (refl, (refl, (refl, (refl, (refl, (refl, (refl, (refl, (refl, (refl, (refl, (refl, (refl, (refl, tt)))))))))))))))))))))))

  pub same-words : (letter : ℕ) → Same letter
  same-words letter = cases Same letter worded same_each (λ n. wordless letter n _ _ s ∙ sym (wordless letter n _ _ s))

-- what was read runs as the line does
pub read_runs : (n m : Machine) (k t f w g buffer line after : List ℕ) (output : Sheet) (said : Said) → n ≡ m
    → ReadsLine (line_says n.trace line) (line_left n.trace line) after said
    → said_runs said (session n k t f w g buffer after output) ≡ run_line (session m k t f w g buffer line output)
read_runs n m k t f w g buffer line after output said e q =
    let says = q.says ∙ ap (λ (x : Machine). line_says x.trace line) e in
    let left = q.line ∙ ap (λ (x : Machine). line_left x.trace line) e in
    λ i. said_runs (says i) (session (e i) k t f w g buffer (left i) output)
