-- The steps in which the code makes its pass over the records: what its parts answer. What the call answers is in `Notice`.
use Rattle.std.specs.Prelude.{ℕ, ⊤, Result, Ok, Err, ◌+◌, Bool, true, false, cond, ◌||◌, eqb, ltb}
use Rattle.words.specs.Refusals.{status_of}
use Rattle.words.specs.declared.Refusal.{Refusal}
use Rattle.words.specs.declared.Refusal.TheVariants.{Unsound}
use Rattle.state.specs.declared.ScenesState.{ScenesState}
use Rattle.state.specs.declared.Outcome.{Outcome}
use Rattle.state.specs.Table.{bump_if}
use Rattle.notices.specs.declared.CurrentScene.{CurrentScene}
use Rattle.notices.specs.declared.Pass.{Pass}
use Rattle.notices.specs.declared.Visited.{Visited}
use Rattle.notices.specs.Notice.{hits, noticed, head_sound}

-- a pass of a head on an endpoint: its answer so far, whether it is in the round that clears, whether a record changed, and its position
abbrev pub pass_of : ScenesState → ℕ → Result ⊤ Refusal → Bool → Bool → ℕ → Pass
pass_of s endpoint answer clears changed at = record { state = s; endpoint = endpoint; answer = answer; clears = clears; changed = changed; at = at }

-- at its start, or over where the head is not sound
abbrev pub begun : ScenesState → ℕ → ℕ → Pass
begun s lent endpoint = cond (head_sound s lent) (pass_of s endpoint (Ok tt) false false 0) (pass_of s endpoint (Err Unsound) false false s.recorded)

-- the first round: a record without a fabric ends the pass, and behind the last record the second round begins
abbrev pub looked : Pass → CurrentScene → Pass
looked p c =
    cond (eqb c.fab_idx 0) (pass_of p.state p.endpoint (Err Unsound) p.clears p.changed p.state.recorded)
    (cond (ltb (p.at + 1) p.state.recorded) (pass_of p.state p.endpoint p.answer p.clears p.changed (p.at + 1))
    (pass_of p.state p.endpoint p.answer true p.changed 0))

-- the second
abbrev pub cleared : Pass → CurrentScene → Pass
cleared p c = pass_of p.state p.endpoint p.answer p.clears (p.changed || hits p.endpoint c) (p.at + 1)

abbrev pub visit : Pass → CurrentScene → Visited
visit p c =
    cond p.clears (record { «record» = noticed p.endpoint c; pass = cleared p c })
    (record { «record» = c; pass = looked p c })

-- the version steps once if a record changed
abbrev pub outcome_of : Pass → Outcome
outcome_of p = record { status = status_of p.answer; save = false; state = bump_if p.changed p.state }
