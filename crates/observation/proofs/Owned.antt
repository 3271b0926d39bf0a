-- A sound table stays sound through any list of a host's calls, a new one is sound, and the start has to be. Assumes nothing.
use Prim.Native.Nat.{ℕ}
use mathlib.Core.Path.{◌≡◌, refl}
use mathlib.Core.Bool.{true}
use mathlib.Core.List.{List, [], ◌∷◌}
use native.Mathlib.Omega.{arith}
use lib.Dec.{eqb}
use lib.ListN.{length}
use Rattle.words.specs.Constants.{success}
use Rattle.std.specs.Prelude.{None}
use Rattle.state.specs.Table.{Table, table_of, new_state, new_state_with, with_entry_count}
use Rattle.state.specs.Sound.{sound}
use Rattle.state.specs.Answer.{refusal_of, guarded}
use Rattle.image_save.specs.Saving.{Saved, image_of, buffer_gate, save_image}
use Rattle.observation.specs.Calls.{recall, command}
use Rattle.observation.specs.Owned.{HostCall, made, recall_looked_up, recall_ended, image_saved, fields_read, leaves, HostInRange, SoundThroughout, at_end, before, StaysSound, NewSound, NotFromAny}
use Rattle.observation.proofs.Calls.{step-sound}
use Rattle.observation.proofs.Numbers.{either}
use Rattle.observation.proofs.Refusals.{lookup-state, runs}
use Rattle.observation.proofs.Sound.{to_each, of_each}

-- a save hands the head back as it came, whatever it answers
save-state : (buffer : List ℕ) (t : Table) → (save_image buffer t).answer.state ≡ t.state
unfolding save_image guarded
save-state buffer t =
    either (λ (s : Saved). s.answer.state ≡ t.state) (eqb (refusal_of t (buffer_gate (length (image_of t)) (length buffer))) success) refl refl

-- the end of a recall leaves what the whole recall does
call-sound : (c : HostCall) (t : Table) → HostInRange c → sound t ≡ true → sound (leaves c t) ≡ true
call-sound (made c) t w sd = step-sound c t w sd
call-sound (recall_looked_up key m o) t w sd = rw (lookup-state key m o t) sd
call-sound (recall_ended key m a) t w sd =
    let c = command key.fabric key.endpoint (recall key.group key.scene m None a) in
    rw (← (runs c t).table) (step-sound c t (w.0, w.1, (w.2, w.3, omega arith)) sd)
call-sound (image_saved buffer) t w sd = rw (save-state buffer t) sd
call-sound (fields_read at) t w sd = sd

pub stays_sound : StaysSound
stays_sound [] t w sd = at_end sd
stays_sound (c ∷ cs) t w sd = before sd (stays_sound cs (leaves c t) w.1 (call-sound c t w.0 sd))

pub new-sound : NewSound
new-sound size modes keys times fields records most k t f r = of_each (table_of (new_state_with size modes) keys times fields records) (record {
  most = most;
  entries = omega arith;
  recorded = omega arith;
  keys = k;
  times = t;
  fields = f;
  records = r;
  key_at_lem = λ i h. absurd (omega arith);
  length_at_lem = λ i h. omega arith;
  record_at_lem = λ i h. absurd (omega arith);
})

-- ---- a start that is not sound

-- one entry in a table of no places
abbrev overfull : Table
overfull = table_of (with_entry_count 1 (new_state 0)) [] [] [] []

-- the table of the first call, or of none, is sound
first : {cs : List HostCall} {t : Table} → SoundThroughout cs t → sound t ≡ true
first (at_end sd) = sd
first (before sd _) = sd

pub not_from_any : NotFromAny
not_from_any claim = omega (arith, (to_each overfull (first (claim [] overfull tt))).entries)
