-- What a load lets be seen of a sound table: a number, or the image's entries and records, and of no bytes what a startup does. Assumes nothing.
use Prim.Native.Nat.{ℕ}
use mathlib.Core.Path.{◌≡◌, refl}
use mathlib.Core.Bool.{true, false, cond}
use mathlib.Core.List.{List, [], ◌∷◌}
use native.Mathlib.Omega.{arith}
use lib.ListN.{length, get_or}
use Rattle.std.proofs.Common.{Option, Some, None}
use Rattle.words.specs.Constants.{success, bad_image, clashing_image}
use Rattle.words.proofs.Below.{every_intro}
use Rattle.records.specs.Records.{record_sound, records_sound}
use Rattle.state.specs.Table.{Table}
use Rattle.state.specs.Sound.{sound}
use Rattle.state.specs.Answer.{result_of, refused, refusal_of, guarded}
use Rattle.image_reader.specs.Image.{Image, image_in}
use Rattle.image_gate.specs.Verdict.{clashes, verdict}
use Rattle.image_load.specs.Loading.{restored, load_tlv, load_image}
use Rattle.image_load.proofs.Restoring.{each, restored-entries, restored-records, restored-sound}
use Rattle.image_load.proofs.Decoding.{image_decoded}
use Rattle.observation.specs.Calls.{load, step, of_result, Bytes, NoBytesStart}
use Rattle.observation.proofs.Changes.{view_of, stepped}
use Rattle.observation.proofs.Effects.{loaded_by, decoded, loaded}
use Rattle.observation.proofs.ActsLifecycle.{start_acts}
use Rattle.observation.proofs.Loaded.{bytes_below, each_at}
use Rattle.observation.proofs.Acts.{Shows, itself, Acts, results, acts_passed, acts_refused}

words-sound : (rs : List ℕ) → each record_sound rs ≡ true → records_sound rs (length rs) ≡ true
unfolding records_sound
words-sound rs e = every_intro (λ i. record_sound (get_or rs i 0)) (length rs) (λ i l. each_at 0 record_sound rs i l e)

module _ (t : Table) (sd : sound t ≡ true) (image : List ℕ) (bytes : Bytes image) where
  restores : (i : Image) → image_in t.state.size image ≡ Some i
      → Shows (restored (Some i) t) (record {
        size = t.state.size;
        modes = t.state.modes;
        dataver = stepped t.state.dataver;
        entries = i.entries;
        records = i.records;
      })
  unfolding view_of restored
  restores i e =
      let h = image_decoded image (bytes_below image bytes) t.state.size i e in
      let es = restored-entries t sd i h.entries_few h.fields-short in
      let rs = restored-records t sd i h.entries_few h.fields-short h.records_few in
      record {
        view = λ k. record { size = t.state.size; modes = t.state.modes; dataver = stepped t.state.dataver; entries = es k; records = rs k };
        stays = restored-sound t sd i h.entries_few h.fields-short h.records_few h.keys-sound (words-sound i.records h.records-sound);
      }

  -- what follows from what the bytes are read as
  judged : (o : Option Image) → image_in t.state.size image ≡ o
      → Acts (of_result (guarded (refused t) (refusal_of t (verdict o)) (result_of success false (restored o t)))) (decoded o (view_of t))
  unfolding verdict view_of
  judged None e = acts_refused (refused t) t sd bad_image _ of_result _ (λ z. omega arith) (results bad_image false t (view_of t) (itself t sd))
  judged (Some i) e =
      (elim (clashes i) as (λ b. Acts (of_result (guarded (refused t) (refusal_of t (cond b clashing_image success)) (result_of success false (restored (Some i) t))))
      (loaded_by b i (view_of t))) [
        | true ↦ acts_refused (refused t) t sd clashing_image _ of_result _ (λ z. omega arith) (results clashing_image false t (view_of t) (itself t sd))
        | false ↦ acts_passed (refused t) t sd success _ of_result _ refl (results success false _ _ (restores i e))
      ])

pub load_acts : (t : Table) → sound t ≡ true → (image : List ℕ) → Bytes image → Acts (step (load image) t) (loaded image (view_of t))
unfolding step load_tlv load_image view_of
load_acts t sd [] bytes = start_acts t sd
load_acts t sd (b ∷ bs) bytes = judged t sd (b ∷ bs) bytes (image_in t.state.size (b ∷ bs)) refl

-- a load of no bytes is a startup
pub no_bytes_start : NoBytesStart
unfolding step load_image
no_bytes_start t = refl
